-- Two answers with the same refusal, or with values that are so related; and the steps that keep them so.
use mathlib.Core.Path.{◌≡◌, refl, sym}
use mathlib.Core.Logic.{◌↔◌}
use Prim.Native.Nat.{ℕ}
use Rattle.rules.specs.Outcome.{Ans, refused, got, ◌>>=◌}
use Rattle.rules.proofs.walk.Outcome.{refused_got}

pub data Like {A : Type 0} (R : A → A → Type 0) : Ans A → Ans A → Type 0 where
  both_refused : {n l o : ℕ} → Like R (refused n l o) (refused n l o)
  both_got : {a b : A} → R a b → Like R (got a) (got b)

pub like_bind : {A B : Type 0} {R : A → A → Type 0} {S : B → B → Type 0} {a b : Ans A} (f g : A → Ans B) → Like R a b → ((x y : A) → R x y → Like S (f x) (g y)) → Like S (a >>= f) (b >>= g)
unfolding ◌>>=◌
like_bind f g both_refused h = both_refused
like_bind f g (both_got {a} {b} r) h = h a b r

-- The same step twice, and then alike.
pub like_then : {A B : Type 0} {S : B → B → Type 0} (a : Ans A) (f g : A → Ans B) → ((x : A) → Like S (f x) (g x)) → Like S (a >>= f) (a >>= g)
unfolding ◌>>=◌
like_then (refused n l o) f g h = both_refused
like_then (got x) f g h = h x

pub like_same : {A : Type 0} {R : A → A → Type 0} (a : Ans A) → ((x : A) → R x x) → Like R a a
like_same (refused n l o) h = both_refused
like_same (got x) h = both_got (h x)

pub like_weaker : {A : Type 0} {R S : A → A → Type 0} {a b : Ans A} → Like R a b → ((x y : A) → R x y → S x y) → Like S a b
like_weaker both_refused h = both_refused
like_weaker (both_got {a} {b} q) h = both_got (h a b q)

-- Both refused, whatever was to follow.
abbrev pub Never : {A : Type 0} → A → A → Type 0
Never x y = ⊥

pub like_never : {A B : Type 0} {S : B → B → Type 0} {a b : Ans A} (f g : A → Ans B) → Like Never a b → Like S (a >>= f) (b >>= g)
like_never f g h = like_bind f g h (λ x y q. absurd q)

module _ {A : Type 0} {R : A → A → Type 0} where
  pub like_refused : {a b : Ans A} → Like R a b → (n k o : ℕ) → (a ≡ refused n k o) ↔ (b ≡ refused n k o)
  like_refused both_refused n k o = (λ e. e, λ e. e)
  like_refused (both_got q) n k o = (λ e. refused_got (sym e), λ e. refused_got (sym e))

  pub like_got : {a b : Ans A} → Like R a b → (x : A) → a ≡ got x → (y : A) × R x y × (b ≡ got y)
  like_got both_refused x e = refused_got e
  like_got (both_got {a} {b} q) x e = let z : a ≡ x = cc in rw (← z) (b, q, refl)
