-- What an answer of the code tells of the rules' answer that it stands for.
use mathlib.Core.Path.{◌≡◌, refl, ap, sym, ◌∙◌}
use Prim.Native.Nat.{ℕ}
use native.Mathlib.Omega.{arith}
use Rattle.std.specs.Prelude.{Result, Ok, Err}
use Rattle.std.specs.Result.{IsErrAnd}
use Rattle.std.proofs.lemmas.Result.{err_from_is_err_and}
use Rattle.rules.specs.Outcome.{Ans, refused, got}
use Rattle.book.specs.Book.{refusal, answered, Refuses}
use Rattle.book.specs.declared.Refusal.{Refusal}
use Rattle.book.proofs.Faults.{fault_number_lem}

-- It is this refusal.
pub record Refused {A : Type 0} (m : Ans A) (x : Refusal) : Type 0 where
  pub number : ℕ
  pub line : ℕ
  pub offset : ℕ
  pub is : m ≡ refused number line offset
  pub told : x ≡ refusal number line offset

-- It is what was read.
pub record Got {A B : Type 0} (f : A → B) (m : Ans A) (b : B) : Type 0 where
  pub value : A
  pub is : m ≡ got value
  pub told : b ≡ f value

module _ {A B : Type 0} (f : A → B) (m : Ans A) (r : Result B Refusal) (e : r ≡ answered f m) where
  pub was_refused : (x : Refusal) → r ≡ Err x → Refused m x
  was_refused x q = go m (sym q ∙ e)
    where
      go : (m : Ans A) → Err x ≡ answered f m → Refused m x
      go (refused n l o) p = record { number = n; line = l; offset = o; is = refl; told = cc }
      go (got a) p = absurd (let z : ◌≡◌ {A = ℕ} 0 1 = cc in omega arith)

  pub was_got : (b : B) → r ≡ Ok b → Got f m b
  was_got b q = go m (sym q ∙ e)
    where
      go : (m : Ans A) → Ok b ≡ answered f m → Got f m b
      go (refused n l o) p = absurd (let z : ◌≡◌ {A = ℕ} 0 1 = cc in omega arith)
      go (got a) p = record { value = a; is = refl; told = cc }

-- A refusal is passed on as it is.
pub passed_on : {A B C : Type 0} (g : C → B) (m : Ans A) (n : Ans C) (x : Refusal) (h : Refused m x) → ((l o p : ℕ) → m ≡ refused l o p → n ≡ refused l o p) → Err x ≡ answered g n
passed_on g m n x h k = ap Err h.told ∙ sym (ap (answered g) (k _ _ _ h.is))

-- What the code answers where the rules refuse it so.
pub answered_refused : {A B : Type 0} (f : A → B) (m : Ans A) (x : Refusal) → Refuses m x → answered f m ≡ Err x
answered_refused f m x h = ap (answered f) h ∙ ap (λ g. Err (record { fault = g; place = x.place })) (fault_number_lem x.fault)

-- What `?` returns.
pub passed : {B : Type 0} (r : Result B Refusal) (x : Refusal) → IsErrAnd r (λ y. y ≡ x) → r ≡ Err x
passed r x h = let p = err_from_is_err_and r h in p.1 ∙ ap Err p.2
