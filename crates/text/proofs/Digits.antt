-- Laws of digits and pairs: the table of digits has them all, what a digit and a pair come to in any line, and that they hold no LF.
use mathlib.Core.Path.{◌≡◌, refl, sym, ◌∙◌}
use mathlib.Core.Bool.{Bool, true, false, cond, ◌&&◌}
use mathlib.Core.List.{List, ◌∷◌}
use Prim.Native.Nat.{ℕ, zero, suc, ◌+◌, ◌-◌, ◌*◌, ◌<◌}
use native.Mathlib.Omega.{arith}
use lib.Dec.{leb, ltb, eqb}
use lib.ListN.{get_or}
use borrow.Author.Tests.{leb-true, eqb-true, eqb-false, le-ltb, ne_eqb}
use Rattle.rules.specs.Text.{LF, digit}
use Rattle.rules.specs.Outcome.{Ans, refused, got, ◌>>=◌}
use Rattle.rules.specs.Walk.{nibble, unhex}
use Rattle.rules.proofs.walk.Outcome.{bind_got, bind_refused}
use Rattle.rules.proofs.layout.Fields.{both_true}
use Rattle.text.specs.Line.{value_of, digit_of, digits_up_to, HasDigits, pair_of}
use Rattle.std.specs.Prelude.{Option, None, Some}

-- ---- the table
-- Each character below n has its value in the table d.
unfoldable agree : List ℕ → ℕ → Bool
agree d zero = true
agree d (suc n) = eqb (get_or d n 0) (digit_of n) && agree d n

agrees : (d : List ℕ) (n c : ℕ) → agree d n ≡ true → c < n → get_or d c 0 ≡ digit_of c
unfolding agree
agrees d zero c e h = absurd (omega arith)
agrees d (suc n) c e h = let b = both_true _ _ e in go b.0 (λ k. agrees d n c b.1 k) (eqb c n) refl
  where
    go : eqb (get_or d n 0) (digit_of n) ≡ true → (c < n → get_or d c 0 ≡ digit_of c) → (b : Bool) → eqb c n ≡ b → get_or d c 0 ≡ digit_of c
    go last before true p = let z : c ≡ n = eqb-true c n p in rw z (eqb-true _ _ last)
    go last before false p = before (let m = eqb-false c n p in omega arith)

table_digits : HasDigits (digits_up_to 16)
unfolding digits_up_to digit digit_of nibble agree
table_digits = record { all = refl; each = λ c h. agrees (digits_up_to 16) 256 c refl h }

pub has_digits : (v : List ℕ) → v ≡ digits_up_to 16 → HasDigits v
has_digits v e = rw e table_digits

-- ---- what a digit and a pair say in any line
abbrev digit_says : ℕ → ℕ → Ans ℕ
digit_says ln x = cond (ltb 15 x) (refused 1 ln 0) (got x)

nibble_says : (ln c : ℕ) → nibble ln c ≡ digit_says ln (digit_of c)
unfolding nibble digit_of
nibble_says ln c = go (leb 48 c && leb c 57) (leb 65 c && leb c 70) refl refl
  where
    go : (a b : Bool) → (leb 48 c && leb c 57) ≡ a → (leb 65 c && leb c 70) ≡ b
        → cond a (got (c - 48)) (cond b (got (c - 55)) (refused 1 ln 0)) ≡ digit_says ln (value_of (cond a (got (c - 48)) (cond b (got (c - 55)) (refused 1 0 0))))
    go true b p q = let i = both_true (leb 48 c) (leb c 57) p in rw (le-ltb 15 (c - 48) (omega (arith, leb-true c 57 i.1, leb-true 48 c i.0)))
    go false true p q = let i = both_true (leb 65 c) (leb c 70) q in rw (le-ltb 15 (c - 55) (omega (arith, leb-true c 70 i.1, leb-true 65 c i.0)))
    go false false p q = refl

abbrev pub pair_says : ℕ → Option ℕ → Ans (List ℕ) → Ans (List ℕ)
pair_says ln None m = refused 1 ln 0
pair_says ln (Some x) m = m >>= λ r. got (x ∷ r)

pub unhex_says : (ln a b : ℕ) (s : List ℕ) → unhex ln (a ∷ b ∷ s) ≡ pair_says ln (pair_of a b) (unhex ln s)
unfolding unhex pair_of
unhex_says ln a b s = rw (nibble_says ln a, nibble_says ln b) (go (digit_of a) (digit_of b) (ltb 15 (digit_of a)) (ltb 15 (digit_of b)))
  where
    go : (h l : ℕ) (x y : Bool) → (cond x (refused 1 ln 0) (got h) >>= λ h. cond y (refused 1 ln 0) (got l) >>= λ l. unhex ln s >>= λ r. got ((16 * h + l) ∷ r))
        ≡ pair_says ln (cond x None (cond y None (Some (16 * h + l)))) (unhex ln s)
    go h l true y = bind_refused _ refl
    go h l false true = bind_got _ refl ∙ bind_refused _ refl
    go h l false false = bind_got _ refl ∙ bind_got _ refl

-- A pair of digits holds no LF.
no_byte : {X : Type 0} {x : ℕ} → ◌≡◌ {A = Option ℕ} None (Some x) → X
no_byte e = absurd (let n : ◌≡◌ {A = ℕ} 0 1 = cc in omega arith)

-- No byte either way.
never : (f : Bool) → ◌≡◌ {A = Option ℕ} (cond f None None) None
never true = refl
never false = refl

pub pair_no_feed : (a b x : ℕ) → pair_of a b ≡ Some x → (eqb a LF ≡ false) × (eqb b LF ≡ false)
unfolding pair_of digit_of nibble
pair_no_feed a b x e = (ne_eqb a LF (λ z. no_byte (rw z at e)), ne_eqb b LF (λ z. no_byte (sym (never (ltb 15 (digit_of a))) ∙ rw z at e)))
