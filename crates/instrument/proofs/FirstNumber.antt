-- The first number among answers that is not 0: it is one of theirs, and before it stand zeros only.
use mathlib.Core.Path.{◌≡◌, refl, sym, ◌∙◌}
use mathlib.Core.Bool.{Bool, true, false}
use mathlib.Core.List.{List, [], ◌∷◌}
use mathlib.Core.Logic.{◌↔◌}
use Prim.Native.Nat.{ℕ, zero, suc, ◌≤◌, ◌<◌}
use native.Mathlib.Omega.{arith}
use lib.Dec.{eqb}
use lib.ListN.{length, get_or}
use borrow.Author.Tests.{eqb-true, eqb-false, eq-eqb}
use Rattle.rules.specs.Outcome.{Ans, refused}
use Rattle.rules.specs.Report.{Judgement}
use Rattle.rules.specs.Answer.{number_of, first_number}

abbrev pub number_at : List (Ans Judgement) → ℕ → ℕ
number_at xs k = number_of (get_or xs k (refused 0 0 0))

first_none : first_number [] ≡ 0
unfolding first_number
first_none = refl

first_zero : (a : Ans Judgement) (xs : List (Ans Judgement)) → eqb (number_of a) 0 ≡ true → first_number (a ∷ xs) ≡ first_number xs
unfolding first_number
first_zero a xs e = rw (e, first_number)

first_some : (a : Ans Judgement) (xs : List (Ans Judgement)) → eqb (number_of a) 0 ≡ false → first_number (a ∷ xs) ≡ number_of a
unfolding first_number
first_some a xs e = rw (e, first_number)

-- It is 0 exactly where all are.
all_zero : (xs : List (Ans Judgement)) → first_number xs ≡ 0 → (k : ℕ) → k < length xs → number_at xs k ≡ 0
all_zero [] z k h = refl
all_zero (a ∷ xs) z k h = go (λ z k h. all_zero xs z k h) (eqb (number_of a) 0) refl k h
  where
    go : (first_number xs ≡ 0 → (k : ℕ) → k < length xs → number_at xs k ≡ 0) → (c : Bool) → eqb (number_of a) 0 ≡ c → (k : ℕ) → k < length (a ∷ xs) → number_at (a ∷ xs) k ≡ 0
    go H true p zero h = eqb-true _ _ p
    go H true p (suc k) h = H (sym (first_zero a xs p) ∙ z) k (omega arith)
    go H false p k h = absurd (eqb-false _ _ p (sym (first_some a xs p) ∙ z))

zero_first : (xs : List (Ans Judgement)) → ((k : ℕ) → k < length xs → number_at xs k ≡ 0) → first_number xs ≡ 0
zero_first [] f = first_none
zero_first (a ∷ xs) f = first_zero a xs (eq-eqb _ _ (f 0 (omega arith))) ∙ zero_first xs (λ k h. f (suc k) (omega arith))

pub zero_iff_all : (xs : List (Ans Judgement)) → (first_number xs ≡ 0) ↔ ((k : ℕ) → k < length xs → number_at xs k ≡ 0)
zero_iff_all xs = (all_zero xs, zero_first xs)

-- Otherwise it is the number of one of them, and those before it are 0.
abbrev First : List (Ans Judgement) → Type 0
First xs = (k : ℕ) × (k < length xs) × (number_at xs k ≡ first_number xs) × ((i : ℕ) → i < k → number_at xs i ≡ 0)

pub first_of : (xs : List (Ans Judgement)) → 1 ≤ first_number xs → First xs
first_of [] h = absurd (omega (arith, first_none))
first_of (a ∷ xs) h = go (λ h. first_of xs h) (eqb (number_of a) 0) refl
  where
    before : (k : ℕ) → eqb (number_of a) 0 ≡ true → ((i : ℕ) → i < k → number_at xs i ≡ 0) → (i : ℕ) → i < suc k → number_at (a ∷ xs) i ≡ 0
    before k p f zero g = eqb-true _ _ p
    before k p f (suc i) g = f i (omega arith)

    go : (1 ≤ first_number xs → First xs) → (c : Bool) → eqb (number_of a) 0 ≡ c → First (a ∷ xs)
    go H true p =
        let e = first_zero a xs p in
        let x = H (omega arith) in
        (suc x.0, omega (arith, x.1), x.2 ∙ sym e, before x.0 p x.3)
    go H false p = (0, omega arith, sym (first_some a xs p), λ i g. absurd (omega arith))
