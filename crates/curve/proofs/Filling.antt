-- An array that a loop fills, entry by entry.
use mathlib.Core.Path.{◌≡◌, sym, ◌∙◌}
use mathlib.Core.List.{List, [], ◌∷◌, map}
use Prim.Native.Nat.{ℕ, zero, suc, ◌+◌, ◌<◌}
use native.Mathlib.Omega.{arith}
use lib.ListN.{length, get_or, set}
use lib.Seq.{get_or-set_same, get_or-set_other, ext_get_or}
use borrow.Author.Count.{below_more}
use Rattle.rules.specs.Curve.{stations}

-- The first n entries are those of f.
pub record Filled {A : Type 0} (d : A) (f : ℕ → A) (n : ℕ) (xs : List A) : Type 0 where
  pub at : (k : ℕ) → k < n → get_or xs k d ≡ f k

module _ {A : Type 0} (d : A) (f : ℕ → A) where
  pub filled_none : (xs : List A) → Filled d f 0 xs
  filled_none xs = record { at = λ k h. absurd (omega arith) }

  pub filled_more : (n : ℕ) (xs : List A) (v : A) → n < length xs → Filled d f n xs → v ≡ f n → Filled d f (n + 1) (set xs n v)
  filled_more n xs v long so_far e =
      record { at = below_more (λ k. get_or (set xs n v) k d ≡ f k) n (λ k h. get_or-set_other xs n k v d (λ q. absurd (omega arith)) ∙ so_far.at k h) (get_or-set_same xs n v d long ∙ e) }

-- ---- thirteen stations
-- k, k + 1, .., n of them.
count : ℕ → ℕ → List ℕ
count k zero = []
count k (suc n) = k ∷ count (suc k) n

counted : {A : Type 0} (d : A) (f : ℕ → A) (n k i : ℕ) → i < n → get_or (map f (count k n)) i d ≡ f (k + i)
unfolding count
counted d f zero k i h = absurd (omega arith)
counted d f (suc n) k zero h = let e : k ≡ k + 0 = omega arith in rw (← e)
counted d f (suc n) k (suc i) h = let e : suc k + i ≡ k + suc i = omega arith in counted d f n (suc k) i (omega arith) ∙ rw e

pub at_station : {A : Type 0} (d : A) (f : ℕ → A) (i : ℕ) → i < 13 → get_or (map f stations) i d ≡ f i
unfolding count
at_station d f i h = let e : 0 + i ≡ i = omega arith in rw e at (counted d f 13 0 i h)

pub all_stations : {A : Type 0} (d : A) (f : ℕ → A) (xs : List A) → length xs ≡ 13 → Filled d f 13 xs → xs ≡ map f stations
all_stations d f xs long full = ext_get_or d xs (map f stations) long (λ i h. full.at i (omega arith) ∙ sym (at_station d f i (omega arith)))
