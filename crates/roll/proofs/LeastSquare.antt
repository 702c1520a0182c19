-- The least number whose square reaches a product is one past the greatest whose square falls short.
use mathlib.Core.Path.{◌≡◌}
use Prim.Native.Nat.{ℕ, suc, ◌+◌, ◌-◌, ◌*◌, ◌≤◌, ◌<◌}
use native.Mathlib.Omega.{arith}
use native.Mathlib.Decide.{ℕ_discrete}
use mathlib.Core.Bool.{Bool, true, false}
use lib.Dec.{leb}
use borrow.Author.Tests.{le-leb, lt-leb, leb-true, leb-false}
use Rattle.rules.specs.Rounding.{first, greatest}
use Rattle.rules.proofs.rounding.Searches.{First, first_is, first_unique, Greatest, greatest_is}
use Rattle.rounding.proofs.Halves.{square_le}

module _ (a product : ℕ) (some : 0 < product) where
  abbrev reaches : ℕ → Bool
  reaches m = leb product (a * m * m)

  abbrev short : ℕ → Bool
  short n = leb (n * n * a) (product - 1)

  falls : (k n : ℕ) → k ≤ n → short n ≡ true → reaches k ≡ false
  falls k n l e = lt-leb product (a * k * k) (omega (arith, leb-true (n * n * a) (product - 1) e, square_le a k n l))

  pub least_square : (top : ℕ) → greatest short top + 1 ≡ first reaches (suc top) 0
  least_square top = first_unique reaches 0 (0 + suc top) (greatest short top + 1) (first reaches (suc top) 0) (past (greatest short top) (greatest_is short top)) (first_is reaches (suc top) 0)
    where
      past : (n : ℕ) → Greatest short top n → First reaches 0 (0 + suc top) (n + 1)
      past n g = record {
        low = omega arith;
        high = omega (arith, g.high);
        hit = λ h. le-leb product (a * (n + 1) * (n + 1)) (omega (arith, leb-false ((n + 1) * (n + 1) * a) (product - 1) (g.after (n + 1) (omega arith) (omega arith))));
        before = λ k _ h. elim (ℕ_discrete n 0) [
          | yes e ↦ let z : k ≡ 0 = omega arith in rw z (lt-leb product (a * 0 * 0) (omega arith))
          | no e ↦ falls k n (omega arith) (g.hit (omega arith))
        ];
      }
