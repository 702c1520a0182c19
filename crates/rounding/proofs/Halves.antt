-- Halving finds the greatest number that passes a test, where each number past one that fails fails too.
use mathlib.Core.Path.{◌≡◌}
use mathlib.Core.Bool.{Bool, true, false}
use Prim.Native.Nat.{ℕ, ◌+◌, ◌*◌, ◌≤◌, ◌<◌}
use native.Mathlib.Nat.{mul-le-mul, mul-le-mul_right}
use native.Mathlib.Omega.{arith}
use lib.Dec.{leb}
use Rattle.rules.specs.Rounding.{greatest}
use Rattle.rules.proofs.rounding.Searches.{greatest_is, greatest_unique}

-- What is searched lies from `low`, which passes, to below `high`, from where on none passes.
pub record Bracket (p : ℕ → Bool) (top low high : ℕ) : Type 0 where
  pub order : low < high
  pub inside : high ≤ top + 1
  pub passes : p low ≡ true
  pub fails : (k : ℕ) → high ≤ k → k ≤ top → p k ≡ false

-- Where no more than one is left, it is the greatest.
pub found : (p : ℕ → Bool) (top low high : ℕ) → Bracket p top low high → high ≤ low + 1 → low ≡ greatest p top
found p top low high b h =
    greatest_unique p top low (greatest p top)
    (record { high = omega (arith, b.order, b.inside); hit = λ _. b.passes; after = λ k a l. b.fails k (omega arith) l })
    (greatest_is p top)

-- ---- squares
-- n² a <= b.
abbrev pub square_fits : ℕ → ℕ → ℕ → Bool
square_fits a b n = leb (n * n * a) b

pub square_le : (a m n : ℕ) → m ≤ n → m * m * a ≤ n * n * a
square_le a m n h = mul-le-mul_right a (mul-le-mul h h)
