-- Adding up: entries one after the other, and a group with those after it, come to the sums of the whole.
use mathlib.Core.Path.{◌≡◌}
use Prim.Native.Nat.{ℕ}
use native.Mathlib.Omega.{arith}
use lib.ListN.{length-append}
use Rattle.rules.specs.Blocks.{Load, Values}
use Rattle.rules.specs.Layout.{Entries, end, leaf, group}
use Rattle.rules.specs.Loading.{flat, total, mass, moment, free_surface}
use Rattle.rules.proofs.loading.Sums.{total_append}
use Rattle.book.specs.Book.{sums_of}
use Rattle.book.specs.declared.Sums.{Sums}
use Rattle.blocks.specs.BlockAnswers.{sums_of_one}
use Rattle.frames.specs.Sums.{none, plus}

-- Sums are the same where each of the four is.
pub same : {a b c d a' b' c' d' : ℕ} → a ≡ a' → b ≡ b' → c ≡ c' → d ≡ d' → ◌≡◌ {A = Sums} (record { count = a; mass = b; moment = c; free = d }) (record { count = a'; mass = b'; moment = c'; free = d' })
same p q r s = rw (p, q, r, s)

pub plus_none : (t : Sums) → plus none t ≡ t
plus_none t = same (omega arith) (omega arith) (omega arith) (omega arith)

module _ (t : Sums) where
  pub plus_end : plus t (sums_of end) ≡ t
  unfolding sums_of flat total
  plus_end = same (omega arith) (omega arith) (omega arith) (omega arith)

  pub plus_leaf : (k : Load) (v : Values k) (r : Entries) → plus t (sums_of (leaf k v r)) ≡ plus (plus t (sums_of_one k v)) (sums_of r)
  unfolding sums_of flat total
  plus_leaf k v r = same (omega arith) (omega arith) (omega arith) (omega arith)

  pub plus_group : (g r : Entries) → plus t (sums_of (group g r)) ≡ plus (plus t (sums_of g)) (sums_of r)
  unfolding sums_of flat
  plus_group g r =
      let a = flat g in
      let b = flat r in
      same (omega (arith, length-append a b)) (omega (arith, total_append mass a b)) (omega (arith, total_append moment a b)) (omega (arith, total_append free_surface a b))
