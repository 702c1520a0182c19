-- The rows of a table by number: each within its limits, with thirteen KN values, and smooth.
use mathlib.Core.Path.{◌≡◌}
use mathlib.Core.Bool.{true}
use mathlib.Core.List.{List, [], ◌∷◌}
use Prim.Native.Nat.{ℕ, zero, suc, ◌<◌}
use native.Mathlib.Omega.{arith}
use lib.ListN.{length, get_or}
use Rattle.rules.specs.Blocks.{ok, Row, row, smooth}
use Rattle.rules.specs.Layout.{Rising, NoSlips}
use Rattle.rules.specs.Mistyped.{absent_row, nth_row}
use Rattle.rules.proofs.layout.Fields.{both_true, within_long}

pub rising_ok : (m : ℕ) (rows : List Row) (d : Row) → Rising m rows → (i : ℕ) → i < length rows → ok row (get_or rows i d) ≡ true
unfolding Rising
rising_ok m [] d h i l = absurd (omega arith)
rising_ok m (r ∷ rows) d h zero l = h.0
rising_ok m (r ∷ rows) d h (suc i) l = rising_ok r.mass rows d h.2 i (omega arith)

pub kn_long : (v : Row) → ok row v ≡ true → length v.kn ≡ 13
unfolding ok
kn_long v e = let x = within_long row.fields (row.listed v) (both_true _ _ e).0 in omega arith

smooth_at : (rows : List Row) (d : Row) → NoSlips rows → (i : ℕ) → i < length rows → smooth (get_or rows i d).kn ≡ true
unfolding NoSlips
smooth_at [] d S i l = absurd (omega arith)
smooth_at (r ∷ rows) d S zero l = S.0
smooth_at (r ∷ rows) d S (suc i) l = smooth_at rows d S.1 i (omega arith)

pub nth_ok : (rows : List Row) → Rising 0 rows → (k : ℕ) → k < length rows → ok row (nth_row rows k) ≡ true
nth_ok rows R k h = rising_ok 0 rows absent_row R k h

pub nth_smooth : (rows : List Row) → Rising 0 rows → NoSlips rows → (k : ℕ) → k < length rows → (length (nth_row rows k).kn ≡ 13) × (smooth (nth_row rows k).kn ≡ true)
nth_smooth rows R S k h = (kn_long (nth_row rows k) (nth_ok rows R k h), smooth_at rows absent_row S k h)
