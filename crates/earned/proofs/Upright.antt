-- 'KN .. first one 0': the curve begins at zero, so that it is one with its mirror to windward.
use mathlib.Core.Path.{◌≡◌}
use mathlib.Core.List.{List, [], ◌∷◌}
use Prim.Native.Nat.{ℕ, ◌+◌, ◌*◌, ◌≤◌}
use native.Mathlib.Omega.{arith}
use lib.ListN.{drop, get_or}
use lib.IntN.{pos, sub_ℕ}
use Rattle.rules.specs.Blocks.{row, ok, within}
use Rattle.rules.specs.Curve.{Loaded, lever, lever_z, y}
use Rattle.rules.specs.Ranges.{row_at, Fair}
use Rattle.rules.proofs.rounding.Signed.{eq!, sub≡}
use Rattle.rules.proofs.layout.Fields.{both_true, Limited, limited}

pub upright : (c : Loaded) → Fair c → y c (pos 0) ≡ pos 0
unfolding ok Limited lever_z lever
upright c fair = zero_there (get_or c.kn 0 0) (get_or c.kn 1 0) (first c.kn (limited row.fields (row.listed (row_at c)) (both_true (within row.fields (row.listed (row_at c))) (row.further (row_at c)) fair.form).0).2.2.2)
  where
    first : (kn : List ℕ) → Limited (drop 3 row.fields) kn → get_or kn 0 0 ≤ 0
    first [] l = omega arith
    first (v ∷ kn) l = l.1

    zero_there : (v w : ℕ) → v ≤ 0 → sub_ℕ (c.unit * 100_000 * (v * 50 + w * 0)) (c.kg * 0) ≡ pos 0
    zero_there v w h = let e : v ≡ 0 = omega arith in rw e (eq! (sub_ℕ (c.unit * 100_000 * (0 * 50 + w * 0)) (c.kg * 0)) (pos 0) (omega (arith, sub≡ (c.unit * 100_000 * (0 * 50 + w * 0)) (c.kg * 0))))
