-- What the condition of criterion 8's theorem excludes: a text that passes all eight with a net of +61,440,000, and whose exact b - a is below zero. Its curve lies below -lw2 from 4 degrees to the start.
use mathlib.Core.Path.{◌≡◌, refl, ap, ◌∙◌}
use mathlib.Core.Bool.{false}
use mathlib.Core.List.{[], ◌∷◌}
use Prim.Native.Nat.{ℕ, ◌+◌, ◌*◌}
use native.Mathlib.Omega.{arith}
use lib.ListN.{replicate}
use lib.IntN.{ℤ, pos, neg_ℤ, ◌+ℤ◌, ◌-ℤ◌, ◌*ℤ◌}
use Rattle.rules.specs.Outcome.{got}
use Rattle.rules.specs.Walk.{read}
use Rattle.rules.specs.Answer.{answered, answered_in}
use Rattle.rules.specs.Rounding.{sum_z}
use Rattle.rules.specs.Curve.{Loaded, loaded, loaded_in, y}
use Rattle.rules.specs.Criteria.{lw2}
use Rattle.rules.specs.Roll.{phi1, start, farthest, net, no_gust}
use Rattle.rules.specs.Report.{pass, judgement}
use Rattle.rules.proofs.rounding.Signed.{up, dn, eq!, add≡, diff≡}
use Rattle.earned.specs.Example.{text, reading}
use Rattle.rules.proofs.criteria.Angles.{gust}
use Rattle.earned.specs.Gust.{y_by, phi0_by, start_by, e_by, net_by, gusts, Exactly, NowhereBelow}
use Rattle.earned.proofs.Grid.{over, part}
use Rattle.earned.proofs.Eighth.{straight, pieces}
use Rattle.earned.proofs.Exactly.{heel_at, heel_meets, end_far}

pub reads : read text ≡ got reading
unfolding read
reads = refl

-- All eight pass; the last figure is the net.
pub judges : answered text ≡ got (record {
  verdicts = replicate 8 pass;
  figures = pos 30_000_000 ∷ pos 160_000 ∷ pos 14_000 ∷ pos 3_550_900_000_000 ∷ pos 3_714_500_000_000 ∷ pos 7_265_400_000_000 ∷ pos 18_686_000_000 ∷ pos 350 ∷ pos 134 ∷ pos 187 ∷ pos 61_440_000 ∷ [];
})
unfolding answered_in
judges = refl

-- ---- the exact figure: 26 parts of a tenth, at which the curve has lw1 exactly
abbrev pub loading : Loaded
loading = loaded reading

abbrev pub parts : ℕ
parts = 26

begins : y loading (pos 0) ≡ pos 0
unfolding loaded_in judgement
begins = refl

gusty : no_gust loading ≡ false
unfolding loaded_in judgement
gusty = refl

-- phi0 lies 17 parts beyond 13.3 degrees; e is the flooding angle, 45 degrees.
heel : phi0_by parts loading ≡ parts * 133 + 17
unfolding loaded_in judgement
heel = heel_at parts (omega arith) loading begins (gust loading gusty).0 133 17 9 refl refl refl

last : e_by parts loading ≡ parts * farthest loading
unfolding loaded_in judgement
last = end_far parts (omega arith) loading begins gusty refl

pub exactly : Exactly parts loading
unfolding loaded_in judgement
exactly = record { heel = heel_meets parts (omega arith) loading begins (gust loading gusty).0 133 17 9 refl refl refl; end = λ h. absurd (omega (arith, last)) }

abbrev level : ℕ
level = loading.unit * 5_000_000 * lw2 loading

-- The roll used, 18.7 degrees.
abbrev pub roll : ℕ
roll = parts * phi1 loading

from_start : start_by parts roll loading ≡ pos parts *ℤ start loading +ℤ pos 17
unfolding start_by loaded_in judgement
from_start = ap (λ (x : ℕ). pos x -ℤ pos roll) heel

-- -1,923,929,040,000 / 26² is -2,846,048,876.
pub b_less_a : net_by parts roll loading ≡ neg_ℤ (pos 1_923_929_040_000)
unfolding loaded_in judgement sum_z
b_less_a =
    let before = part parts (over (y_by parts loading) (parts * level)) (over (y loading) level) (straight parts (omega arith) loading begins) 17 9 refl (start loading) in
    go (net_by parts roll loading) (sum_z (gusts parts loading) 17 (pos parts *ℤ start loading)) (pos (parts * parts) *ℤ net loading) (pieces parts (omega arith) loading begins roll 17 0 504 from_start last refl (omega arith)) ∙ ap (λ (z : ℤ). pos (parts * parts) *ℤ net loading -ℤ z) before
  where
    go : (x a b : ℤ) → x +ℤ a ≡ b +ℤ pos 0 → x ≡ b -ℤ a
    go x a b h = eq! x (b -ℤ a) (omega (arith, add≡ x a, add≡ b (pos 0), diff≡ b a, ap up h, ap dn h))

-- 5 degrees, for one, is within the reach of the windward side.
pub excluded : NowhereBelow loading → ⊥
unfolding loaded_in judgement
excluded h = omega (arith, h 50 (omega arith))
