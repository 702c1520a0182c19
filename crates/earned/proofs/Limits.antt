-- The limits of criteria 1 to 3 are at least 0.055, 0.03 and 0.09 m·rad, timber's of criterion 3 at least 0.08, and are the least such multiples of 100,000 y units (a millionth of a metre-degree): all of a KG in millimetres, as they stand in the sets.
use Prim.Native.Nat.{ℕ, ◌-◌, ◌<◌}
use native.Mathlib.Omega.{arith}
use Rattle.rules.specs.Blocks.{code, timber}
use Rattle.rules.specs.Criteria.{limits_of}
use Rattle.earned.specs.Limits.{PiFrom, PiTo, Covers}

module _ (num den : ℕ) where
  -- They are stricter by 12,678 units (0.055), 61,460 (0.03), 84,382 (0.09) and 63,895 (0.08), with pi to sixteen digits and parts of a unit left off.
  pub limits_cover : PiFrom num den → Covers num den (limits_of code).area1 55 × Covers num den (limits_of code).area2 30 × Covers num den (limits_of code).area3 90 × Covers num den (limits_of timber).area3 80
  limits_cover h = (omega arith, omega arith, omega arith, omega arith)

  abbrev Short : ℕ → ℕ → Type 0
  Short limit m = ¬ Covers num den (limit - 100_000) m

  pub limits_least : 0 < den → PiTo num den → Short (limits_of code).area1 55 × Short (limits_of code).area2 30 × Short (limits_of code).area3 90 × Short (limits_of timber).area3 80
  limits_least some h = (omega arith, omega arith, omega arith, omega arith)
