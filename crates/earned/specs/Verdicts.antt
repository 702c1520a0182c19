-- Criteria 1, 2, 3, 4, 6 and 7 by what they depend on, over a denominator D: limits are D times 01's. Over KG's unit they are the judgement's own.
use Rattle.std.specs.Prelude.{Bool, true, false, not, ◌&&◌, ◌||◌, map, ℕ, ◌-◌, ◌*◌, min, leb, ltb, ℤ, pos}
use Rattle.std.proofs.Math.IntN.{sub_ℕ}
use Rattle.std.specs.Int.Signed.{le_z}
use Rattle.rules.specs.Rounding.{peak}
use Rattle.rules.specs.Blocks.{Sky}
use Rattle.rules.specs.Loading.{millimetres}
use Rattle.rules.specs.Curve.{Loaded, area}
use Rattle.rules.specs.Criteria as criteria
use Rattle.rules.specs.Criteria.{Criteria, units, reaches, passes1, passes2, passes3, passes4, passes6, passes7}
use Rattle.earned.specs.Order.{Hull, Better, curve}

pub data Criterion : Type 0 where
  one two three four six seven : Criterion

-- A limit, over D.
abbrev pub limit_over : ℕ → ℕ → ℕ
limit_over D l = D * l

-- 'Greatest y from 300 to E .. If E < 300: .. figure 0': from where a set looks.
unfoldable pub greatest_lever : ℕ → ℕ → Hull → ℤ
greatest_lever from e h = elim (ltb e from) [ true ↦ pos 0 | false ↦ curve h (pos (peak (λ t. curve h (pos t)) from (e - from))) ]

-- 'phi0 = first t in 0..E with y >= lw1.'
unfoldable pub phi0 : ℕ → Hull → ℕ
phi0 e h = reaches (curve h) (units millimetres h.lw1) 0 e

-- Over any set.
unfoldable pub passes_over : ℕ → Criterion → Criteria → Sky → Hull → Bool
passes_over D one s c h = le_z (pos (limit_over D s.area1)) (area (curve h) (pos 0) (pos (min 300 c.flooding)))
passes_over D two s c h = le_z (pos (limit_over D s.area2)) (area (curve h) (pos 300) (pos (min 400 c.flooding)))
passes_over D three s c h = le_z (pos (limit_over D s.area3)) (area (curve h) (pos 0) (pos (min 400 c.flooding)))
passes_over D four s c h = leb s.from c.flooding && le_z (pos (limit_over D s.lever)) (greatest_lever s.from c.flooding h)
passes_over D six s c h = le_z (pos (limit_over D s.gm)) (sub_ℕ h.km h.kg)
passes_over D seven s c h = leb (phi0 c.flooding h) c.flooding && leb (phi0 c.flooding h) s.heel && (not s.deck || leb (10 * phi0 c.flooding h) (8 * c.deck_edge))

-- 5 has no limit of length: 'the first t in 0..E with the greatest y' is at least the set's angle.
unfoldable pub passes_fifth : Criteria → Sky → Hull → Bool
passes_fifth s c h = leb s.angle (peak (λ t. curve h (pos t)) 0 c.flooding)

-- ---- the judgement's
abbrev pub passes : Criterion → Loaded → Bool
passes one = passes1
passes two = passes2
passes three = passes3
passes four = passes4
passes six = passes6
passes seven = passes7

-- Its slot among the eight.
abbrev pub place : Criterion → ℕ
place one = 1
place two = 2
place three = 3
place four = 4
place six = 6
place seven = 7

-- The numbers that it uses, over KG's unit: 'KN, KM, d, lw1 and lw2 keep millimetres and are multiplied where they meet' (request 5).
abbrev pub used : Loaded → Hull
used c = record { kn = map (λ v. c.unit * v) c.kn; km = c.unit * c.km; kg = c.kg; lw1 = c.unit * criteria.lw1 c }

-- ---- exact values
-- Over D, these lie behind the numbers used: KG and lw1 no greater, KN and KM no less.
abbrev pub Behind : ℕ → Hull → Loaded → Type 0
Behind D h c = Better D c.unit (used c) h
