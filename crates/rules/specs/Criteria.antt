-- 'The eight criteria', 1 to 7: each figure, each limit, each verdict.
use Rattle.std.specs.Prelude.{Bool, true, false, cond, not, ◌&&◌, ◌||◌, List, [], ◌∷◌, ℕ, ◌-◌, ◌*◌, min, leb, ltb, get_or, ℤ, pos, negsuc}
use Rattle.std.proofs.Math.IntN.{sub_ℕ}
use Rattle.std.specs.Int.Signed.{le_z}
use Rattle.rules.specs.Rounding.{ceil, first_in, peak}
use Rattle.rules.specs.Blocks.{Set, code, timber}
use Rattle.rules.specs.Curve.{Loaded, y, E, area}

-- 'Each set of criteria has its own limits' (request 2). A set is one value: the limits of 1 to 7, from which angle 4 looks, whether the deck edge counts in 7, and which of the eight slots it uses. The limit of a slot that it does not use is 0.
-- Areas in y units: one metre-degree is 10^11, rounded up from 0.055, 0.03 and 0.09 m·rad, timber's from 0.08. Areas, levers and GM are those of a KG in millimetres: with KG's unit 'every area, limit and net go up' (request 5), the angles do not.
pub record Criteria : Type 0 where
  pub area1 : ℕ
  pub area2 : ℕ
  pub area3 : ℕ
  pub lever : ℕ
  pub angle : ℕ
  pub gm : ℕ
  pub heel : ℕ
  pub from : ℕ
  pub deck : Bool
  pub used : List Bool

-- The Code's set; and timber's: 'slot 4 .. the greatest lever from 0 to E', 'deck edge ignored', 'slots 1, 2 and 5 .. unused'.
abbrev pub limits_of : Set → Criteria
limits_of code = record {
  area1 = 315_126_800_000;
  area2 = 171_887_400_000;
  area3 = 515_662_100_000;
  lever = 1_000_000_000;
  angle = 250;
  gm = 150;
  heel = 160;
  from = 300;
  deck = true;
  used = true ∷ true ∷ true ∷ true ∷ true ∷ true ∷ true ∷ true ∷ [];
}
limits_of timber = record {
  area1 = 0;
  area2 = 0;
  area3 = 458_366_300_000;
  lever = 1_250_000_000;
  angle = 0;
  gm = 100;
  heel = 160;
  from = 0;
  deck = false;
  used = false ∷ false ∷ true ∷ true ∷ false ∷ true ∷ true ∷ true ∷ [];
}

-- The set that the weather of a loaded ship chose.
abbrev pub set : Loaded → Criteria
set c = limits_of c.weather.set

-- Whether it uses a slot, 1 to 8.
abbrev pub uses : Loaded → ℕ → Bool
uses c n = get_or (set c).used (n - 1) false

-- 1. 'Area 0 to min(300, E).'
unfoldable pub area1 : Loaded → ℤ
area1 c = area (y c) (pos 0) (pos (min 300 (E c)))

-- 2. 'Area 300 to min(400, E).'
unfoldable pub area2 : Loaded → ℤ
area2 c = area (y c) (pos 300) (pos (min 400 (E c)))

-- 3. 'Area 0 to min(400, E).'
unfoldable pub area3 : Loaded → ℤ
area3 c = area (y c) (pos 0) (pos (min 400 (E c)))

-- 4. 'Greatest y from 300 to E .. If E < 300: fail, figure 0'; timber's 'from 0 to E'.
unfoldable pub greatest_lever : Loaded → ℤ
greatest_lever c = elim (ltb (E c) (set c).from) [ true ↦ pos 0 | false ↦ y c (pos (peak (λ t. y c (pos t)) (set c).from (E c - (set c).from))) ]

-- 5. 'The first t in 0..E with the greatest y.'
unfoldable pub angle_of_greatest : Loaded → ℕ
angle_of_greatest c = peak (λ t. y c (pos t)) 0 (E c)

-- 6. 'GM = KM - KG', in KG's unit.
abbrev pub gm : Loaded → ℤ
gm c = sub_ℕ (c.unit * c.km) c.kg

-- 7. 'lw1 = 5040 x wind area x Z / (981 x W), rounded up, in mm; lw2 = 3 lw1 / 2, rounded up; either becomes y units times 5,000,000', and by KG's unit.
unfoldable pub lw1 : Loaded → ℕ
lw1 c = ceil (5040 * c.weather.sky.wind_area * c.weather.sky.z) (981 * c.w)

unfoldable pub lw2 : Loaded → ℕ
lw2 c = ceil (3 * lw1 c) 2

abbrev pub units : ℕ → ℕ → ℤ
units unit l = pos (unit * 5_000_000 * l)

-- The first t from t₀ to e with y at least a level; past e where there is none.
unfoldable pub reaches : (ℤ → ℤ) → ℤ → ℕ → ℕ → ℕ
reaches f level t e = first_in (λ k. le_z level (f (pos k))) t e

-- 'phi0 = first t in 0..E with y >= lw1.' Past E where there is none.
unfoldable pub phi0 : Loaded → ℕ
phi0 c = reaches (y c) (units c.unit (lw1 c)) 0 (E c)

-- 'None: .. phi0 is -1.'
abbrev pub phi0_figure : Loaded → ℤ
phi0_figure c = cond (leb (phi0 c) (E c)) (pos (phi0 c)) (negsuc 0)

-- ---- the verdicts
unfoldable pub passes1 : Loaded → Bool
passes1 c = le_z (pos (c.unit * (set c).area1)) (area1 c)

unfoldable pub passes2 : Loaded → Bool
passes2 c = le_z (pos (c.unit * (set c).area2)) (area2 c)

unfoldable pub passes3 : Loaded → Bool
passes3 c = le_z (pos (c.unit * (set c).area3)) (area3 c)

unfoldable pub passes4 : Loaded → Bool
passes4 c = leb (set c).from (E c) && le_z (pos (c.unit * (set c).lever)) (greatest_lever c)

unfoldable pub passes5 : Loaded → Bool
passes5 c = leb (set c).angle (angle_of_greatest c)

unfoldable pub passes6 : Loaded → Bool
passes6 c = le_z (pos (c.unit * (set c).gm)) (gm c)

-- 'Pass: phi0 <= 160 and 10 phi0 <= 8 x deck edge. None: fail'; timber's 'deck edge ignored'.
unfoldable pub passes7 : Loaded → Bool
passes7 c = leb (phi0 c) (E c) && leb (phi0 c) (set c).heel && (not (set c).deck || leb (10 * phi0 c) (8 * c.weather.sky.deck_edge))
