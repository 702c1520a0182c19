-- Each verdict is its figure against its limit, restated from 01 and the requests for each set of criteria, with KG in tenths: a figure equal to its limit passes, and one less fails.
use mathlib.Core.Path.{◌≡◌, refl, ◌∙◌}
use mathlib.Core.Bool.{Bool, true, false, ◌&&◌}
use mathlib.Core.List.{[], ◌∷◌, map}
use Prim.Native.Nat.{ℕ, ◌*◌, ◌≤◌, ◌<◌}
use native.Mathlib.Omega.{arith}
use lib.Dec.{leb}
use lib.ListN.{replicate}
use lib.IntN.{ℤ, pos}
use lib.Signed.{le_z}
use borrow.Author.Tests.{le-leb, lt-leb}
use Rattle.rules.specs.Blocks.{Set, code, timber}
use Rattle.rules.specs.Loading.{tenths}
use Rattle.rules.specs.Curve.{Loaded, E}
use Rattle.rules.specs.Criteria.{limits_of, set, area1, area2, area3, greatest_lever, angle_of_greatest, gm, phi0, passes1, passes2, passes3, passes4, passes5, passes6, passes7}
use Rattle.rules.specs.Report.{pass, slot, verdict_number}
use Rattle.rules.specs.Roll.{net, passes8}
use Rattle.rules.proofs.rounding.Signed.{Le, Lt, le_true, le_false}

and_true : (b : Bool) → (b && true) ≡ b
and_true true = refl
and_true false = refl

-- A ship with KG in tenths that is judged in a set.
pub record In (s : Set) (c : Loaded) : Type 0 where
  pub unit : c.unit ≡ tenths
  pub set : c.weather.set ≡ s

-- A criterion of a set that asks for at least so much.
abbrev pub AtLeast : Set → ℕ → (Loaded → ℤ) → (Loaded → Bool) → Type 0
AtLeast s limit figure passes = (c : Loaded) → In s c → passes c ≡ le_z (pos limit) (figure c)

module _ (s : Set) (limit : ℕ) (figure : Loaded → ℤ) (passes : Loaded → Bool) (is : AtLeast s limit figure passes) (c : Loaded) (e : In s c) where
  pub passes_from : Le (pos limit) (figure c) → passes c ≡ true
  passes_from h = is c e ∙ le_true (pos limit) (figure c) h

  pub fails_below : Lt (figure c) (pos limit) → passes c ≡ false
  fails_below h = is c e ∙ le_false (pos limit) (figure c) h

-- ---- any set
-- 4 asks for a lever from where the set looks, and a curve that ends before fails.
pub lever_asked : (c : Loaded) → (set c).from ≤ E c → passes4 c ≡ le_z (pos (c.unit * (set c).lever)) (greatest_lever c)
unfolding passes4
lever_asked c h = rw (le-leb (set c).from (E c) h)

pub lever_short : (c : Loaded) → E c < (set c).from → passes4 c ≡ false
unfolding passes4
lever_short c h = rw (lt-leb (set c).from (E c) h)

-- 'Pass: net >= 0'; 'criterion 8 as before'.
pub criterion8 : (c : Loaded) → passes8 c ≡ le_z (pos 0) (net c)
unfolding passes8
criterion8 c = refl

-- ---- the Code's set, 'every .. limit .. tenfold' (request 5)
pub criterion1 : AtLeast code 3_151_268_000_000 area1 passes1
unfolding passes1
criterion1 c i = rw (i.unit, i.set)

pub criterion2 : AtLeast code 1_718_874_000_000 area2 passes2
unfolding passes2
criterion2 c i = rw (i.unit, i.set)

pub criterion3 : AtLeast code 5_156_621_000_000 area3 passes3
unfolding passes3
criterion3 c i = rw (i.unit, i.set)

-- 'If E < 300: fail.'
pub criterion4 : (c : Loaded) → In code c → 300 ≤ E c → passes4 c ≡ le_z (pos 10_000_000_000) (greatest_lever c)
criterion4 c i h = lever_asked c (rw i.set h) ∙ rw (i.unit, i.set)

pub criterion4_short : (c : Loaded) → c.weather.set ≡ code → E c < 300 → passes4 c ≡ false
criterion4_short c s h = lever_short c (rw s h)

pub criterion5 : AtLeast code 250 (λ c. pos (angle_of_greatest c)) passes5
unfolding passes5
criterion5 c i = rw i.set

pub criterion6 : AtLeast code 1_500 gm passes6
unfolding passes6
criterion6 c i = rw (i.unit, i.set)

-- 'Pass: phi0 <= 160 and 10 phi0 <= 8 x deck edge. None: fail.'
pub criterion7 : (c : Loaded) → c.weather.set ≡ code → passes7 c ≡ leb (phi0 c) (E c) && leb (phi0 c) 160 && leb (10 * phi0 c) (8 * c.weather.sky.deck_edge)
unfolding passes7
criterion7 c s = rw s

-- 'phi0 160 passes with deck edge 200 and fails with 199.'
pub heel_200 : (c : Loaded) → c.weather.set ≡ code → phi0 c ≡ 160 → 160 ≤ E c → c.weather.sky.deck_edge ≡ 200 → passes7 c ≡ true
heel_200 c s h e d = rw (criterion7 c s, h, le-leb 160 (E c) e, d)

pub heel_199 : (c : Loaded) → c.weather.set ≡ code → phi0 c ≡ 160 → 160 ≤ E c → c.weather.sky.deck_edge ≡ 199 → passes7 c ≡ false
heel_199 c s h e d = rw (criterion7 c s, h, le-leb 160 (E c) e, d)

-- ---- timber on deck
-- 'Area of criterion 3 at least 458,366,300,000', tenfold.
pub timber3 : AtLeast timber 4_583_663_000_000 area3 passes3
unfolding passes3
timber3 c i = rw (i.unit, i.set)

-- 'At least 0.25 m (1,250,000,000)', tenfold, for every E.
pub timber4 : AtLeast timber 12_500_000_000 greatest_lever passes4
timber4 c i = lever_asked c (rw i.set (omega arith)) ∙ rw (i.unit, i.set)

-- 'GM at least 100', tenfold.
pub timber6 : AtLeast timber 1_000 gm passes6
unfolding passes6
timber6 c i = rw (i.unit, i.set)

-- 'Steady heel at most 16°, deck edge ignored.'
pub timber7 : (c : Loaded) → c.weather.set ≡ timber → passes7 c ≡ leb (phi0 c) (E c) && leb (phi0 c) 160
unfolding passes7
timber7 c s = rw s (and_true _)

-- 'Slots 1, 2 and 5 read 4, unused'; in the Code's set every slot is used.
pub slots_used : map (λ s. map (λ used. verdict_number (slot used pass)) (limits_of s).used) (code ∷ timber ∷ []) ≡ replicate 8 1 ∷ (4 ∷ 4 ∷ 1 ∷ 1 ∷ 4 ∷ 1 ∷ 1 ∷ 1 ∷ []) ∷ []
slots_used = refl

-- Of a slot that is not used nothing is asked: its limit is 0.
pub unused_limits : ((limits_of timber).area1 ≡ 0) × ((limits_of timber).area2 ≡ 0) × ((limits_of timber).angle ≡ 0)
unused_limits = (refl, refl, refl)
