-- Figures of criterion 8 at parts of a tenth, and of the roll before it is rounded, worked out beside these definitions with exact fractions.
use mathlib.Core.Path.{◌≡◌, refl}
use mathlib.Core.List.{List, [], ◌∷◌, map}
use Prim.Native.Nat.{ℕ, ◌*◌, ◌≤◌, ◌<◌}
use native.Mathlib.Omega.{arith}
use lib.Dec.{lit≤}
use lib.IntN.{ℤ, pos, neg_ℤ}
use Rattle.rules.specs.Rounding.{onward, table}
use Rattle.rules.specs.Blocks.{code}
use Rattle.rules.specs.Loading.{tenths}
use Rattle.rules.specs.Curve.{Loaded, loaded, loaded_in}
use Rattle.rules.specs.Report.{judgement}
use Rattle.earned.specs.Gust.{lever_by, y_by, phi0_by, start_by, u_by, e_by, net_by}
use Rattle.earned.specs.Rolling.{exact_x1, exact_x2, exact_k, exact_s, exact_r, exact_c, NoShorter, exact_p, WithinRoll}
use Rattle.earned.specs.Example.{reading}

abbrev figures : Loaded → ℕ → ℕ → List ℤ
figures c roll q = pos (phi0_by q c) ∷ start_by q (q * roll) c ∷ pos (u_by q c) ∷ pos (e_by q c) ∷ net_by q (q * roll) c ∷ []

-- phi0, start, u, e and net of the example, with its roll of 18.7 degrees, at halves and thirds: e is the flooding angle.
pub example_worked : map (figures (loaded reading) 187) (2 ∷ 3 ∷ []) ≡ (pos 268 ∷ neg_ℤ (pos 106) ∷ pos 284 ∷ pos 900 ∷ neg_ℤ (pos 17_693_760_000) ∷ []) ∷ (pos 401 ∷ neg_ℤ (pos 160) ∷ pos 426 ∷ pos 1_350 ∷ neg_ℤ (pos 26_136_000_000) ∷ []) ∷ []
unfolding loaded_in judgement lever_by y_by phi0_by start_by u_by e_by net_by
example_worked = refl

-- A curve that falls below lw2 before 50 degrees: lw1 150 mm, a roll of 15 degrees.
abbrev falling : Loaded
falling = record {
  unit = tenths;
  ship = record { hull_length = 50_000; breadth = 10_000; keel_area = 0; bilge = 0 };
  weather = record { set = code; sky = record { wind_area = 981; z = 150; cb = 700; flooding = 500; deck_edge = 200 } };
  w = 5_040;
  kg = 30_000;
  draught = 4_000;
  km = 4_500;
  kn = 0 ∷ 393 ∷ 783 ∷ 1_175 ∷ 1_568 ∷ 1_830 ∷ 1_990 ∷ 2_100 ∷ 2_150 ∷ 2_200 ∷ 2_260 ∷ 2_300 ∷ 2_350 ∷ [];
}

pub falling_worked : map (figures falling 150) (2 ∷ []) ≡ (pos 115 ∷ neg_ℤ (pos 185) ∷ pos 172 ∷ pos 797 ∷ pos 8_706_784_080_000 ∷ []) ∷ []
unfolding judgement lever_by y_by phi0_by start_by u_by e_by net_by
falling_worked = refl

-- X1, X2, k, s, r and C before they are rounded, over 1,000, 1,000, 1,000, 1,000, 10 d and 100 d: B/d is 2,439.02, the keel index 2,459.95 and the period 1,152.9.
abbrev rolling : Loaded
rolling = record {
  unit = tenths;
  ship = record { hull_length = 50_001; breadth = 10_000; keel_area = 1_230; bilge = 0 };
  weather = record { set = code; sky = record { wind_area = 0; z = 0; cb = 677; flooding = 500; deck_edge = 200 } };
  w = 1_400_000;
  kg = 40_000;
  draught = 4_100;
  km = 4_500;
  kn = [];
}

pub rolling_worked : exact_x1 1_000 rolling ∷ exact_x2 1_000 rolling ∷ exact_k 1_000 rolling ∷ exact_s 1_000 10 11_529 ∷ exact_r rolling ∷ exact_c rolling ∷ [] ≡ 992_196 ∷ 986_200 ∷ 797_209 ∷ 682_970 ∷ 29_330_000 ∷ 167_114_823_700 ∷ []
unfolding exact_x1 exact_x2 exact_k exact_s exact_r exact_c table onward
rolling_worked = refl

pub rolling_period : (NoShorter 10 11_529 rolling) × (¬ NoShorter 10 11_528 rolling)
unfolding exact_c
rolling_period = (lit≤ tt, λ h. omega arith)

-- Over a period of 1,152.9 the roll is 187.94 tenths, and no more: in hundredths 18,795 is the least that covers it.
pub rolling_roll : WithinRoll 1_000 10 11_529 rolling 100 18_795 × (¬ WithinRoll 1_000 10 11_529 rolling 100 18_796)
unfolding exact_p exact_x1 exact_x2 exact_k exact_r exact_s table onward
rolling_roll = (lit≤ tt, λ h. not_both h (lit≤ tt))
  where
    not_both : {a b : ℕ} → a < b → b ≤ a → ⊥
    not_both h k = omega arith
