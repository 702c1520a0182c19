-- The numbers of the report, of 'Loading and curve', of 'The eight criteria' and of 'Roll', restated from the page: each table as it is printed there, and other numbers in worked values that one more or one less would change. (Those of p, r and phi1 are restated in criteria/Roll and rounding/Divisions.)
use mathlib.Core.Path.{◌≡◌, refl}
use mathlib.Core.Bool.{true, false}
use mathlib.Core.List.{List, [], ◌∷◌, map}
use Prim.Native.Nat.{ℕ, ◌*◌, ◌/◌, ◌^◌}
use lib.IntN.{pos, neg_ℤ}
use lib.ListN.{length, get_or, replicate}
use Rattle.rules.specs.Rounding.{Point, point}
use Rattle.rules.specs.Text.{LF, digit}
use Rattle.rules.specs.Blocks.{Row, code}
use Rattle.rules.specs.Loading.{tenths}
use Rattle.rules.specs.Curve.{kn_at, Loaded, loaded_in, sines, lever, lever_z, y, area}
use Rattle.rules.specs.Criteria.{area1, area2, area3, greatest_lever, angle_of_greatest, gm, lw1, lw2, units, phi0_figure}
use Rattle.rules.specs.Roll.{b, C, q, period, X1, X2, K, S, keel_index, farthest, outside_range, not_judged}
use Rattle.rules.specs.Report.{fail, pass, unjudged, void, unused, verdict_number, judgement, report_tag, report_length}
use Rattle.rules.proofs.bench.Cases.{Case, gives, All}

-- ---- the tables, in the page's own units: so many to one of the definitions'
abbrev as_printed : ℕ → List (ℕ × ℕ) → List Point
as_printed unit rows = map (λ r. point (unit * r.0) r.1) rows

-- X1 by tenths of B/d, X2 by hundredths of CB, k by tenths of the keel index, s by seconds.
pub tables_printed : (X1 ≡ as_printed 100 ((24, 1000) ∷ (25, 980) ∷ (26, 960) ∷ (27, 950) ∷ (28, 930) ∷ (29, 910) ∷ (30, 900) ∷ (31, 880) ∷ (32, 860) ∷ (34, 820) ∷ (35, 800) ∷ []))
    × (X2 ≡ as_printed 10 ((45, 750) ∷ (50, 820) ∷ (55, 890) ∷ (60, 950) ∷ (65, 970) ∷ (70, 1000) ∷ []))
    × (K ≡ as_printed 100 ((0, 1000) ∷ (10, 980) ∷ (15, 950) ∷ (20, 880) ∷ (25, 790) ∷ (30, 740) ∷ (35, 720) ∷ (40, 700) ∷ []))
    × (S ≡ as_printed 100 ((6, 1000) ∷ (7, 980) ∷ (8, 930) ∷ (12, 650) ∷ (14, 530) ∷ (16, 440) ∷ (18, 380) ∷ (20, 350) ∷ []))
tables_printed = (refl, refl, refl, refl)

-- 'Sines in 1/100,000', by degrees.
pub sines_printed : (length sines ≡ 13) × (map (λ d. get_or sines (d / 5) 0) (0 ∷ 5 ∷ 10 ∷ 15 ∷ 20 ∷ 25 ∷ 30 ∷ 35 ∷ 40 ∷ 45 ∷ 50 ∷ 55 ∷ 60 ∷ [])
    ≡ 0 ∷ 8_716 ∷ 17_365 ∷ 25_882 ∷ 34_202 ∷ 42_262 ∷ 50_000 ∷ 57_358 ∷ 64_279 ∷ 70_711 ∷ 76_604 ∷ 81_915 ∷ 86_603 ∷ [])
sines_printed = (refl, refl)

-- LF and the digits as characters; '0 fail, 1 pass, 2 not judged, 3 refused', '4, unused'; the report's tag and its length in characters.
pub report_printed : (LF ≡ 10) × (map digit (0 ∷ 9 ∷ 10 ∷ 15 ∷ []) ≡ 48 ∷ 57 ∷ 65 ∷ 70 ∷ []) × (map verdict_number (fail ∷ pass ∷ unjudged ∷ void ∷ unused ∷ []) ≡ 0 ∷ 1 ∷ 2 ∷ 3 ∷ 4 ∷ []) × (report_tag ≡ 0xD1) × (report_length ≡ 209)
unfolding digit
report_printed = (refl, refl, refl, refl, refl)

-- 'Thirteen KN values, at 0, 5, .. 60°', each by its own station: 'on a row, that row', and half way between two rows, rounded down.
abbrev a_row : ℕ → List ℕ → Row
a_row w kn = record { mass = w; draught = 0; km = 0; kn = kn }

abbrev two_rows : List Row
two_rows = a_row 10 (0 ∷ 1 ∷ 2 ∷ 3 ∷ 4 ∷ 5 ∷ 6 ∷ 7 ∷ 8 ∷ 9 ∷ 10 ∷ 11 ∷ 12 ∷ []) ∷ a_row 20 (0 ∷ 2 ∷ 5 ∷ 8 ∷ 11 ∷ 14 ∷ 17 ∷ 20 ∷ 23 ∷ 26 ∷ 29 ∷ 32 ∷ 35 ∷ []) ∷ []

pub stations_printed : (kn_at two_rows 10 ≡ 0 ∷ 1 ∷ 2 ∷ 3 ∷ 4 ∷ 5 ∷ 6 ∷ 7 ∷ 8 ∷ 9 ∷ 10 ∷ 11 ∷ 12 ∷ []) × (kn_at two_rows 15 ≡ 0 ∷ 1 ∷ 3 ∷ 5 ∷ 7 ∷ 9 ∷ 11 ∷ 13 ∷ 15 ∷ 17 ∷ 19 ∷ 21 ∷ 23 ∷ [])
unfolding loaded_in
stations_printed = (refl, refl)

-- ---- worked values
-- A ship of which only what is asked matters: L, B, d, KM, KG in tenths, the KN values and E.
abbrev afloat : (L B d km kg : ℕ) → List ℕ → (flooding : ℕ) → Loaded
afloat L B d km kg kn flooding = record {
  unit = tenths;
  ship = record { hull_length = L; breadth = B; keel_area = 0; bilge = 0 };
  weather = record { set = code; sky = record { wind_area = 981; z = 100_000; cb = 700; flooding = flooding; deck_edge = 200 } };
  w = 5_040;
  kg = kg;
  draught = d;
  km = km;
  kn = kn;
}

abbrev curved : List ℕ → ℕ → Loaded
curved kn flooding = afloat 0 1 1 0 0 kn flooding

-- A lever of one metre from 5 degrees on; one that falls by 0.001 m each 5 degrees, from 13.
abbrev level : List ℕ
level = 0 ∷ replicate 12 1_000

abbrev falling : List ℕ
falling = 13 ∷ 12 ∷ 11 ∷ 10 ∷ 9 ∷ 8 ∷ 7 ∷ 6 ∷ 5 ∷ 4 ∷ 3 ∷ 2 ∷ 1 ∷ []

abbrev pub page : List Case
page =
    -- 'g at a station = 100,000 x KN - KG x sine', y '50 times the straight-line value', 'tenfold' (request 5): a millimetre of KN at 5 degrees is 50,000,000; a KG of one tenth takes 50 sines; half way and one tenth past a station.
    gives (lever tenths (0 ∷ 1 ∷ []) 0 50 ∷ lever tenths [] 1 50 ∷ lever tenths (0 ∷ 2 ∷ []) 0 25 ∷ lever tenths (0 ∷ 0 ∷ 3 ∷ []) 0 51 ∷ []) (pos 50_000_000 ∷ neg_ℤ (pos 435_800) ∷ pos 50_000_000 ∷ pos 3_000_000 ∷ [])
    -- 'y(-t) = -y(t).' 'Either becomes y units times 5,000,000', tenfold.
    ∷ gives (lever_z tenths (0 ∷ 1 ∷ []) 0 (neg_ℤ (pos 50)) ∷ units tenths 1 ∷ []) (neg_ℤ (pos 50_000_000) ∷ pos 50_000_000 ∷ [])
    -- 'One metre-degree is 10^11', tenfold; 'area .. 0 if q <= p'.
    ∷ gives (area (y (curved level 600)) (pos 50) (pos 60) ∷ area (y (curved level 600)) (pos 60) (pos 50) ∷ []) (pos (10 ^ 12) ∷ pos 0 ∷ [])
    -- Areas 0 to min(300, E), 300 to min(400, E), 0 to min(400, E), at E = 600, 399, 300 and 299.
    ∷ gives (map (λ f. area1 (curved level f)) (600 ∷ 399 ∷ 300 ∷ 299 ∷ [])) (pos 27_500_000_000_000 ∷ pos 27_500_000_000_000 ∷ pos 27_500_000_000_000 ∷ pos 27_400_000_000_000 ∷ [])
    ∷ gives (map (λ f. area2 (curved level f)) (600 ∷ 399 ∷ 300 ∷ 299 ∷ [])) (pos 10_000_000_000_000 ∷ pos 9_900_000_000_000 ∷ pos 0 ∷ pos 0 ∷ [])
    ∷ gives (map (λ f. area3 (curved level f)) (600 ∷ 399 ∷ 300 ∷ 299 ∷ [])) (pos 37_500_000_000_000 ∷ pos 37_400_000_000_000 ∷ pos 27_500_000_000_000 ∷ pos 27_400_000_000_000 ∷ [])
    -- 'Greatest y from 300 to E .. If E < 300: .. figure 0.' 'The first t in 0..E with the greatest y.'
    ∷ gives (map (λ f. greatest_lever (curved falling f)) (600 ∷ 300 ∷ 299 ∷ [])) (pos 350_000_000 ∷ pos 350_000_000 ∷ pos 0 ∷ [])
    ∷ gives (map (λ kn. pos (angle_of_greatest (curved kn 60))) (falling ∷ level ∷ (0 ∷ 1 ∷ 2 ∷ []) ∷ [])) (pos 0 ∷ pos 50 ∷ pos 60 ∷ [])
    -- 'GM = KM - KG', KM tenfold, below zero too.
    ∷ gives (gm (afloat 0 1 1 7 66 [] 0) ∷ gm (afloat 0 1 1 7 74 [] 0) ∷ []) (pos 4 ∷ neg_ℤ (pos 4) ∷ [])
    -- 'lw1 = 5040 x wind area x Z / (981 x W) .. lw2 = 3 lw1 / 2': of 981, 100,000 and 5,040.
    ∷ gives (pos (lw1 (curved [] 0)) ∷ pos (lw2 (curved [] 0)) ∷ []) (pos 100_000 ∷ pos 150_000 ∷ [])
    -- 'phi0 = first t in 0..E with y >= lw1 .. None: .. phi0 is -1': a lever of 100 m from 5 degrees on, E there, one tenth before, and a lever of one metre.
    ∷ gives (phi0_figure (curved (0 ∷ 100_000 ∷ 100_000 ∷ []) 50) ∷ phi0_figure (curved (0 ∷ 100_000 ∷ 100_000 ∷ []) 49) ∷ phi0_figure (curved level 600) ∷ []) (pos 50 ∷ neg_ℤ (pos 1) ∷ neg_ℤ (pos 1) ∷ [])
    -- 'b = 1000 B/d, down. C = 373,000 + 23 b - (43 L/100, up)': B/d of 1/1000 at L 100 and 101.
    ∷ gives (map (λ L. pos (C (afloat L 1 1_000 0 0 [] 0))) (100 ∷ 101 ∷ [])) (pos 372_980 ∷ pos 372_979 ∷ [])
    ∷ gives (pos (b (afloat 0 10_001 10_000 0 0 [] 0)) ∷ []) (pos 1_000 ∷ [])
    -- 'q = 2 C B / 10^6, down. Period n = greatest with n² GM <= 100 q²' (request 5): with C 400,000 and 399,999, and a GM of 100 tenths, the period is q.
    ∷ gives (map (λ L. pos (q (afloat L 2_500 2_000 0 0 [] 0))) (4_069 ∷ 4_071 ∷ [])) (pos 2_000 ∷ pos 1_999 ∷ [])
    ∷ gives (pos (period (afloat 4_071 2_500 2_000 2_010 20_000 [] 0)) ∷ []) (pos 1_999 ∷ [])
    -- 'The keel index .. 10^9 x area / (L B)': 100 m², 100 m and 10 m, and one over.
    ∷ gives (pos (keel_index (record { hull_length = 100_000; breadth = 10_000; keel_area = 10_000; bilge = 0 })) ∷ pos (keel_index (record { hull_length = 100_001; breadth = 10_000; keel_area = 10_000; bilge = 0 })) ∷ []) (pos 10_000 ∷ pos 9_999 ∷ [])
    -- 'min(E, 500).'
    ∷ gives (map (λ f. pos (farthest (curved [] f))) (499 ∷ 500 ∷ 501 ∷ [])) (pos 499 ∷ pos 500 ∷ pos 500 ∷ [])
    ∷ []

pub page_holds : All page
unfolding judgement
page_holds = (refl, (refl, (refl, (refl, (refl, (refl, (refl, (refl, (refl, (refl, (refl, (refl, (refl, (refl, (refl, (refl, (refl, tt)))))))))))))))))

-- 'Not judged (2) if GM <= 0, 10 B >= 35 d', KG outside '7d to 15d in tenths' (request 5) '(ends judged), or n >= 2000': each at its edge.
pub range_printed : map (λ c. outside_range c) (afloat 0 1 1_000 1_000 10_000 [] 0 ∷ afloat 0 1 1_000 1_000 9_999 [] 0 ∷ afloat 0 3_500 1_000 1_000 9_999 [] 0 ∷ afloat 0 3_499 1_000 1_000 9_999 [] 0
    ∷ afloat 0 1 1_000 1_000 6_999 [] 0 ∷ afloat 0 1 1_000 1_000 7_000 [] 0 ∷ afloat 0 1 1_000 2_000 15_000 [] 0 ∷ afloat 0 1 1_000 2_000 15_001 [] 0 ∷ [])
    ≡ true ∷ false ∷ true ∷ false ∷ true ∷ false ∷ false ∷ true ∷ []
unfolding outside_range
range_printed = refl

pub period_printed : (not_judged (afloat 4_069 2_500 2_000 2_010 20_000 [] 0) ≡ true) × (not_judged (afloat 4_071 2_500 2_000 2_010 20_000 [] 0) ≡ false)
unfolding judgement
period_printed = (refl, refl)
