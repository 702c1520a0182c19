-- Which roundings favour the ship: what is proved, to be read without the proofs. Each theorem has a sentence above it, and its proof stands elsewhere.
-- Its words are defined in specs/: Order (hulls over a denominator), Verdicts (criteria 1 to 4, 6 and 7 over one), Exact (the values of a reading before they are rounded), Limits (metre-radians), Gust (criteria 7 and 8 at parts of a tenth), Rolling (the roll before it is rounded), Tenths (slots 1 to 7 in two units of KG, and two texts).
use mathlib.Core.Path.{◌≡◌, refl, sym, ◌∙◌}
use mathlib.Core.Bool.{true, false}
use mathlib.Core.List.{List, [], ◌∷◌}
use Prim.Native.Nat.{ℕ, ◌+◌, ◌-◌, ◌*◌, ◌≤◌, ◌<◌}
use native.Mathlib.Omega.{arith}
use lib.ListN.{get_or, replicate}
use lib.IntN.{ℤ, pos, neg_ℤ, ◌+ℤ◌, ◌*ℤ◌}
use lib.Signed.{le_z}
use Rattle.rules.specs.Rounding.{sum_z}
use Rattle.rules.specs.Blocks.{code, timber, Sky, ok_weather}
use Rattle.rules.specs.Layout.{Reading, Limits}
use Rattle.rules.specs.Outcome.{got}
use Rattle.rules.specs.Walk.{read}
use Rattle.rules.specs.Loading.{Entry, displacement, millimetres, tenths, corrected_kg_in, weighed}
use Rattle.rules.specs.Curve.{Loaded, E, loaded, loaded_in}
use Rattle.rules.specs.Criteria.{Criteria, limits_of, set, uses, lw1, phi0, passes5, passes7}
use Rattle.rules.specs.Roll.{period, phi1, start, e, net, not_judged, no_gust}
use Rattle.rules.specs.Columns.{slot_of}
use Rattle.rules.specs.Report.{pass, fail, slot, verdict, verdict8, judgement}
use Rattle.rules.specs.Answer.{answered, answered_in}
use Rattle.rules.proofs.rounding.Signed.{Le, le_true, up_mull, dn_mull}
use Rattle.rules.proofs.loading.Fair.{fair}
use Rattle.rules.proofs.criteria.EitherSet.{verdicts_are, slot_pass, slot_passed}
use Rattle.rules.proofs.criteria.Ranges.{judged, phi1_from}
use Rattle.earned.specs.Order.{NoLess, Hull, finer, Better, curve, Follows}
use Rattle.earned.specs.Verdicts.{Criterion, one, two, three, four, six, seven, passes_over, passes_fifth, passes, place, used, Behind}
use Rattle.earned.specs.Exact.{over, exact, Fractions}
use Rattle.earned.specs.Limits.{PiFrom, PiTo, Covers}
use Rattle.earned.specs.Example.{text, reading}
use Rattle.earned.specs.Gust.{y_by, units_by, phi0_by, PassesAt, start_by, e_by, net_by, gusts, Exactly, NowhereBelow}
use Rattle.earned.specs.Rolling.{NoShorter, WithinRoll}
use Rattle.earned.specs.Tenths.{KeepsSeven, ferry, stiffer}
use Rattle.earned.proofs.Order as orders
use Rattle.earned.proofs.Keeps as keeping
use Rattle.earned.proofs.Exact as exacts
use Rattle.earned.proofs.Limits as limits
use Rattle.earned.proofs.Fifth as angle
use Rattle.earned.proofs.Upright.{upright}
use Rattle.earned.proofs.Seventh as heel
use Rattle.earned.proofs.Eighth as gust
use Rattle.earned.proofs.Rolling as rolling
use Rattle.earned.proofs.Exactly as grid
use Rattle.earned.proofs.Counterexample as counter
use Rattle.earned.proofs.Harsher as harsher
use Rattle.earned.proofs.Tenths as texts

-- ---- the order of the levers
-- A KG no greater and KN no less: no lever to leeward is less, nor is an area, nor the greatest lever; and a level is reached no later. Over any two denominators.
pub order : (m n : ℕ) → 0 < n → (h h' : Hull) → Better m n h h' → Follows m n (curve h) (curve h')
order = orders.order

-- The order above is that of m a and n b.
pub order_is : (m n : ℕ) (a b : ℤ) → NoLess m n a b → le_z (pos m *ℤ a) (pos n *ℤ b) ≡ true
order_is m n a b h = le_true (pos m *ℤ a) (pos n *ℤ b) (omega (arith, up_mull m a, dn_mull m a, up_mull n b, dn_mull n b))

-- ---- criteria 1, 2, 3, 4, 6 and 7
-- The verdicts below are those of the judgement.
pub verdict_is : (k : Criterion) (c : Loaded) → slot_of (place k) (judgement c) ≡ slot (uses c (place k)) (verdict (passes k c))
unfolding judgement
verdict_is one c = refl
verdict_is two c = refl
verdict_is three c = refl
verdict_is four c = refl
verdict_is six c = refl
verdict_is seven c = refl

-- And so a slot that reads pass is one that the set uses, and what it asks is met ..
pub pass_is_asked : (k : Criterion) (c : Loaded) → slot_of (place k) (judgement c) ≡ pass → (uses c (place k) ≡ true) × (passes k c ≡ true)
pass_is_asked k c e = slot_pass (uses c (place k)) (passes k c) (sym (verdict_is k c) ∙ e)

-- .. so with 5; and with 8, whose verdict below is then the slot's.
pub fifth_is_asked : (c : Loaded) → slot_of 5 (judgement c) ≡ pass → (uses c 5 ≡ true) × (passes5 c ≡ true)
fifth_is_asked c e = slot_pass (uses c 5) (passes5 c) (rw (verdicts_are c) at e)

pub eighth_is_asked : (c : Loaded) → slot_of 8 (judgement c) ≡ pass → verdict8 c ≡ pass
eighth_is_asked c e = slot_passed (uses c 8) (verdict8 c) (rw (verdicts_are c) at e)

-- Take any exact values, over any denominator, that were rounded to those used: KG and lw1 no greater, KN and KM no less. A pass with the numbers used is a pass with the exact ones, in whatever unit KG is. So none of these six is owed to a rounding of KG, KN, KM or lw1.
pub pass_is_earned : (D : ℕ) (h : Hull) (c : Loaded) → 0 < c.unit → Behind D h c → (k : Criterion) → passes k c ≡ true → passes_over D k (set c) c.weather.sky h ≡ true
pass_is_earned = keeping.earned

-- Over KG's unit, with the numbers used, the exact verdict is the judgement's own.
pub over_unit : (k : Criterion) (c : Loaded) → passes_over c.unit k (set c) c.weather.sky (used c) ≡ passes k c
over_unit = keeping.over_unit

-- The denominator does not matter: every number S times as fine gives the same verdict.
pub same_verdict : (S D : ℕ) → 0 < S → (s : Criteria) (c : Sky) (h : Hull) (k : Criterion) → passes_over (S * D) k s c (finer S h) ≡ passes_over D k s c h
same_verdict = keeping.same_verdict

-- The exact values of a reading that is judged are such values.
pub exact_values : (R : Reading) → Limits R → weighed R ≡ got tt → (0 < over R) × Behind (over R) (exact R) (loaded R)
exact_values R l w = (exacts.over_pos R l w, exacts.exact_behind R l w)

-- And they are exact: KG is the moments with free surface by W, KN and KM lie on the straight line between any two neighbouring rows around W, and lw1 is 5040 x wind area x Z by 981 x W.
pub exact_fractions : (R : Reading) → Limits R → Fractions R (exact R)
exact_fractions = exacts.exact_fractions

-- So for a reading: a pass of one of the six is a pass with its exact values.
pub reading_is_earned : (R : Reading) → Limits R → weighed R ≡ got tt → (k : Criterion) → passes k (loaded R) ≡ true → passes_over (over R) k (set (loaded R)) (loaded R).weather.sky (exact R) ≡ true
reading_is_earned R l w = keeping.earned (over R) (exact R) (loaded R) (exacts.in_unit R) (exacts.exact_behind R l w)

-- Criterion 5 is not among them, for a KN rounded down can move the greatest lever out. But with KN as used, no pass of it is owed to the rounding of KG.
pub fifth_is_earned : (D : ℕ) → 0 < D → (h : Hull) (c : Loaded) → ok_weather c.weather ≡ true → Behind D h c → ((i : ℕ) → get_or h.kn i 0 ≡ D * get_or c.kn i 0) → passes5 c ≡ true → passes_fifth (set c) c.weather.sky h ≡ true
fifth_is_earned = angle.fifth

-- The heel that criterion 7 judges is no less than the exact one, and by less than a tenth: at any parts of a tenth, the first part at which the curve has lw1 or more.
pub heel_is_earned : (R : Reading) → Limits R → weighed R ≡ got tt → phi0 (loaded R) ≤ E (loaded R) → (q : ℕ) → 0 < q → (phi0_by q (loaded R) ≤ q * phi0 (loaded R)) × (q * phi0 (loaded R) < phi0_by q (loaded R) + q)
heel_is_earned R l w reached q some = heel.heel q some (loaded R) (upright (loaded R) (fair R l w)) reached

-- There are parts fine enough, and so is any multiple of them: there that is where the curve has lw1. So the exact heel itself is among these.
pub exact_heel : (R : Reading) → Limits R → weighed R ≡ got tt → phi0 (loaded R) ≤ E (loaded R) → (Q : ℕ) × (0 < Q) × ((k : ℕ) → 0 < k → y_by (k * Q) (loaded R) (pos (phi0_by (k * Q) (loaded R))) ≡ units_by (k * Q) (loaded R).unit (lw1 (loaded R)))
exact_heel R l w reached = grid.heel_enough (loaded R) (upright (loaded R) (fair R l w)) reached

-- So a pass of criterion 7 is a pass at the exact heel: none is owed to the rounding of phi0.
pub seventh_is_earned : (R : Reading) → Limits R → weighed R ≡ got tt → passes7 (loaded R) ≡ true → (q : ℕ) → 0 < q → PassesAt q (loaded R)
seventh_is_earned R l w v q some = heel.seventh q some (loaded R) (upright (loaded R) (fair R l w)) v

-- ---- the limits of criteria 1 to 3
-- For every value of pi from 3.1415926 on they are at least 0.055, 0.03 and 0.09 m·rad; with timber on deck that of criterion 3 is at least 0.08.
pub limits_cover : (num den : ℕ) → PiFrom num den → Covers num den (limits_of code).area1 55 × Covers num den (limits_of code).area2 30 × Covers num den (limits_of code).area3 90 × Covers num den (limits_of timber).area3 80
limits_cover = limits.limits_cover

-- And by less than 100,000 y units of a KG in millimetres, a millionth of a metre-degree: so much less would not do.
pub limits_least : (num den : ℕ) → 0 < den → PiTo num den → (¬ Covers num den ((limits_of code).area1 - 100_000) 55) × (¬ Covers num den ((limits_of code).area2 - 100_000) 30) × (¬ Covers num den ((limits_of code).area3 - 100_000) 90) × (¬ Covers num den ((limits_of timber).area3 - 100_000) 80)
limits_least = limits.limits_least

-- ---- criterion 8
-- Where it is judged the roll is at least 6.4 degrees.
pub roll_from : (c : Loaded) → not_judged c ≡ false → 64 ≤ phi1 c
roll_from c h = phi1_from c (judged c h)

-- A pass of criterion 8 is a pass of b - a summed at any parts of a tenth, where y lies nowhere below -lw2 from 0 to the reach of the windward side: with phi1 as used, or with any smaller roll.
pub eighth_is_earned : (R : Reading) → Limits R → weighed R ≡ got tt → NowhereBelow (loaded R) → verdict8 (loaded R) ≡ pass → (q : ℕ) → 0 < q → (roll : ℕ) → 0 < roll → roll ≤ q * phi1 (loaded R) → Le (pos 0) (net_by q roll (loaded R))
eighth_is_earned R l w high v q some = gust.eighth q some (loaded R) (upright (loaded R) (fair R l w)) v high

-- The exact roll is such a roll: with k, X1, X2 and s by tables that are not rounded, over any M, at a B/d and a keel index that are not rounded and at any period x / D no shorter than the one used; with r and the root not rounded. All from the d, KM and KG used.
pub roll_is_earned : (R : Reading) → Limits R → weighed R ≡ got tt → not_judged (loaded R) ≡ false → (M D x : ℕ) → 0 < D → D * period (loaded R) ≤ x → (q roll : ℕ) → WithinRoll M D x (loaded R) q roll → roll ≤ q * phi1 (loaded R)
roll_is_earned R l w h = rolling.roll_least (loaded R) (fair R l w) (judged (loaded R) h)

-- And the exact period, with b, C and q not rounded, is no shorter than the one used.
pub period_is_earned : (R : Reading) → Limits R → weighed R ≡ got tt → not_judged (loaded R) ≡ false → (D x : ℕ) → NoShorter D x (loaded R) → D * period (loaded R) ≤ x
period_is_earned R l w h = rolling.period_least (loaded R) (fair R l w) (judged (loaded R) h)

-- There are parts fine enough, and so is any multiple of them: there phi0 is where the curve has lw1, and e where it falls below lw2, or min(E, 500). So b - a itself, at its exact angles, is among these figures.
pub exact_angles : (R : Reading) → Limits R → weighed R ≡ got tt → no_gust (loaded R) ≡ false → (Q : ℕ) × (0 < Q) × ((k : ℕ) → 0 < k → Exactly (k * Q) (loaded R))
exact_angles R l w h = grid.fine_enough (loaded R) (upright (loaded R) (fair R l w)) h

-- b - a, q² times, is the net used, less the piece from the start used to the exact one, i parts wide, and with the piece left off after e, j parts wide.
pub net_and_pieces : (R : Reading) → Limits R → weighed R ≡ got tt → (q : ℕ) → 0 < q → (roll i j n : ℕ) → start_by q roll (loaded R) ≡ pos q *ℤ start (loaded R) +ℤ pos i → e_by q (loaded R) ≡ q * e (loaded R) + j → pos (e (loaded R)) ≡ start (loaded R) +ℤ pos n → i ≤ q * n → net_by q roll (loaded R) +ℤ sum_z (gusts q (loaded R)) i (pos q *ℤ start (loaded R)) ≡ pos (q * q) *ℤ net (loaded R) +ℤ sum_z (gusts q (loaded R)) j (pos (q * e (loaded R)))
net_and_pieces R l w q some = gust.pieces q some (loaded R) (upright (loaded R) (fair R l w))

-- The piece left off after e is never below zero, whatever the curve: so u and e never favour the ship.
pub end_is_earned : (R : Reading) → Limits R → weighed R ≡ got tt → no_gust (loaded R) ≡ false → (q : ℕ) → 0 < q → (j : ℕ) × (e_by q (loaded R) ≡ q * e (loaded R) + j) × Le (pos 0) (sum_z (gusts q (loaded R)) j (pos (q * e (loaded R))))
end_is_earned R l w h q some = gust.end_piece q some (loaded R) (upright (loaded R) (fair R l w)) h

-- ---- what the condition excludes
-- A text that passes all eight, with a net of +61,440,000 ..
pub counterexample_passes : answered text ≡ got (record {
  verdicts = replicate 8 pass;
  figures = pos 30_000_000 ∷ pos 160_000 ∷ pos 14_000 ∷ pos 3_550_900_000_000 ∷ pos 3_714_500_000_000 ∷ pos 7_265_400_000_000 ∷ pos 18_686_000_000 ∷ pos 350 ∷ pos 134 ∷ pos 187 ∷ pos 61_440_000 ∷ [];
})
counterexample_passes = counter.judges

-- .. which is read so ..
pub counterexample_reads : read text ≡ got reading
counterexample_reads = counter.reads

-- .. and at 26 parts of a tenth, where its angles are exact ..
pub counterexample_exact : Exactly 26 (loaded reading)
counterexample_exact = counter.exactly

-- .. its b - a, 26² times, is -1,923,929,040,000: it is -2,846,048,876.
pub counterexample_below : net_by 26 (26 * phi1 (loaded reading)) (loaded reading) ≡ neg_ℤ (pos 1_923_929_040_000)
counterexample_below = counter.b_less_a

-- Its curve is not one of those above.
pub counterexample_excluded : ¬ NowhereBelow (loaded reading)
counterexample_excluded = counter.excluded

-- ---- KG in tenths of a millimetre
-- In a unit n times as fine KG, rounded up, is no more than n times as great.
pub kg_no_more : (n m : ℕ) (es : List Entry) → 0 < displacement es → corrected_kg_in (n * m) es ≤ n * corrected_kg_in m es
kg_no_more = harsher.kg_no_more

-- And it is less by fewer than n: of tenths against millimetres, by 0.9 mm at the most.
pub kg_near : (n m : ℕ) (es : List Entry) → 0 < n → 0 < displacement es → n * corrected_kg_in m es < corrected_kg_in (n * m) es + n
kg_near = harsher.kg_near

-- So for every reading that is judged no slot from 1 to 7, 5 included, loses its pass in a unit n times as fine ..
pub finer_never_harsher : (n m : ℕ) → 0 < n → (R : Reading) → Limits R → weighed R ≡ got tt → KeepsSeven (loaded_in m R) (loaded_in (n * m) R)
finer_never_harsher = harsher.never_harsher

-- .. nor in tenths the one that it has in millimetres.
pub tenths_never_harsher : (R : Reading) → Limits R → weighed R ≡ got tt → KeepsSeven (loaded_in millimetres R) (loaded R)
tenths_never_harsher = harsher.never_harsher tenths millimetres (omega arith)

-- GM has the same verdict in every unit. KM and the limit are whole millimetres, so that the rounding of KG never cost a ship criterion 6 nor gave it her ..
pub gm_in_any_unit : (R : Reading) → Limits R → weighed R ≡ got tt → (unit : ℕ) → 0 < unit → slot_of 6 (judgement (loaded_in unit R)) ≡ slot_of 6 (judgement (loaded_in millimetres R))
gm_in_any_unit = harsher.gm_in_any_unit

-- .. but it cost a ferry criterion 4: with a KG of 4,760 mm her greatest lever is below 200 mm, and with 4,759.5 mm she passes all eight.
pub ferry_passes : (answered_in millimetres ferry ≡ got (record {
  verdicts = pass ∷ pass ∷ pass ∷ fail ∷ pass ∷ pass ∷ pass ∷ pass ∷ [];
  figures = pos 900_000 ∷ pos 4_760 ∷ pos 550 ∷ pos 373_937_400_000 ∷ pos 197_959_500_000 ∷ pos 571_896_900_000 ∷ pos 998_796_000 ∷ pos 350 ∷ pos 58 ∷ pos 191 ∷ pos 94_940_663_520 ∷ [];
})) × (answered ferry ≡ got (record {
  verdicts = replicate 8 pass;
  figures = pos 900_000 ∷ pos 47_595 ∷ pos 5_505 ∷ pos 3_743_209_675_000 ∷ pos 1_982_457_437_500 ∷ pos 5_725_667_112_500 ∷ pos 10_002_299_500 ∷ pos 350 ∷ pos 58 ∷ pos 191 ∷ pos 957_012_726_940 ∷ [];
}))
ferry_passes = (texts.ferry_before, texts.ferry_now)

-- Criterion 8 is not among them, for a stiffer ship may heel less and roll further: with a KG of 4,674 mm this one passes all eight; with 4,673.1 mm her phi0 is 9.7 degrees for 9.8 and her phi1 20.8 for 20.7, so that she starts two tenths further to windward, her net is below zero, and 8 is lost.
pub eighth_can_be_lost : (answered_in millimetres stiffer ≡ got (record {
  verdicts = replicate 8 pass;
  figures = pos 4_740_521 ∷ pos 4_674 ∷ pos 690 ∷ pos 497_661_010_000 ∷ pos 332_193_425_000 ∷ pos 829_854_435_000 ∷ pos 1_819_839_300 ∷ pos 450 ∷ pos 98 ∷ pos 207 ∷ pos 3_589_509_992 ∷ [];
})) × (answered stiffer ≡ got (record {
  verdicts = pass ∷ pass ∷ pass ∷ pass ∷ pass ∷ pass ∷ pass ∷ fail ∷ [];
  figures = pos 4_740_521 ∷ pos 46_731 ∷ pos 6_909 ∷ pos 4_983_514_315_000 ∷ pos 3_327_086_637_500 ∷ pos 8_310_600_952_500 ∷ pos 18_230_212_950 ∷ pos 450 ∷ pos 97 ∷ pos 208 ∷ neg_ℤ (pos 9_353_477_464) ∷ [];
}))
eighth_can_be_lost = (texts.stiffer_before, texts.stiffer_now)
