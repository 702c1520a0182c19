-- KG 'in tenths of a millimetre, still rounded up' (request 5): in a unit n times as fine it is no greater, so no pass of criteria 1 to 7 is lost. It follows from the order of hulls, from the one used in the coarser unit to the one used in the finer, each over its unit.
use mathlib.Core.Path.{◌≡◌, refl, ap₂, sym, ◌∙◌}
use mathlib.Core.Bool.{Bool, true}
use mathlib.Core.List.{List}
use Prim.Native.Nat.{ℕ, zero, suc, ◌+◌, ◌*◌, ◌≤◌, ◌<◌}
use native.Mathlib.Omega.{arith}
use native.Mathlib.Nat.{mul-le-mul_left, mul-lt-mul_of_pos_left, lt_of_mul-lt-mul_left}
use lib.ListN.{get_or}
use borrow.Author.Tests.{leb-true, le-leb}
use Rattle.rules.specs.Rounding.{peak}
use Rattle.rules.specs.Blocks.{Ship, Row, Weather, ok_weather}
use Rattle.rules.specs.Layout.{Reading, Limits}
use Rattle.rules.specs.Outcome.{got}
use Rattle.rules.specs.Loading.{millimetres, Entry, displacement, corrected_kg_in, entries_of, weighed}
use Rattle.rules.specs.Curve.{Loaded, lever, lever_z, kn_at, loaded_at, loaded_in}
use Rattle.rules.specs.Criteria.{set, lw1, uses, angle_of_greatest, passes1, passes2, passes3, passes4, passes5, passes6, passes7}
use Rattle.rules.specs.Columns.{slot_of}
use Rattle.rules.specs.Report.{pass, slot, verdict, judgement}
use Rattle.rules.proofs.rounding.Rounding.{ceiling_least}
use Rattle.rules.proofs.rounding.Divisions.{kg_up}
use Rattle.rules.proofs.criteria.EitherSet.{verdicts_are, slot_pass}
use Rattle.rules.proofs.answer.EitherUnit.{sixth_in_millimetres}
use Rattle.earned.specs.Order.{Better}
use Rattle.earned.specs.Verdicts.{Criterion, one, two, three, four, six, seven, passes, used}
use Rattle.earned.specs.Tenths.{KeepsSeven}
use Rattle.earned.proofs.Keeps.{get_or_finer, keeps, over_unit}
use Rattle.earned.proofs.Exact as exacts
use Rattle.earned.proofs.Fifth.{angle_order, angle_used, flooding_to}

-- In a unit n times as fine KG is no more than n times.
pub kg_no_more : (n m : ℕ) (es : List Entry) → 0 < displacement es → corrected_kg_in (n * m) es ≤ n * corrected_kg_in m es
kg_no_more n m es some = ceiling_least (kg_up (n * m) es some) (n * corrected_kg_in m es) (omega (arith, mul-le-mul_left n (kg_up m es some).over))

-- And less by fewer than n.
pub kg_near : (n m : ℕ) (es : List Entry) → 0 < n → 0 < displacement es → n * corrected_kg_in m es < corrected_kg_in (n * m) es + n
kg_near n m es pos some = lt_of_mul-lt-mul_left (displacement es) (omega (arith, mul-lt-mul_of_pos_left (kg_up m es some).near pos, (kg_up (n * m) es some).over))

-- ---- a ship at one displacement, with a KG in the unit m and one in n times as fine a unit that is no greater
module _ (n m : ℕ) (s : Ship) (rows : List Row) (sky : Weather) (w kg kg' : ℕ) (no_more : kg' ≤ n * kg) where
  abbrev coarse : Loaded
  coarse = loaded_at m s rows sky w kg

  abbrev fine : Loaded
  fine = loaded_at (n * m) s rows sky w kg'

  -- KN is the same, over either unit.
  kn_same : (i : ℕ) → n * get_or (used coarse).kn i 0 ≡ 1 * get_or (used fine).kn i 0
  unfolding loaded_at
  kn_same i = rw (get_or_finer m (kn_at rows w) i, get_or_finer (n * m) (kn_at rows w) i) (go (get_or (kn_at rows w) i 0))
    where
      go : (v : ℕ) → n * (m * v) ≡ 1 * (n * m * v)
      go v = omega arith

  better : Better n 1 (used coarse) (used fine)
  unfolding loaded_at lw1
  better = record { kn = λ i. omega (arith, kn_same i); km = omega arith; kg = omega arith; lw1 = omega arith }

  keeps_finer : (k : Criterion) → passes k coarse ≡ true → passes k fine ≡ true
  unfolding loaded_at
  keeps_finer k p = sym (over_unit k fine) ∙ keeps n 1 m (n * m) (omega arith) (omega arith) (set coarse) sky.sky (used coarse) (used fine) better k (over_unit k coarse ∙ p)

  keeps_fifth : 0 < n → ok_weather sky ≡ true → passes5 coarse ≡ true → passes5 fine ≡ true
  unfolding loaded_at passes5 angle_of_greatest lever_z
  keeps_fifth some ok p =
      let e = sky.sky.flooding in
      le-leb (set coarse).angle (peak (lever fine.unit fine.kn fine.kg) 0 e)
      (omega (arith, leb-true (set coarse).angle (peak (lever coarse.unit coarse.kn coarse.kg) 0 e) p, angle_used coarse, angle_used fine, angle_order n 1 (used coarse) (used fine) better kn_same some e (flooding_to sky ok)))

-- ---- a reading that is judged, in two units
-- A slot that is used is used in either unit, for the set is the same.
same_use : (R : Reading) (m n i : ℕ) → uses (loaded_in m R) i ≡ uses (loaded_in n R) i
unfolding loaded_in loaded_at
same_use R m n i = refl

slot_stays : (used used' p p' : Bool) → used ≡ used' → (p ≡ true → p' ≡ true) → slot used (verdict p) ≡ pass → slot used' (verdict p') ≡ pass
slot_stays used used' p p' same f e = let h = slot_pass used p e in rw (← same, h.0, f h.1)

module _ (n m : ℕ) (R : Reading) (limits : Limits R) (judged : weighed R ≡ got tt) where
  six_never_harsher : (k : Criterion) → passes k (loaded_in m R) ≡ true → passes k (loaded_in (n * m) R) ≡ true
  unfolding loaded_in
  six_never_harsher = keeps_finer n m R.ship R.rows R.condition.weather (displacement (entries_of R)) (corrected_kg_in m (entries_of R)) (corrected_kg_in (n * m) (entries_of R)) (kg_no_more n m (entries_of R) (exacts.some R limits judged))

module _ (n m : ℕ) (some : 0 < n) (R : Reading) (limits : Limits R) (judged : weighed R ≡ got tt) where
  fifth_never_harsher : passes5 (loaded_in m R) ≡ true → passes5 (loaded_in (n * m) R) ≡ true
  unfolding loaded_in
  fifth_never_harsher = keeps_fifth n m R.ship R.rows R.condition.weather (displacement (entries_of R)) (corrected_kg_in m (entries_of R)) (corrected_kg_in (n * m) (entries_of R)) (kg_no_more n m (entries_of R) (exacts.some R limits judged)) some limits.loaded.sky

  kept : (i : ℕ) (p : Loaded → Bool) → ((c : Loaded) → slot_of i (judgement c) ≡ slot (uses c i) (verdict (p c))) → (p (loaded_in m R) ≡ true → p (loaded_in (n * m) R) ≡ true) → slot_of i (judgement (loaded_in m R)) ≡ pass → slot_of i (judgement (loaded_in (n * m) R)) ≡ pass
  kept i p reads f e = reads (loaded_in (n * m) R) ∙ slot_stays (uses (loaded_in m R) i) (uses (loaded_in (n * m) R) i) (p (loaded_in m R)) (p (loaded_in (n * m) R)) (same_use R m (n * m) i) f (sym (reads (loaded_in m R)) ∙ e)

  pub never_harsher : KeepsSeven (loaded_in m R) (loaded_in (n * m) R)
  never_harsher zero l h = absurd (omega arith)
  never_harsher (suc zero) l h = kept 1 passes1 (λ c. rw (verdicts_are c)) (six_never_harsher n m R limits judged one)
  never_harsher (suc (suc zero)) l h = kept 2 passes2 (λ c. rw (verdicts_are c)) (six_never_harsher n m R limits judged two)
  never_harsher (suc (suc (suc zero))) l h = kept 3 passes3 (λ c. rw (verdicts_are c)) (six_never_harsher n m R limits judged three)
  never_harsher (suc (suc (suc (suc zero)))) l h = kept 4 passes4 (λ c. rw (verdicts_are c)) (six_never_harsher n m R limits judged four)
  never_harsher (suc (suc (suc (suc (suc zero))))) l h = kept 5 passes5 (λ c. rw (verdicts_are c)) fifth_never_harsher
  never_harsher (suc (suc (suc (suc (suc (suc zero)))))) l h = kept 6 passes6 (λ c. rw (verdicts_are c)) (six_never_harsher n m R limits judged six)
  never_harsher (suc (suc (suc (suc (suc (suc (suc zero))))))) l h = kept 7 passes7 (λ c. rw (verdicts_are c)) (six_never_harsher n m R limits judged seven)
  never_harsher (suc (suc (suc (suc (suc (suc (suc (suc i)))))))) l h = absurd (omega arith)

-- ---- GM, which no unit decides
pub gm_in_any_unit : (R : Reading) → Limits R → weighed R ≡ got tt → (unit : ℕ) → 0 < unit → slot_of 6 (judgement (loaded_in unit R)) ≡ slot_of 6 (judgement (loaded_in millimetres R))
gm_in_any_unit R limits judged unit some = reads (loaded_in unit R) ∙ ap₂ (λ (used p : Bool). slot used (verdict p)) (same_use R unit millimetres 6) (sixth_in_millimetres unit some R limits judged) ∙ sym (reads (loaded_in millimetres R))
  where
    reads : (c : Loaded) → slot_of 6 (judgement c) ≡ slot (uses c 6) (verdict (passes6 c))
    reads c = rw (verdicts_are c)
