-- 'A lower weight never loses a pass' (request 6): at one displacement, in one unit, a lower KG keeps every pass of criteria 1 to 7; a load of the same mass whose moments with free surface are no greater has such a KG; and a load with one entry moved down is such a load.
use mathlib.Core.Path.{◌≡◌, ap, ap₂, sym, ◌∙◌, subst}
use mathlib.Core.Bool.{true}
use mathlib.Core.List.{List}
use Prim.Native.Nat.{ℕ, ◌+◌, ◌*◌, ◌≤◌, ◌<◌}
use native.Mathlib.Omega.{arith}
use native.Mathlib.Nat.{mul-le-mul_left, one-mul}
use Rattle.rules.specs.Blocks.{Ship, Row, Weather, ok_weather}
use Rattle.rules.specs.Layout.{Reading, Limits}
use Rattle.rules.specs.Outcome.{got}
use Rattle.rules.specs.Loading.{tenths, total, moment, free_surface, displacement, corrected_kg_in, entries_of, in_table, weighed}
use Rattle.rules.specs.Leaves.{moments_in}
use Rattle.rules.specs.Curve.{Loaded, loaded_at, loaded_in}
use Rattle.rules.specs.Criteria.{Criteria}
use Rattle.rules.proofs.rounding.Rounding.{ceiling_least}
use Rattle.rules.proofs.rounding.Divisions.{kg_up}
use Rattle.rules.proofs.layout.Counts.{kg_600000}
use Rattle.rules.proofs.loading.Sums.{total_leaves, displacement_leaves}
use Rattle.rules.proofs.loading.Fair.{weighed_inv}
use Rattle.rules.proofs.answer.EitherUnit.{floats}
use Rattle.earned.specs.Verdicts.{Criterion, passes_over, passes_fifth, used}
use Rattle.earned.specs.Tenths.{KeepsSeven}
use Rattle.earned.specs.Lower.{NoWorse, NoHigher}
use Rattle.earned.proofs.TwoKGs as kgs

-- ---- two KGs in one unit
module _ (unit : ℕ) (s : Ship) (rows : List Row) (sky : Weather) (w kg kg' : ℕ) (lower : kg' ≤ kg) where
  abbrev at : ℕ → Loaded
  at k = loaded_at unit s rows sky w k

  no_more : kg' ≤ 1 * kg
  no_more = omega arith

  -- A unit once as fine is the unit.
  in_one : (P : ℕ → Loaded → Type 0) → P (1 * unit) (loaded_at (1 * unit) s rows sky w kg') → P unit (at kg')
  in_one P = subst (λ (u : ℕ). P u (loaded_at u s rows sky w kg')) (one-mul unit)

  pub lower_steps : NoWorse 1 1 (at kg) (at kg')
  lower_steps = in_one (λ u c. NoWorse 1 1 (at kg) c) (kgs.steps 1 unit s rows sky w kg kg' no_more (omega arith))

  pub lower_six : (limits : Criteria) (k : Criterion) → passes_over unit k limits sky.sky (used (at kg)) ≡ true → passes_over unit k limits sky.sky (used (at kg')) ≡ true
  lower_six limits k p = in_one (λ u c. passes_over u k limits sky.sky (used c) ≡ true) (kgs.six_kept 1 unit s rows sky w kg kg' no_more limits k p)

  pub lower_fifth : ok_weather sky ≡ true → (limits : Criteria) → passes_fifth limits sky.sky (used (at kg)) ≡ true → passes_fifth limits sky.sky (used (at kg')) ≡ true
  lower_fifth ok limits p = in_one (λ u c. passes_fifth limits sky.sky (used c) ≡ true) (kgs.fifth_kept 1 unit s rows sky w kg kg' no_more (omega arith) ok limits p)

  pub lower_keeps_seven : ok_weather sky ≡ true → KeepsSeven (at kg) (at kg')
  lower_keeps_seven ok = in_one (λ u c. KeepsSeven (at kg) c) (kgs.keeps_seven 1 unit s rows sky w kg kg' no_more (omega arith) ok)

-- ---- two readings
module _ (r s : Reading) (lower : NoHigher r s) (limits : Limits s) (judged : weighed s ≡ got tt) where
  same_mass : displacement (entries_of r) ≡ displacement (entries_of s)
  same_mass = displacement_leaves r.condition.load ∙ lower.alike.masses ∙ sym (displacement_leaves s.condition.load)

  moments_of : (t : Reading) → total moment (entries_of t) + total free_surface (entries_of t) ≡ moments_in t.condition.load
  moments_of t = ap₂ ◌+◌ (total_leaves moment t.condition.load) (total_leaves free_surface t.condition.load)

  some : 0 < displacement (entries_of s)
  some = floats s limits (weighed_inv tenths s judged).0

  pub kg_no_greater : (unit : ℕ) → corrected_kg_in unit (entries_of r) ≤ corrected_kg_in unit (entries_of s)
  kg_no_greater unit =
      let k = corrected_kg_in unit (entries_of s) in
      let e = ap (λ (w : ℕ). k * w) same_mass in
      ceiling_least (kg_up unit (entries_of r) (omega (arith, some, same_mass))) k (omega (arith, e, (kg_up unit (entries_of s) some).over, mul-le-mul_left unit lower.moments, ap (λ (m : ℕ). unit * m) (moments_of r), ap (λ (m : ℕ). unit * m) (moments_of s)))

  -- Neither 7 nor 8.
  pub lower_judged : weighed r ≡ got tt
  lower_judged =
      let a = weighed_inv tenths s judged in
      kg_600000 r (ap₂ in_table lower.alike.rows same_mass ∙ a.0) (omega (arith, kg_no_greater tenths, a.1))

  pub lower_keeps : (unit : ℕ) → KeepsSeven (loaded_in unit s) (loaded_in unit r)
  unfolding loaded_in
  lower_keeps unit =
      let a = lower.alike in
      let kg = corrected_kg_in unit (entries_of r) in
      let there = loaded_at unit s.ship s.rows s.condition.weather (displacement (entries_of s)) kg in
      let here = loaded_at unit r.ship r.rows r.condition.weather (displacement (entries_of r)) kg in
      let e : there ≡ here = sym (λ i. loaded_at unit (a.ship i) (a.rows i) (a.weather i) (same_mass i) kg) in
      subst (KeepsSeven (loaded_in unit s)) e (lower_keeps_seven unit s.ship s.rows s.condition.weather (displacement (entries_of s)) (corrected_kg_in unit (entries_of s)) kg (kg_no_greater unit) limits.loaded.sky)
