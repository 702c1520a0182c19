-- One ship, table, weather and displacement at two KGs, the second no greater: what follows for its curve and its GM, and so for criteria 1 to 7 over any set. The second KG may be in a unit n times as fine.
use mathlib.Core.Path.{◌≡◌, ap, sym, ◌∙◌, subst}
use mathlib.Core.Bool.{Bool, true}
use mathlib.Core.List.{List}
use Prim.Native.Nat.{ℕ, zero, suc, ◌*◌, ◌≤◌, ◌<◌}
use native.Mathlib.Omega.{arith}
use lib.ListN.{get_or}
use lib.IntN.{ℤ, pos}
use Rattle.rules.specs.Rounding.{peak}
use Rattle.rules.specs.Blocks.{Ship, Row, Weather, ok_weather}
use Rattle.rules.specs.Curve.{Loaded, lever_z, kn_at, loaded_at, y}
use Rattle.rules.specs.Criteria.{Criteria, set, lw1, uses, passes5}
use Rattle.rules.specs.Columns.{slot_of}
use Rattle.rules.specs.Report.{pass, slot, verdict, judgement}
use Rattle.rules.proofs.criteria.EitherSet.{verdicts_are, slot_pass}
use Rattle.earned.specs.Order.{Better, curve, Follows}
use Rattle.earned.specs.Verdicts.{Criterion, one, two, three, four, six, seven, passes_over, passes_fifth, passes, place, used}
use Rattle.earned.specs.Tenths.{KeepsSeven}
use Rattle.earned.specs.Lower.{NoWorse}
use Rattle.earned.proofs.Order.{difference, order}
use Rattle.earned.proofs.Keeps.{get_or_finer, curve_used, keeps, over_unit, verdict_is}
use Rattle.earned.proofs.Fifth.{angle_order, fifth_keeps, fifth_over_unit, flooding_to}

-- A slot that is used and reads pass reads pass still, where what it asks is still met.
slot_stays : (used p p' : Bool) → (p ≡ true → p' ≡ true) → slot used (verdict p) ≡ pass → slot used (verdict p') ≡ pass
slot_stays used p p' f e = let h = slot_pass used p e in rw (h.0, f h.1)

module _ (n m : ℕ) (s : Ship) (rows : List Row) (sky : Weather) (w kg kg' : ℕ) (no_more : kg' ≤ n * kg) where
  abbrev higher : Loaded
  higher = loaded_at m s rows sky w kg

  abbrev lower : Loaded
  lower = loaded_at (n * m) s rows sky w kg'

  -- KN is the same, over either unit.
  kn_same : (i : ℕ) → n * get_or (used higher).kn i 0 ≡ 1 * get_or (used lower).kn i 0
  unfolding loaded_at
  kn_same i = rw (get_or_finer m (kn_at rows w) i, get_or_finer (n * m) (kn_at rows w) i) (go (get_or (kn_at rows w) i 0))
    where
      go : (v : ℕ) → n * (m * v) ≡ 1 * (n * m * v)
      go v = omega arith

  better : Better n 1 (used higher) (used lower)
  unfolding loaded_at lw1
  better = record { kn = λ i. omega (arith, kn_same i); km = omega arith; kg = omega arith; lw1 = omega arith }

  -- ---- the steps
  follows : Follows n 1 (y higher) (y lower)
  follows = subst (λ (f : ℤ → ℤ). Follows n 1 f (y lower)) (curve_used higher) (subst (λ (g : ℤ → ℤ). Follows n 1 (curve (used higher)) g) (curve_used lower) (order n 1 (omega arith) (used higher) (used lower) better))

  first_angle : 0 < n → (e : ℕ) → e ≤ 600 → peak (λ t. y higher (pos t)) 0 e ≤ peak (λ t. y lower (pos t)) 0 e
  unfolding lever_z
  first_angle some e l =
      let a = ap (λ (f : ℤ → ℤ). peak (λ t. f (pos t)) 0 e) (curve_used higher) in
      let b = ap (λ (f : ℤ → ℤ). peak (λ t. f (pos t)) 0 e) (curve_used lower) in
      omega (arith, a, b, angle_order n 1 (used higher) (used lower) better kn_same some e l)

  pub steps : 0 < n → NoWorse n 1 higher lower
  unfolding loaded_at
  steps some = record { curve = follows; first = first_angle some; gm = difference n 1 (used higher).km kg (used lower).km kg' better.km (omega arith) }

  -- ---- over any set
  pub six_kept : (limits : Criteria) (k : Criterion) → passes_over m k limits sky.sky (used higher) ≡ true → passes_over (n * m) k limits sky.sky (used lower) ≡ true
  six_kept limits = keeps n 1 m (n * m) (omega arith) (omega arith) limits sky.sky (used higher) (used lower) better

  pub fifth_kept : 0 < n → ok_weather sky ≡ true → (limits : Criteria) → passes_fifth limits sky.sky (used higher) ≡ true → passes_fifth limits sky.sky (used lower) ≡ true
  fifth_kept some ok limits = fifth_keeps n 1 (used higher) (used lower) better kn_same some limits sky.sky (flooding_to sky ok)

  -- ---- the slots, over the set that the weather chose
  asked : (k : Criterion) → passes k higher ≡ true → passes k lower ≡ true
  unfolding loaded_at
  asked k p = sym (over_unit k lower) ∙ six_kept (set higher) k (over_unit k higher ∙ p)

  fifth_asked : 0 < n → ok_weather sky ≡ true → passes5 higher ≡ true → passes5 lower ≡ true
  unfolding loaded_at
  fifth_asked some ok p = sym (fifth_over_unit lower) ∙ fifth_kept some ok (set higher) (fifth_over_unit higher ∙ p)

  kept : (i : ℕ) (p : Loaded → Bool) → ((c : Loaded) → slot_of i (judgement c) ≡ slot (uses c i) (verdict (p c))) → (p higher ≡ true → p lower ≡ true) → slot_of i (judgement higher) ≡ pass → slot_of i (judgement lower) ≡ pass
  unfolding loaded_at
  kept i p reads f e = reads lower ∙ slot_stays (uses higher i) (p higher) (p lower) f (sym (reads higher) ∙ e)

  of_six : (k : Criterion) → slot_of (place k) (judgement higher) ≡ pass → slot_of (place k) (judgement lower) ≡ pass
  of_six k = kept (place k) (passes k) (verdict_is k) (asked k)

  pub keeps_seven : 0 < n → ok_weather sky ≡ true → KeepsSeven higher lower
  keeps_seven some ok zero l h = absurd (omega arith)
  keeps_seven some ok (suc zero) l h = of_six one
  keeps_seven some ok (suc (suc zero)) l h = of_six two
  keeps_seven some ok (suc (suc (suc zero))) l h = of_six three
  keeps_seven some ok (suc (suc (suc (suc zero)))) l h = of_six four
  keeps_seven some ok (suc (suc (suc (suc (suc zero))))) l h = kept 5 passes5 (λ c. rw (verdicts_are c)) (fifth_asked some ok)
  keeps_seven some ok (suc (suc (suc (suc (suc (suc zero)))))) l h = of_six six
  keeps_seven some ok (suc (suc (suc (suc (suc (suc (suc zero))))))) l h = of_six seven
  keeps_seven some ok (suc (suc (suc (suc (suc (suc (suc (suc i)))))))) l h = absurd (omega arith)
