-- A condition line: what the code holds of it is what the rules say of it, and what comes of that, refused, 7 or 8, or judged, is the rules' answer.
use mathlib.Core.Path.{◌≡◌, refl, ap, sym, ◌∙◌}
use mathlib.Core.Bool.{true}
use mathlib.Core.List.{List, map}
use Prim.Native.Nat.{ℕ, ◌≤◌}
use native.Mathlib.Omega.{arith}
use Rattle.std.specs.Prelude.{Result, Ok, Err}
use Rattle.rules.specs.Blocks.{Row, ok}
use Rattle.rules.specs.Blocks as rules
use Rattle.rules.specs.Layout as layout
use Rattle.rules.specs.Layout.{Reading, Limits}
use Rattle.rules.specs.Outcome.{Ans, refused, got}
use Rattle.rules.specs.Booklet.{condition_at}
use Rattle.rules.specs.Loading.{tenths, weighed, in_table, displacement, corrected_kg, entries_of}
use Rattle.rules.specs.Curve.{loaded_at, loaded}
use Rattle.rules.specs.Report.{judgement}
use Rattle.rules.specs.Ranges.{Fair}
use Rattle.rules.specs.Answer.{judged, answer_of_line}
use Rattle.rules.proofs.answer.Steps.{judged_refused, judged_weighed}
use Rattle.rules.proofs.loading.Fair.{fair}
use Rattle.rules.proofs.layout.Fields.{both_true, Limited, limited}
use Rattle.rules.proofs.walk.Outcome.{bind_got}
use Rattle.rules.proofs.booklet.Conditions.{answer_steps, answer_refused}
use Rattle.book.specs.Book.{ship_of, plain_ship, plain_row, weather_of, rows_of, loaded_of, judgement_of, refusal, nowhere, answered, fault_number, Refuses}
use Rattle.book.specs.declared.Ship.{Ship}
use Rattle.book.specs.declared.Row as plain
use Rattle.book.specs.declared.Loaded as plain'
use Rattle.book.specs.declared.Judgement as plain''
use Rattle.book.specs.declared.Refusal.{Refusal}
use Rattle.book.specs.declared.Fault.{Fault}
use Rattle.book.proofs.Sets.{weather_plain}
use Rattle.book.proofs.Faults.{fault_number_lem, ship_plain}
use Rattle.curve.specs.Weighing.{Whole, Sound, weighed_of, Weighs}
use Rattle.curve.specs.declared.loading.Weight.{Weight}
use Rattle.curve.proofs.Soundness as soundness
use Rattle.frames.specs.FrameAnswers.{plain_condition}
use Rattle.frames.specs.declared.Condition.{Condition}
use Rattle.instrument.specs.Sent.{LineSays}

-- What was read is this reading, within its limits, as plain data.
pub record Says (r : Reading) (ship : Ship) (x : Condition) (rows : List plain.Row) : Type 0 where
  pub limits : Limits r
  pub hull : ship ≡ plain_ship r.ship
  pub load : x ≡ plain_condition r.condition
  pub table : rows ≡ map plain_row r.rows

-- '0 round, 1 sharp.'
bilge_to : (s : rules.Ship) → ok rules.ship s ≡ true → s.bilge ≤ 1
unfolding ok Limited
bilge_to s h = let w = limited rules.ship.fields (rules.ship.listed s) (both_true _ _ h).0 in omega arith

-- ---- a condition that is read
module _ (r : Reading) (ship : Ship) (x : Condition) (rows : List plain.Row) (T : Says r ship x rows) where
  pub sound_of : Sound x.sums rows
  sound_of = rw (T.load, T.table) (soundness.sound r T.limits)

  pub whole_of : Whole rows
  whole_of = rw T.table (soundness.whole r T.limits)

  module _ (w : Result Weight Fault) (e : w ≡ weighed_of (rows_of rows) x.sums) where
    weighs_of : Weighs r w
    weighs_of = rw (e, T.load, T.table) (soundness.reading_weighs r)

    -- 7 or 8.
    pub outside_is : (f : Fault) → w ≡ Err f → (y : Refusal) → y ≡ nowhere f → Err y ≡ answered judgement_of (judged r)
    outside_is f q y p =
        let is : Refuses (weighed r) (nowhere f) = rw q at weighs_of in
        let z : nowhere f ≡ refusal (fault_number f) 0 0 = rw (fault_number_lem f) refl in
        rw (judged_refused r is, p, z) refl

    module _ (k : Weight) (p : w ≡ Ok k) where
      fine : (weighed r ≡ got tt) × (k.w ≡ displacement (entries_of r)) × (k.kg ≡ corrected_kg (entries_of r))
      fine = rw p at weighs_of

      pub in_table_lem : in_table (rows_of rows) k.w ≡ true
      in_table_lem = rw (T.table, fine.1) (soundness.reading_in_table r fine.0)

      module _ (c : plain'.Loaded) (is : loaded_of c ≡ loaded_at tenths (ship_of ship) (rows_of rows) (weather_of x.weather) k.w k.kg) where
        loaded_lem : loaded_of c ≡ loaded r
        loaded_lem = is ∙ rw (T.hull, T.load, T.table, fine.1, fine.2, ship_plain r.ship (bilge_to r.ship T.limits.hull), weather_plain r.condition.weather) (soundness.reading_loaded r)

        pub fair_of : Fair (loaded_of c)
        fair_of = rw loaded_lem (fair r T.limits fine.0)

        -- The judgement of the loaded ship.
        pub judged_is : (j : plain''.Judgement) → j ≡ judgement_of (judgement (loaded_of c)) → Ok j ≡ answered judgement_of (judged r)
        judged_is j q = rw (judged_weighed r fine.0, q, loaded_lem) refl

-- ---- a condition line
module _ (s : rules.Ship) (vs : List Row) (ln : ℕ) (l : List ℕ) (ship : Ship) (read : Result Condition Refusal) (rows : List plain.Row) (T : LineSays s vs ln l ship read rows) where
  pub line_refused : (x : Refusal) → read ≡ Err x → Err x ≡ answered judgement_of (answer_of_line s vs ln l)
  line_refused x q = go (condition_at ln l) refl
    where
      go : (a : Ans layout.Condition) → condition_at ln l ≡ a → Err x ≡ answered judgement_of (answer_of_line s vs ln l)
      go (refused n m o) e =
          let u : ◌≡◌ {A = Result Condition Refusal} (Err x) (Err (refusal n m o)) = sym q ∙ T.line ∙ ap (answered plain_condition) e in
          let z : x ≡ refusal n m o = cc in
          rw (answer_refused s vs ln l e, z) refl
      go (got c) e =
          let u : ◌≡◌ {A = Result Condition Refusal} (Err x) (Ok (plain_condition c)) = sym q ∙ T.line ∙ ap (answered plain_condition) e in
          let z : ◌≡◌ {A = ℕ} 0 1 = cc in
          absurd (omega arith)

  pub line_read : (x : Condition) → read ≡ Ok x → (d : layout.Condition) × (answer_of_line s vs ln l ≡ judged (record { ship = s; rows = vs; condition = d })) × Says (record { ship = s; rows = vs; condition = d }) ship x rows
  line_read x q = go (condition_at ln l) refl
    where
      go : (a : Ans layout.Condition) → condition_at ln l ≡ a → (d : layout.Condition) × (answer_of_line s vs ln l ≡ judged (record { ship = s; rows = vs; condition = d })) × Says (record { ship = s; rows = vs; condition = d }) ship x rows
      go (refused n m o) e =
          let u : ◌≡◌ {A = Result Condition Refusal} (Err (refusal n m o)) (Ok x) = sym (T.line ∙ ap (answered plain_condition) e) ∙ q in
          let z : ◌≡◌ {A = ℕ} 0 1 = cc in
          absurd (omega arith)
      go (got d) e =
          let u : ◌≡◌ {A = Result Condition Refusal} (Ok (plain_condition d)) (Ok x) = sym (T.line ∙ ap (answered plain_condition) e) ∙ q in
          let z : plain_condition d ≡ x = cc in
          (d, answer_steps s vs ln l ∙ bind_got _ e, record { limits = T.limits d e; hull = T.hull; load = sym z; table = T.table })
