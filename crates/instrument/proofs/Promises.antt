-- What is promised of the instrument, to be read without the proofs: each promise is one theorem with a sentence above it, and its proof stands elsewhere.
-- All but those of texts alone (as `one_booklet`) are stated of `judge`, or of `room` or `judge_within`, through its contract, which it is proved to meet (proofs/judge, room, judge_within), or of what that leaves (`RefusedWhole`, `EachAnswered`). Their words are defined in the rules' specs/: Apart (which texts are allowed as a whole, which condition lines are, and what each says), Booklet and Answer (the order of checks, and what is answered), Report and Columns (a report's 209 characters, and where each number stands among them), Places (where a refusal may stand), Leaves and Loading (sums, masses and KG), Mistyped (typing slips), Unit (KG in a finer unit), Cargo and Timber (a C3 made a C5, and the slots of the timber set); and in specs/: Reported (where report k stands, and what is left in the buffer), Faults (1, 2, 4, 5 and 10), Outside (7 and 8) and OneTag (two condition lines that differ in one tag alone). The two ships of request 5 are those of `earned`, specs/Tenths.
-- Reports, conditions and figures are counted from 0, verdicts from 1, lines of a text from 1.
use mathlib.Core.Path.{◌≡◌, refl, ap, sym, ◌∙◌}
use mathlib.Core.Bool.{true}
use mathlib.Core.Logic.{◌↔◌, ◌≢◌, ◌⊎◌}
use mathlib.Core.List.{List, [], ◌∷◌, ◌++◌}
use Prim.Native.Nat.{ℕ, ◌+◌, ◌*◌, max, ◌≤◌, ◌<◌}
use native.Mathlib.Omega.{arith}
use lib.IntN.{pos, neg_ℤ}
use lib.ListN.{length, drop, get_or, set, replicate}
use Rattle.rules.specs.Rounding.{ceil}
use Rattle.rules.specs.Numbers.{Bytes, digits, twos}
use Rattle.rules.specs.Text.{hex, text, Lines}
use Rattle.rules.specs.Blocks.{condition_tag, code, timber, Tank}
use Rattle.rules.specs.Layout.{most_characters, condition_lines, Limits}
use Rattle.rules.specs.Outcome.{refused, got}
use Rattle.rules.specs.Loading.{millimetres, mass, moment, free_surface, corrected_kg, entries_of, weighed}
use Rattle.rules.specs.Leaves.{sum_leaves, SameSums}
use Rattle.rules.specs.Cargo.{MadeCargo, RetaggedLines}
use Rattle.rules.specs.Timber.{TimberLines, condition_by, UnusedSlot, EasedSlot}
use Rattle.rules.specs.Curve.{loaded, loaded_in, y}
use Rattle.rules.specs.Criteria.{angle_of_greatest}
use Rattle.rules.specs.Report.{fail, pass, verdict_number, judgement, no_judgement, concat, report, report_length}
use Rattle.rules.specs.Columns.{figure_in, slot_of, verdict_in}
use Rattle.rules.specs.Met.{Overruns}
use Rattle.rules.specs.Places.{Placed, SameBefore, looked_at}
use Rattle.rules.specs.Booklet.{read_whole, condition_at}
use Rattle.rules.specs.Apart.{spell_booklet, AllowedWhole, AllowedLine, LinesWithin, line_at, reading_at, alone, respelt, LastAlone, Misplaced, line_number}
use Rattle.rules.specs.Mistyped.{kn_value, Bent, FarOff, nth_row, retyped_in}
use Rattle.rules.specs.Answer.{judged_in, answered, number_of, report_of, in_line, number, bytes_sent, written, limited}
use Rattle.rules.specs.Unit.{manifold}
use Rattle.rules.specs.Answer as answers
use Rattle.rules.proofs.walk.Retagged.{tanks_alike}
use Rattle.rules.proofs.walk.Timber.{weathers_alike}
use Rattle.rules.proofs.booklet.Readings.{reading_limits}
use Rattle.rules.proofs.booklet.Sent.{under_one}
use Rattle.rules.proofs.booklet.Room as rooms
use Rattle.rules.proofs.booklet.OfOne.{room_last}
use Rattle.rules.proofs.booklet.Ends as ends
use Rattle.rules.proofs.Booklets as booklets
use Rattle.rules.proofs.bench.Cases.{refusal}
use Rattle.rules.proofs.bench.Bench.{P1, P1-output, bench_holds}
use Rattle.rules.proofs.bench.CargoTank.{tanker, cargo_output, planner_holds}
use Rattle.rules.proofs.bench.TimberDeck.{tender, tender_output, tender_timber_output, coaster, coaster_output, coaster_timber_output, timbers_hold}
use Rattle.rules.proofs.bench.MistypedRow.{digit_missing, above400, below400, above800, below800, mistyped_hold}
use Rattle.rules.proofs.bench.Regrouped.{regrouped, as_one, as_group, reads_as, same_sums, two_texts}
use Rattle.earned.specs.Tenths.{ferry, stiffer}
use Rattle.earned.proofs.Promises as ships
use Rattle.instrument.specs.Reported.{report_in, number_in, HasNumber, RefusedLine, SameButLine, RefusedAt, RefusedWhole, EachAnswered}
use Rattle.instrument.specs.Faults.{NoLineAt, WholeOverrunAt, MisplacedAt, OwedAt, SlipAt, LineOverrunAt}
use Rattle.instrument.specs.Outside.{Outside, TooHigh, Neither}
use Rattle.instrument.specs.OneTag.{OtherTagIn}
pub use Rattle.instrument.proofs.Runs.{Judges, contract}
use Rattle.instrument.proofs.Runs.{lent, lent_out}
use Rattle.instrument.proofs.Rooms.{reply_within}
use Rattle.instrument.proofs.judge_within.Reads as within
use Rattle.instrument.proofs.room.Reads as asks
use Rattle.instrument.proofs.Replies as replies
use Rattle.instrument.proofs.FirstReport.{first_sent, zero_sent}
use Rattle.instrument.proofs.Placed.{whole_placed, placed_report}
use Rattle.instrument.proofs.Faults as faults
use Rattle.instrument.proofs.LineReport as lines
use Rattle.instrument.proofs.LineFigures.{figures_of_leaves}
use Rattle.instrument.proofs.EitherSet as sets
use Rattle.instrument.proofs.LineUnit as units
use Rattle.instrument.proofs.TwoLines.{by_sums, fault_alike}
use Rattle.instrument.proofs.Apart as apart
use Rattle.instrument.proofs.OneTag as tags
use Rattle.instrument.proofs.OfOne as ones
use Rattle.instrument.proofs.BenchSheet.{P10, P11, P13, three}
use Rattle.instrument.proofs.BenchSheet as sheet
use Rattle.instrument.proofs.Within as limits

module _ (text before : List ℕ) (n : ℕ) (after : List ℕ) (run : Judges text before n after) where
  settled : (n ≡ number most_characters text before) × (after ≡ written most_characters text before)
  settled = (contract text before n after).0 run

  -- ---- every text is answered
  -- With less room than the text asks for the number is 9 and every byte of the buffer is as it was.
  pub no_room : length before < answers.room most_characters text → (n ≡ 9) × (after ≡ before)
  no_room short = let g = rooms.without_room most_characters text before short in (settled.0 ∙ g.numbered, settled.1 ∙ g.holds)

  -- The number is 9 in no other case.
  pub nine_iff_no_room : (n ≡ 9) ↔ (length before < answers.room most_characters text)
  nine_iff_no_room = let x = rooms.nine_iff_no_room most_characters text before in (λ z. x.0 (sym settled.0 ∙ z), λ short. (no_room short).0)

  -- A report has no byte 0: in a buffer that was lent full of zeros those bytes are 0 that no report was written to, and no others.
  pub ends_at_zero : ((i : ℕ) → get_or before i 0 ≡ 0) → (i : ℕ) → (get_or after i 0 ≡ 0) ↔ (bytes_sent most_characters text before ≤ i)
  ends_at_zero zeros i = rw settled.1 (ends.ends_at_zero most_characters text before zeros i)

  -- That is: none with 9, 209 of a text that is refused for the whole, 209 for each condition of any other.
  pub bytes_are : (n ≡ 9 → bytes_sent most_characters text before ≡ 0) × (RefusedWhole text before n after → bytes_sent most_characters text before ≡ report_length)
      × ((x : EachAnswered text before n after) → bytes_sent most_characters text before ≡ report_length * length x.allowed.0.conditions)
  bytes_are = limits.bytes_told text before n after settled.0 settled.1

  module _ (enough : answers.room most_characters text ≤ length before) where
    abbrev ran : replies.Run text before n after
    ran = record { numbered = settled.0; left = settled.1; enough = enough }

    -- With that room every text is answered: the number is one of 0 to 8, or 10, and the text is refused for the whole, in one report, or each of its conditions has a report; every byte beyond is as it was.
    pub every_text_answered : (n ≤ 10) × (n ≢ 9) × (RefusedWhole text before n after ⊎ EachAnswered text before n after)
    every_text_answered = replies.every ran

    -- It is refused for the whole exactly when it is not allowed as a whole, and its conditions are answered exactly when it is; so never both.
    pub whole_iff_allowed : (RefusedWhole text before n after ↔ (¬ AllowedWhole most_characters text)) × (EachAnswered text before n after ↔ AllowedWhole most_characters text)
    whole_iff_allowed = replies.whole_iff ran

    -- The number is 0 exactly when the text is allowed as a whole and every report has the number 0: then, and only then, is every condition judged.
    pub zero_iff_judged : (n ≡ 0) ↔ ((a : AllowedWhole most_characters text) × ((k : ℕ) → k < length a.0.conditions → HasNumber 0 (report_in k after)))
    zero_iff_judged = zero_sent ran

    -- ---- demand 1, for the whole: a refusal says what and where
    -- A text that is refused for the whole gets that refusal's number, and its one report has the number, the line and the offset, verdicts 3 and figures 0.
    pub refusal_reported : (m l o : ℕ) → read_whole most_characters text ≡ refused m l o → (n ≡ m) × (report_in 0 after ≡ report m l o no_judgement) × (drop report_length after ≡ drop report_length before)
    refusal_reported = replies.whole_sent ran

    -- The place lies within the text as document 01 has it: for 1 to 6 and 10 one of the text's own lines, or line 0 where it is over 180,000 characters (1) or empty (5). The offset is 0. No line above 60,000 is named, so that it fits its two bytes.
    pub refusal_placed : (refusal : RefusedWhole text before n after) → Placed text n refusal.line 0 × (refusal.line ≤ 60_000)
    refusal_placed refusal = ((whole_placed text).holds n refusal.line 0 refusal.refusal, (booklets.whole_place most_characters text n refusal.line 0 (omega arith) refusal.refusal).0)

    -- The number is 1 exactly when the text is over 180,000 characters or has within them a line that is none; then its one report has line 0, or the first such line.
    pub one_iff_no_line : ((n ≡ 1) ↔ ((l : ℕ) × NoLineAt text l)) × ((l : ℕ) → NoLineAt text l → report_in 0 after ≡ report 1 l 0 no_judgement)
    one_iff_no_line = faults.no_line_sent ran

    -- The text is refused with 2 for the whole, at a line, exactly when it is lines, within 180,000 characters and with at most 24 that begin with A3, in which the ship's frame, a row's or a misplaced one runs past that line; then its one report has the line.
    pub two_iff_overrun : (l : ℕ) → (((refusal : RefusedWhole text before n after) × (n ≡ 2) × (refusal.line ≡ l)) ↔ WholeOverrunAt text l) × (WholeOverrunAt text l → report_in 0 after ≡ report 2 l 0 no_judgement)
    two_iff_overrun = faults.whole_overrun ran

    -- A text of lines within 180,000 characters, at most 24 of which begin with A3, in which a line is the first that begins with another tag than is due there, is refused there for the whole: with 2 where its frame runs past it or it has one or two bytes, else with 4.
    pub misplaced_refused : (ls : List (List ℕ)) → LinesWithin most_characters text ls → (l : ℕ) (bytes : List ℕ) → Misplaced ls l bytes
        → (Overruns bytes → (n ≡ 2) × (report_in 0 after ≡ report 2 l 0 no_judgement)) × ((¬ Overruns bytes) → (n ≡ 4) × (report_in 0 after ≡ report 4 l 0 no_judgement))
    misplaced_refused ls within l bytes m =
        let x = booklets.misplaced most_characters text ls within l bytes m in (
          λ v. let s = refusal_reported 2 l 0 (x.0 v) in (s.0, s.1),
          λ v. let s = refusal_reported 4 l 0 (x.1 v) in (s.0, s.1),
        )

    -- Such a text is refused with 4 for the whole, at a line, exactly when that is such a line and does not run past its end; then its one report has the line.
    pub four_iff_misplaced : (l : ℕ) → (((refusal : RefusedWhole text before n after) × (n ≡ 4) × (refusal.line ≡ l)) ↔ MisplacedAt text l) × (MisplacedAt text l → report_in 0 after ≡ report 4 l 0 no_judgement)
    four_iff_misplaced = faults.whole_misplaced ran

    -- A text is refused with 5 for the whole, at a line, exactly when it is lines within 180,000 characters and that line is the 25th that begins with A3, whatever else the text holds; or when at most 24 do, and no A3 comes behind the ship and rows as they must be, or the text is empty: the line is then the number of lines. Its one report has the line.
    pub five_iff_owed : (l : ℕ) → (((refusal : RefusedWhole text before n after) × (n ≡ 5) × (refusal.line ≡ l)) ↔ OwedAt text l) × (OwedAt text l → report_in 0 after ≡ report 5 l 0 no_judgement)
    five_iff_owed = faults.whole_owed ran

    -- The number is 10 exactly when the text is lines, within 180,000 characters and with at most 24 that begin with A3, in which one is a row with a typing slip: ship and rows before it are as they must be, and so is it, in its place, its limits and its W,
    -- but for one of its inner KN values, which, doubled, differs from the sum of its two neighbours by more than 400. Then its one report has that line.
    pub ten_iff_slip : ((n ≡ 10) ↔ ((l : ℕ) × SlipAt text l)) × ((l : ℕ) → SlipAt text l → report_in 0 after ≡ report 10 l 0 no_judgement)
    ten_iff_slip = faults.slip_sent ran

    -- ---- the conditions of a text that is allowed as a whole
    module _ (a : AllowedWhole most_characters text) where
      -- The number is 0 exactly when every report has the number 0. Otherwise it is that of a report, and every report before that has the number 0.
      pub number_is_first : ((n ≡ 0) ↔ ((k : ℕ) → k < length a.0.conditions → HasNumber 0 (report_in k after)))
          × (1 ≤ n → (k : ℕ) × (k < length a.0.conditions) × HasNumber n (report_in k after) × ((i : ℕ) → i < k → HasNumber 0 (report_in i after)))
      number_is_first = first_sent ran a

      module _ (k : ℕ) (h : k < length a.0.conditions) where
        abbrev line : lines.Reports a.0.ship a.0.rows (line_number a.0 k) (line_at a.0 k) (report_in k after)
        line = replies.line_report ran a k h

        -- ---- demand 1, for a condition
        -- Report k has the number 0, or it is that of a refusal: number, line and offset, verdicts 3 and figures 0. Its place lies within the text as document 01 has it; for 2 to 6 it is a byte of the condition's own line, for 7 and 8 line 0 and offset 0.
        pub refusal_in_its_line : HasNumber 0 (report_in k after) ⊎ RefusedAt text a.0 k (report_in k after)
        refusal_in_its_line = placed_report ran a k h

        -- What the line says is refused for its mass or its KG: the report has 7 or 8, line 0 and offset 0, verdicts 3 and figures 0.
        pub refusal_reported_7_8 : (c : AllowedLine (line_at a.0 k)) (m : ℕ) → weighed (reading_at a.0 c.0) ≡ refused m 0 0 → report_in k after ≡ report m 0 0 no_judgement
        refusal_reported_7_8 c m w = (lines.has_off line c w).1

        -- Report k has the number 2 exactly when in its line, the ship, the rows and this condition alone being read, a block is met that runs past its parent; then the report has that line and the block's offset.
        pub two_in_line : (HasNumber 2 (report_in k after) ↔ ((o : ℕ) × LineOverrunAt a.0 k o)) × ((o : ℕ) → LineOverrunAt a.0 k o → report_in k after ≡ report 2 (line_number a.0 k) o no_judgement)
        two_in_line = faults.line_overrun ran a k h

        -- ---- demand 2: the figures are those of the reading
        -- For a line that is allowed and what it says within the table and the KG, the verdicts and figures reported are those that document 01 gives for the ship, the rows and this condition.
        pub figures_of_reading : (c : AllowedLine (line_at a.0 k)) → weighed (reading_at a.0 c.0) ≡ got tt → report_in k after ≡ report 0 0 0 (judgement (loaded (reading_at a.0 c.0)))
        figures_of_reading c w = (lines.has_judged line c w).1

        -- Each entry is counted once, through to the report's characters: for a condition that is judged, the figure of W is the sum of the masses over the leaves of its one tree,
        -- and the figure of KG ten times the sum of the moments and free surface moments over them, by that sum of masses, rounded up: tenths of a millimetre.
        pub counted_once : HasNumber 0 (report_in k after) → (c : AllowedLine (line_at a.0 k)) → (figure_in 0 (report_in k after) ≡ hex (digits 8 (sum_leaves mass c.0.load)))
            × (figure_in 1 (report_in k after) ≡ hex (digits 8 (ceil (10 * (sum_leaves moment c.0.load + sum_leaves free_surface c.0.load)) (sum_leaves mass c.0.load))))
        counted_once = figures_of_leaves line

        -- A slot of report k reads 4, unused, exactly where the condition is judged in the timber set, its weather a C6, and the slot is 1, 2 or 5. No other slot ever does, and none of a refusal.
        pub unused_reads_four : (i : ℕ) → 1 ≤ i → i ≤ 8
            → (verdict_in i (report_in k after) ≡ hex (4 ∷ [])) ↔ (HasNumber 0 (report_in k after) × ((c : AllowedLine (line_at a.0 k)) × (c.0.weather.set ≡ timber)) × UnusedSlot i)
        unused_reads_four = sets.unused_sent line

        -- Where a condition with a C6 is judged, slot 4's figure is the greatest lever of the whole curve: the lever at the angle that slot 5's figure gives.
        pub lever_at_fifth : HasNumber 0 (report_in k after) → (c : AllowedLine (line_at a.0 k)) → c.0.weather.set ≡ timber
            → (figure_in 6 (report_in k after) ≡ hex (digits 8 (twos (y (loaded (reading_at a.0 c.0)) (pos (angle_of_greatest (loaded (reading_at a.0 c.0))))))))
            × (figure_in 7 (report_in k after) ≡ hex (digits 8 (angle_of_greatest (loaded (reading_at a.0 c.0)))))
        lever_at_fifth = sets.lever_sent line

        -- ---- KG in tenths of a millimetre
        -- What is reported is compared with the judgement of the same condition with KG in millimetres, 01's own before request 5.
        module _ (c : AllowedLine (line_at a.0 k)) where
          fits : Limits (reading_at a.0 c.0)
          fits = reading_limits most_characters text a.0 (replies.read_back a) (omega arith) k h (line_number a.0 k) c.0 (lines.line_got (line_number a.0 k) c)

          -- KG's unit decides no refusal: report k has the number, 0, 7 or 8, that this judgement has.
          pub unit_keeps_number : HasNumber (number_of (judged_in millimetres (reading_at a.0 c.0))) (report_in k after)
          unit_keeps_number = units.number_sent line c fits

          -- Where the condition is judged and its KG came out whole, in tenths ten times a whole number, report k is that of this judgement, character by character, but for the figures of KG, GM, the three areas, the lever and the net, which are ten times as great: all eight verdicts are the same, in either set, and so are W, the angles and the roll.
          pub whole_kg_keeps_verdicts : HasNumber 0 (report_in k after) → (j : ℕ) → corrected_kg (entries_of (reading_at a.0 c.0)) ≡ 10 * j → report_in k after ≡ report 0 0 0 (manifold 10 (judgement (loaded_in millimetres (reading_at a.0 c.0))))
          whole_kg_keeps_verdicts = units.whole_sent line c fits

          -- Whatever its KG: each slot from 1 to 7, 5 included, that reads pass in millimetres reads pass (1) in report k. (8 can be lost: `eighth_can_be_lost`.)
          pub tenths_never_harsher : HasNumber 0 (report_in k after) → (i : ℕ) → 1 ≤ i → i ≤ 7 → slot_of i (judgement (loaded_in millimetres (reading_at a.0 c.0))) ≡ pass → verdict_in i (report_in k after) ≡ hex (1 ∷ [])
          tenths_never_harsher = units.harsher_sent line c fits

          -- Slot 6 reads what it reads in every other unit of KG: KM and its limit are whole millimetres, so that no ship fails GM by the rounding of KG, nor passes by it.
          pub gm_in_any_unit : HasNumber 0 (report_in k after) → (unit : ℕ) → 0 < unit → verdict_in 6 (report_in k after) ≡ hex (verdict_number (slot_of 6 (judgement (loaded_in unit (reading_at a.0 c.0)))) ∷ [])
          gm_in_any_unit = units.sixth_sent line c fits

        -- ---- demand 3: which conditions are judged
        -- Report k has a number from 2 to 6 exactly when its line is not allowed, and none of them exactly when it is.
        pub line_iff_allowed : (RefusedLine (report_in k after) ↔ (¬ AllowedLine (line_at a.0 k))) × ((¬ RefusedLine (report_in k after)) ↔ AllowedLine (line_at a.0 k))
        line_iff_allowed = lines.refused_iff line

        -- It has 7 exactly when the line is allowed and its total mass is below the table's first row or above its last.
        pub seven_iff_outside : HasNumber 7 (report_in k after) ↔ ((c : AllowedLine (line_at a.0 k)) × Outside (reading_at a.0 c.0))
        seven_iff_outside = lines.number_7 line

        -- It has 8 exactly when the line is allowed, its mass inside the table, and the corrected KG above 600,000 tenths of a millimetre.
        pub eight_iff_too_high : HasNumber 8 (report_in k after) ↔ ((c : AllowedLine (line_at a.0 k)) × TooHigh (reading_at a.0 c.0))
        eight_iff_too_high = lines.number_8 line

        -- It has 0, and the condition is judged, exactly when the line is allowed and neither holds.
        pub judged_iff_neither : HasNumber 0 (report_in k after) ↔ ((c : AllowedLine (line_at a.0 k)) × Neither (reading_at a.0 c.0))
        judged_iff_neither = lines.number_0 line

        -- ---- each condition for itself
        -- Report k and the one report of the text with that condition alone are the same but for characters 9 to 12, which name the line; that text's number is report k's; and report k is the answer to that text with the line number of the long one.
        pub each_as_alone : (before' : List ℕ) (n' : ℕ) (after' : List ℕ) → Judges (spell_booklet (alone a.0 (line_at a.0 k))) before' n' after' → report_length ≤ length before'
            → SameButLine (report_in k after) (report_in 0 after') × HasNumber n' (report_in k after) × (report_in k after ≡ report_of (in_line (line_number a.0 k) (answered (spell_booklet (alone a.0 (line_at a.0 k))))))
        each_as_alone before' n' after' run' room =
            let q = (contract _ before' n' after').0 run' in
            apart.sent_alone ran a k h (record { numbered = q.0; left = q.1; enough = omega (arith, apart.room_alone ran a k h) })

        -- A fault in a condition line spoils its own report only: whatever begins with A3 may stand in line k instead, within 180,000 characters, and every other report is as it was.
        pub spoils_its_own : (l : List ℕ) → get_or l 0 0 ≡ condition_tag → Bytes l → length (spell_booklet (respelt a.0 k l)) ≤ most_characters
            → (before' : List ℕ) (n' : ℕ) (after' : List ℕ) → Judges (spell_booklet (respelt a.0 k l)) before' n' after' → report_length * length a.0.conditions ≤ length before'
            → (i : ℕ) → i ≢ k → i < length a.0.conditions → report_in i after ≡ report_in i after'
        spoils_its_own l tag B m before' n' after' run' room =
            let q = (contract _ before' n' after').0 run' in
            apart.sent_others ran a k h l tag B m (record { numbered = q.0; left = q.1; enough = omega (arith, apart.room_other ran a k h l tag B m) })

-- ---- one answer
-- Any two runs over the same text and the same buffer send back the same number and leave the same buffer.
pub one_answer : (text before : List ℕ) (n n' : ℕ) (after after' : List ℕ) → Judges text before n after → Judges text before n' after' → (n ≡ n') × (after ≡ after')
one_answer text before n n' after after' run run' =
    let p = (contract text before n after).0 run in
    let q = (contract text before n' after').0 run' in
    (p.0 ∙ sym q.0, p.1 ∙ sym q.1)

-- A text that is allowed as a whole says one booklet only, and an allowed line one condition.
pub one_booklet : (text : List ℕ) (a a' : AllowedWhole most_characters text) → a.0 ≡ a'.0
one_booklet = booklets.one_booklet most_characters

pub one_condition : (l : List ℕ) (c c' : AllowedLine l) → c.0 ≡ c'.0
one_condition = booklets.one_condition

-- ---- typing slips
-- In a text whose conditions are answered no inner value of a row, none at 5 to 55 degrees, is wrong by more than 400 against the straight line of its neighbours, doubled.
pub typing_slip : {text before : List ℕ} {n : ℕ} {after : List ℕ} (x : EachAnswered text before n after) (k i : ℕ) → k < length x.allowed.0.rows → 1 ≤ i → i ≤ 11 → ¬ Bent (nth_row x.allowed.0.rows k).kn i
typing_slip {text} x = let a = x.allowed in booklets.typing_slip most_characters text a.0 (replies.read_back a)

-- A row that is read and one that differs from it in a single value, at 5 to 55 degrees by more than 400 or at 60 degrees by more than 800, are not both read, in whatever two texts they stand: never are the conditions of both answered.
pub not_both_read : {text before text' before' : List ℕ} {n n' : ℕ} {after after' : List ℕ} (x : EachAnswered text before n after) (x' : EachAnswered text' before' n' after') (k k' i v : ℕ) → k < length x.allowed.0.rows → k' < length x'.allowed.0.rows
    → (nth_row x'.allowed.0.rows k').kn ≡ set (nth_row x.allowed.0.rows k).kn i v → ¬ FarOff i (kn_value (nth_row x.allowed.0.rows k).kn i) v
not_both_read {text} {text' = text'} x x' = let a = x.allowed in let a' = x'.allowed in booklets.not_both_read most_characters most_characters text text' a.0 a'.0 (replies.read_back a) (replies.read_back a')

-- And the one typed wrong is caught. Take a text that is allowed as a whole, one of its rows and one value of it, and let that value be another, within its limits and as far off as that, all else being the same: with room, that text gets 10, and its one report has that row's line.
pub slip_caught : (text : List ℕ) (a : AllowedWhole most_characters text) (k i v : ℕ) → k < length a.0.rows → v ≤ 30_000 → FarOff i (kn_value (nth_row a.0.rows k).kn i) v
    → (before : List ℕ) (n : ℕ) (after : List ℕ) → Judges (spell_booklet (retyped_in a.0 k i v)) before n after → answers.room most_characters (spell_booklet (retyped_in a.0 k i v)) ≤ length before
    → (n ≡ 10) × (report_in 0 after ≡ report 10 (2 + k) 0 no_judgement)
slip_caught text a k i v h d f before n after run room =
    let q = (contract _ before n after).0 run in
    let s = replies.whole_sent (record { numbered = q.0; left = q.1; enough = room }) 10 (2 + k) 0 (booklets.slip_caught most_characters text a.0 (replies.read_back a) k i v h d f) in
    (s.0, s.1)

-- ---- the sums settle the report
-- Two conditions, of one text or of two, each with room, that say one ship, table and weather, and whose entries have the same sum of masses and the same sum of moments with free surface moments, get the same report, character by character:
-- what is judged is that, and nothing else of the entries, of how they are grouped, of the text, of the condition's place in it or of the buffer.
pub reading_settles : (text text' before before' : List ℕ) (n n' : ℕ) (after after' : List ℕ) → Judges text before n after → Judges text' before' n' after'
    → answers.room most_characters text ≤ length before → answers.room most_characters text' ≤ length before'
    → (a : AllowedWhole most_characters text) (a' : AllowedWhole most_characters text') (k k' : ℕ) → k < length a.0.conditions → k' < length a'.0.conditions
    → (c : AllowedLine (line_at a.0 k)) (c' : AllowedLine (line_at a'.0 k')) → SameSums (reading_at a.0 c.0) (reading_at a'.0 c'.0) → report_in k after ≡ report_in k' after'
reading_settles text text' before before' n n' after after' run run' enough enough' a a' k k' h h' c c' same =
    by_sums (line text before n after run enough a k h) (line text' before' n' after' run' enough' a' k' h') c c' same

-- Such texts need have nothing else in common: P1, whose load is one item, and a text whose load is a group of another item and a tank.
pub two_such_texts : (a : AllowedWhole most_characters P1) × (a' : AllowedWhole most_characters regrouped) × (c : AllowedLine (line_at a.0 0)) × (c' : AllowedLine (line_at a'.0 0))
    × SameSums (reading_at a.0 c.0) (reading_at a'.0 c'.0) × (P1 ≢ regrouped)
two_such_texts =
    let x = ones.of_reading P1 as_one reads_as.0 in
    let x' = ones.of_reading regrouped as_group reads_as.1 in
    (x.0, x'.0, x.1, x'.1, rw (x.2, x'.2) same_sums, two_texts)

-- ---- two texts that differ in one tag alone
-- Two texts of lines within 180,000 characters, each with room.
module _ (ls ls' : List (List ℕ)) (L : Lines ls) (short : length (text ls) ≤ most_characters)
    (before before' : List ℕ) (n n' : ℕ) (after after' : List ℕ) (run : Judges (text ls) before n after) (run' : Judges (text ls') before' n' after')
    (enough : answers.room most_characters (text ls) ≤ length before) (enough' : answers.room most_characters (text ls') ≤ length before') where
  -- A block that begins with C3 in the first, well or ill, as a frame or in a condition that fills its line, begins with C5 in the second.
  module _ (retagged : RetaggedLines ls ls') where
    -- Where either is refused for the whole, both have the same number and the same report, and so the same place.
    pub tested_as_tank_whole : RefusedWhole (text ls) before n after ⊎ RefusedWhole (text ls') before' n' after' → (n ≡ n') × (report_in 0 after ≡ report_in 0 after')
    tested_as_tank_whole = tags.whole_alike tanks_alike retagged L short (ran (text ls) before n after run enough) (ran (text ls') before' n' after' run' enough')

    -- Otherwise both have one ship, the same rows and as many conditions. But for one condition, which has that block, every report is the same.
    pub tank_in_one_line : (a : AllowedWhole most_characters (text ls)) → (a' : AllowedWhole most_characters (text ls')) × (k : ℕ) × OtherTagIn 0xC3 0xC5 a.0 k a'.0 k × (length a.0.conditions ≡ length a'.0.conditions)
        × ((i : ℕ) → i ≢ k → i < length a.0.conditions → report_in i after ≡ report_in i after')
    tank_in_one_line = tags.one_line tanks_alike retagged L short (ran (text ls) before n after run enough) (ran (text ls') before' n' after' run' enough')

  -- A block that begins with C1 in the first, well or ill, as a frame or in a condition that fills its line, begins with C6 in the second.
  module _ (other : TimberLines ls ls') where
    -- Where either is refused for the whole, both have the same number and the same report, and so the same place.
    pub tested_as_weather_whole : RefusedWhole (text ls) before n after ⊎ RefusedWhole (text ls') before' n' after' → (n ≡ n') × (report_in 0 after ≡ report_in 0 after')
    tested_as_weather_whole = tags.whole_alike weathers_alike other L short (ran (text ls) before n after run enough) (ran (text ls') before' n' after' run' enough')

    -- Otherwise both have one ship, the same rows and as many conditions. But for one condition, which has that block, every report is the same.
    pub weather_in_one_line : (a : AllowedWhole most_characters (text ls)) → (a' : AllowedWhole most_characters (text ls')) × (k : ℕ) × OtherTagIn 0xC1 0xC6 a.0 k a'.0 k × (length a.0.conditions ≡ length a'.0.conditions)
        × ((i : ℕ) → i ≢ k → i < length a.0.conditions → report_in i after ≡ report_in i after')
    weather_in_one_line = tags.one_line weathers_alike other L short (ran (text ls) before n after run enough) (ran (text ls') before' n' after' run' enough')

-- ---- two condition lines that differ in one tag alone
-- Of two texts that are allowed as a whole, each with room, with one ship and the same rows: condition k of the first and k' of the second, wherever they stand and whatever the others hold.
module _ (text text' before before' : List ℕ) (n n' : ℕ) (after after' : List ℕ) (run : Judges text before n after) (run' : Judges text' before' n' after')
    (enough : answers.room most_characters text ≤ length before) (enough' : answers.room most_characters text' ≤ length before')
    (a : AllowedWhole most_characters text) (a' : AllowedWhole most_characters text') (k k' : ℕ) where
  abbrev here : replies.Run text before n after
  here = ran text before n after run enough

  abbrev there : replies.Run text' before' n' after'
  there = ran text' before' n' after' run' enough'

  -- ---- cargo tanks
  -- The two lines differ in one tag alone: a block that begins with C3 in the first, well or ill, begins with C5 in the second.
  module _ (differ : OtherTagIn 0xC3 0xC5 a.0 k a'.0 k') where
    -- A C5 is tested as a C3: where either has a number from 2 to 6, both reports are the same but for the line that they name, and so have the same number and offset.
    pub tested_as_tank : RefusedLine (report_in k after) ⊎ RefusedLine (report_in k' after') → SameButLine (report_in k after) (report_in k' after')
    tested_as_tank = tags.tank_refused here there a a' k k' differ

    -- Otherwise that block is a tank t of the first line, and the second says the same with t made a cargo tank.
    -- Filled below 98 %, the two get the same report. From 98 % on the C5 is not forgiven: where the second is judged, its figure of W is of the first one's masses, and its figure of KG of the first one's moments and free surface moments with the full moment of t besides.
    pub cargo_never_forgiven : (c : AllowedLine (line_at a.0 k)) → (t : Tank) × (c' : AllowedLine (line_at a'.0 k')) × (c.0.weather ≡ c'.0.weather) × MadeCargo t c.0.load c'.0.load
        × (t.fill < 980 → report_in k after ≡ report_in k' after')
        × (980 ≤ t.fill → HasNumber 0 (report_in k' after') → (figure_in 0 (report_in k' after') ≡ hex (digits 8 (sum_leaves mass c.0.load)))
        × (figure_in 1 (report_in k' after') ≡ hex (digits 8 (ceil (10 * (sum_leaves moment c.0.load + sum_leaves free_surface c.0.load + 1000 * t.density * t.inertia)) (sum_leaves mass c.0.load)))))
    cargo_never_forgiven = tags.tank_read here there a a' k k' differ

  -- ---- timber on deck
  -- The two lines differ in one tag alone: a block that begins with C1 in the first, well or ill, begins with C6 in the second.
  module _ (differ : OtherTagIn 0xC1 0xC6 a.0 k a'.0 k') where
    -- A C6 is tested as a C1: both reports have the same number, and where it is not 0 they are the same but for the line that they name, and so have the same offset.
    pub tested_as_weather : (number_in (report_in k after) ≡ number_in (report_in k' after')) × ((¬ HasNumber 0 (report_in k after)) → SameButLine (report_in k after) (report_in k' after'))
    tested_as_weather = tags.weather_number here there a a' k k' differ

    -- Where the first line is allowed, it is in the Code's set, and the second says the same in timber's.
    pub said_in_timber : (c : AllowedLine (line_at a.0 k)) → (c.0.weather.set ≡ code) × ((c' : AllowedLine (line_at a'.0 k')) × (c'.0 ≡ condition_by timber c.0))
    said_in_timber = tags.weather_read_lem here there a a' k k' differ

    -- Where they are judged, the first by the Code's set and the second by timber's, the eleven figures are the same but for slot 4's (the seventh), and so is verdict 8.
    pub figures_of_either_set : HasNumber 0 (report_in k after) → ((i : ℕ) → i < 11 → i ≢ 6 → figure_in i (report_in k after) ≡ figure_in i (report_in k' after')) × (verdict_in 8 (report_in k after) ≡ verdict_in 8 (report_in k' after'))
    figures_of_either_set = tags.weather_figures here there a a' k k' differ

    -- And of slots 3, 6 and 7 each that reads pass (1) by the Code reads pass as timber.
    pub code_passes_as_timber : HasNumber 0 (report_in k after) → (i : ℕ) → EasedSlot i → verdict_in i (report_in k after) ≡ hex (1 ∷ []) → verdict_in i (report_in k' after') ≡ hex (1 ∷ [])
    code_passes_as_timber = tags.weather_eased here there a a' k k' differ

-- ---- the first fault met ends the reading
-- Two texts of lines within 180,000 characters, each with room and with at most 24 condition lines, that have the same lines before the one that the first one's refusal for the whole names, and that line of one length and the same as far as the refusal looks, get the same number and the same report. (Not 5: with no A3 it names the text's end.)
pub first_fault : (text text' before before' : List ℕ) (n n' : ℕ) (after after' : List ℕ) → Judges text before n after → Judges text' before' n' after'
    → answers.room most_characters text ≤ length before → answers.room most_characters text' ≤ length before'
    → (front later later' : List (List ℕ)) (l l' : List ℕ) → LinesWithin most_characters text (front ++ (l ∷ later)) → LinesWithin most_characters text' (front ++ (l' ∷ later'))
    → (x : RefusedWhole text before n after) → x.line ≡ 1 + length front → n ≢ 5 → SameBefore (looked_at l n 0) l l' → (n ≡ n') × (report_in 0 after ≡ report_in 0 after')
first_fault text text' before before' n n' after after' run run' enough enough' front later later' l l' C C' x e five A =
    let q = booklets.first_fault most_characters text text' front later later' l l' n C C' A five (x.refusal ∙ ap (λ m. refused n m 0) e) in
    let s = refusal_reported text' before' n' after' run' enough' n (1 + length front) 0 q in
    (sym s.0, x.reported ∙ ap (λ m. report n m 0 no_judgement) e ∙ sym s.1)

-- Nor does a condition's refusal up to 6 depend on anything behind the block that it names: of two condition lines, of one text or of two, each with room, that have one length and are the same as far as the first one's refusal looks, both reports are the same but for the line that they name.
pub first_fault_in_line : (text text' before before' : List ℕ) (n n' : ℕ) (after after' : List ℕ) → Judges text before n after → Judges text' before' n' after'
    → answers.room most_characters text ≤ length before → answers.room most_characters text' ≤ length before'
    → (a : AllowedWhole most_characters text) (a' : AllowedWhole most_characters text') (k k' : ℕ) → k < length a.0.conditions → k' < length a'.0.conditions
    → (m o : ℕ) → condition_at (line_number a.0 k) (line_at a.0 k) ≡ refused m (line_number a.0 k) o → SameBefore (looked_at (line_at a.0 k) m o) (line_at a.0 k) (line_at a'.0 k') → SameButLine (report_in k after) (report_in k' after')
first_fault_in_line text text' before before' n n' after after' run run' enough enough' a a' k k' h h' m o e same =
    fault_alike (line text before n after run enough a k h) (line text' before' n' after' run' enough' a' k' h') m o e same (omega arith)

-- ---- texts of one condition, or of none
-- A text of which no line but the last begins with A3, such as every text of one condition that is read, is answered by the reading of a text of one condition, read or refused, and 209 bytes are room for it: the number and the one report are of that answer, and every byte beyond is as it was.
pub of_one_condition : (text before : List ℕ) (n : ℕ) (after : List ℕ) → Judges text before n after → report_length ≤ length before → LastAlone text
    → (n ≡ number_of (answered text)) × (report_in 0 after ≡ report_of (answered text)) × (drop report_length after ≡ drop report_length before)
of_one_condition text before n after run room last = let q = (contract text before n after).0 run in ones.sent_last last (record { numbered = q.0; left = q.1; enough = omega (arith, room_last text last) })

-- With room for 209 bytes a text gets this number, and this report at the front of the buffer.
abbrev pub Sends : List ℕ → ℕ → List ℕ → Type 0
Sends text m r = (before : List ℕ) (n : ℕ) (after : List ℕ) → Judges text before n after → report_length ≤ length before → (n ≡ m) × (report_in 0 after ≡ r)

sends : (text : List ℕ) {m : ℕ} {r : List ℕ} → ones.is_one (read_whole most_characters text) ≡ true → number_of (answered text) ≡ m → report_of (answered text) ≡ r → Sends text m r
sends text one e f before n after run room = let q = (contract text before n after).0 run in sheet.one_sent text one e f before q.0 q.1 room

sends_refusal : (text : List ℕ) {m l : ℕ} {r : List ℕ} → (read_whole most_characters text ≡ refused m l 0) × (answers.room most_characters text ≡ report_length) → answered text ≡ refused m l 0 → report_of (answered text) ≡ r → Sends text m r
sends_refusal text w e f before n after run room = let q = (contract text before n after).0 run in sheet.refusal_sent text w e f before q.0 q.1 room

-- The texts of the bench sheet, P1 and P10 to P13: each gets its number and its whole report. (P2 to P9 are numbers on the way to P1's; the rules have them.)
pub bench_sheet : Sends P1 0 P1-output × Sends P10 2 (refusal "D100650200040012") × Sends P11 3 (refusal "D100650300040012") × Sends [] 5 (refusal "D100650500000000") × Sends P13 7 (refusal "D100650700000000")
bench_sheet =
    let b = bench_holds in
    let r = b.1.1.1.1.1.1.1.1.1 in (
      sends P1 (sheet.sheet_one).0 (sheet.judged_0).0 b.0,
      sends P10 (sheet.sheet_one).1 (ap number_of r.0.0) r.0.1,
      sends P11 (sheet.sheet_one).2 (ap number_of r.1.0.0) r.1.0.1,
      sends_refusal [] sheet.empty_whole r.1.1.0.0 r.1.1.0.1,
      sends P13 (sheet.sheet_one).3 (ap number_of r.1.1.1.0.0) r.1.1.1.0.1,
    )

-- P1's ship and rows with three conditions: P1's, P13's, a kilogram less than the first row, and P10's, with a C2 that runs past its parent. The number is 7, the first that is not 0; the buffer begins with P1's report, that of 7, and that of 2 in line 6 at offset 18; every byte beyond is as it was.
pub three_conditions : (before : List ℕ) (n : ℕ) (after : List ℕ) → Judges three before n after → 3 * report_length ≤ length before
    → (n ≡ 7) × (after ≡ concat (P1-output ∷ refusal "D100650700000000" ∷ refusal "D100650200060012" ∷ []) ++ drop (3 * report_length) before)
three_conditions before n after run room = let q = (contract three before n after).0 run in sheet.three_sent before q.0 q.1 room

-- The planner's tank, filled to 98.5 %, in two texts that differ in the tag alone. As a C3 it is forgiven: KG is 4,000 mm (9C40 tenths) and all eight criteria pass. As a C5 it is not: KG is 4,200 mm (A410), and criteria 1 and 3 fail.
pub planners_tank : Sends (tanker "C3") 0 P1-output × Sends (tanker "C5") 0 cargo_output
planners_tank = (sends (tanker "C3") (sheet.tankers_one).0 (sheet.judged_0).1 planner_holds.0, sends (tanker "C5") (sheet.tankers_one).1 (sheet.judged_0).2 planner_holds.1.0)

-- Neither set asks less than the other. A ship with a greatest lever of 0.2495 m passes all eight by the Code, and as timber fails slot 4. One that floods from 29.9° on, with the deck edge in the water at 0.1°, fails 2, 3, 4 and 7 by the Code and passes all that are used as timber. In each pair of texts the tag alone differs.
pub neither_set_covers : Sends (tender "C1") 0 tender_output × Sends (tender "C6") 0 tender_timber_output × Sends (coaster "C1") 0 coaster_output × Sends (coaster "C6") 0 coaster_timber_output
neither_set_covers = (
  sends (tender "C1") (sheet.timbers_one).0 (sheet.judged_0).3 timbers_hold.1.0,
  sends (tender "C6") (sheet.timbers_one).1 (sheet.judged_0).4 timbers_hold.1.1.0,
  sends (coaster "C1") (sheet.timbers_one).2 (sheet.judged_0).5 timbers_hold.1.1.1.0,
  sends (coaster "C6") (sheet.timbers_one).3 (sheet.judged_0).6 timbers_hold.1.1.1.1.0,
)

-- A digit missing in P1's second row, 230 for 2,300 at 30 degrees: 10 in line 3. With 2,462 there and with 2,062, which differ by 400, the text is judged, and so it is with 3,790 and 2,990 at 60 degrees, which differ by 800: `not_both_read` has the least bounds that hold.
pub digit_missing_lem : Sends digit_missing 10 (refusal "D100650A00030000") × Sends above400 0 P1-output × Sends below400 0 P1-output × Sends above800 0 P1-output × Sends below800 0 P1-output
digit_missing_lem =
    let h = mistyped_hold.1 in
    let one = sheet.mistyped_one in (
      sends_refusal digit_missing sheet.mistyped_whole mistyped_hold.0.0 mistyped_hold.0.1,
      sends above400 one.0 (sheet.judged_0).7 h.0,
      sends below400 one.1 (sheet.judged_0).8 h.1.0,
      sends above800 one.2 (sheet.judged_0).9 h.1.1.0,
      sends below800 one.3 (sheet.judged_0).10 h.1.1.1.0,
    )

-- A ferry that failed criterion 4 in millimetres by the rounding of KG alone passes all eight: her KG is 4,759.5 mm, and 4,760 was too much ..
pub ferry_passes : Sends ferry 0 (report 0 0 0 (record {
  verdicts = replicate 8 pass;
  figures = pos 900_000 ∷ pos 47_595 ∷ pos 5_505 ∷ pos 3_743_209_675_000 ∷ pos 1_982_457_437_500 ∷ pos 5_725_667_112_500 ∷ pos 10_002_299_500 ∷ pos 350 ∷ pos 58 ∷ pos 191 ∷ pos 957_012_726_940 ∷ [];
}))
ferry_passes = let j = sheet.judged_report ferry (ships.ferry_passes).1 in sends ferry (sheet.ships_one).0 j.0 j.1

-- .. and a ship that passed all eight in millimetres, with a net of +3,589,509,992 in their units, loses criterion 8. (What both read in millimetres: the theorems of these names in the promises of `earned`.)
pub eighth_can_be_lost : Sends stiffer 0 (report 0 0 0 (record {
  verdicts = pass ∷ pass ∷ pass ∷ pass ∷ pass ∷ pass ∷ pass ∷ fail ∷ [];
  figures = pos 4_740_521 ∷ pos 46_731 ∷ pos 6_909 ∷ pos 4_983_514_315_000 ∷ pos 3_327_086_637_500 ∷ pos 8_310_600_952_500 ∷ pos 18_230_212_950 ∷ pos 450 ∷ pos 97 ∷ pos 208 ∷ neg_ℤ (pos 9_353_477_464) ∷ [];
}))
eighth_can_be_lost = let j = sheet.judged_report stiffer (ships.eighth_can_be_lost).1 in sends stiffer (sheet.ships_one).1 j.0 j.1

-- ---- how much room
-- One run of `room` as its contract admits it: lent `text`, it sends back `r`.
abbrev pub Asks : List ℕ → ℕ → Type 0
Asks text r = (κs : _) × (a : _) × (s : _) × asks.Post κs a r s × (a.0.now ≡ text)

told : (text : List ℕ) (r : ℕ) → Asks text r → r ≡ answers.room most_characters text
told text r run = rw (← run.4) run.3

-- What `room` tells is what `judge` asks for: `judge` gives 9 exactly when its buffer is shorter.
pub room_tells : (text : List ℕ) (r : ℕ) → Asks text r → (before : List ℕ) (n : ℕ) (after : List ℕ) → Judges text before n after → (n ≡ 9) ↔ (length before < r)
room_tells text r run before n after run' = rw (told text r run) (nine_iff_no_room text before n after run')

-- It is at least 209 and at most 24 times that. Of a text of lines within 180,000 characters, at most 24 of which begin with A3, it is 209 for each of these wherever they stand, and 209 where there is none; of every other text 209. So it is 209 for each condition of a text that is allowed as a whole.
pub room_is : (text : List ℕ) (r : ℕ) → Asks text r → (report_length ≤ r) × (r ≤ 24 * report_length)
    × ((ls : List (List ℕ)) → LinesWithin most_characters text ls → r ≡ max report_length (report_length * condition_lines ls)) × (((ls : List (List ℕ)) → ¬ LinesWithin most_characters text ls) → r ≡ report_length)
    × ((a : AllowedWhole most_characters text) → r ≡ report_length * length a.0.conditions)
room_is text r run =
    let b = rooms.room_bounds most_characters text in
    let e = told text r run in
    let x = rooms.room_lines most_characters text in
    (omega arith, omega arith, λ ls C. e ∙ x.0 ls C, λ none. e ∙ x.1 none, λ a. e ∙ rooms.room_read most_characters text a.0 (replies.read_back a))

-- ---- a limit of one's own
-- One run of `judge_within` as its contract admits it: lent `text` and the buffer `before`, with this limit, it sends back the number `n` and the length `bytes`, and leaves the buffer `after`.
abbrev pub JudgesWithin : List ℕ → ℕ → List ℕ → ℕ → ℕ → List ℕ → Type 0
JudgesWithin text limit before n bytes after = (κs : _) × (a : _) × (r : _) × (s : _) × within.Post κs a r s
    × (a.0.now ≡ text) × (a.1.0 ≡ limit) × (a.1.1.0.now ≡ before) × (r.number ≡ n) × (r.length ≡ bytes) × (s.1.1.0.now ≡ after)

-- That is the three equations of the contract, no more and no less: that the bytes lie in the buffer follows from them.
pub within_contract : (text : List ℕ) (limit : ℕ) (before : List ℕ) (n bytes : ℕ) (after : List ℕ)
    → JudgesWithin text limit before n bytes after ↔ ((n ≡ number (limited limit) text before) × (bytes ≡ bytes_sent (limited limit) text before) × (after ≡ written (limited limit) text before))
within_contract text limit before n bytes after = (
  λ run. let p = run.4 in rw (← run.5, ← run.6, ← run.7, ← run.8, ← run.9, ← run.10) (p.0, p.1.0, p.1.1.0),
  λ x. (([], ([], tt)), (lent text, (limit, (lent_out before, tt))), record { number = n; length = bytes }, (lent text, (limit, (lent_out after, tt))), (x.0, (x.1, (x.2, reply_within limit text before after (x.0, (x.1, x.2))))), refl, refl, refl, refl, refl, refl),
)

module _ (text : List ℕ) (limit : ℕ) (before : List ℕ) (n bytes : ℕ) (after : List ℕ) (run : JudgesWithin text limit before n bytes after) where
  within_settled : (n ≡ number (limited limit) text before) × (bytes ≡ bytes_sent (limited limit) text before) × (after ≡ written (limited limit) text before)
  within_settled = (within_contract text limit before n bytes after).0 run

  -- With a limit of 180,000 or more it is `judge`; and so for every text that is no longer than its limit.
  pub within_as_judge : (most_characters ≤ limit → Judges text before n after) × (length text ≤ limit → Judges text before n after)
  within_as_judge =
      let q = within_settled in (
        λ h. let e : limited limit ≡ most_characters = omega arith in (contract text before n after).1 (rw e at q.0, rw e at q.2),
        λ h. let w = limits.within_same text before limit h in (contract text before n after).1 (q.0 ∙ w.0, q.2 ∙ w.2),
      )

  -- A text longer than the limit, whatever it holds, is refused with 1 at line 0 and offset 0, where there is room for 209 bytes; with less the number is 9 and every byte of the buffer is as it was.
  pub within_too_long : limit < length text
      → (report_length ≤ length before → (n ≡ 1) × (bytes ≡ report_length) × (report_in 0 after ≡ report 1 0 0 no_judgement) × (drop report_length after ≡ drop report_length before))
      × (length before < report_length → (n ≡ 9) × (bytes ≡ 0) × (after ≡ before))
  within_too_long h =
      let q = within_settled in (
        λ g. let w = limits.too_long text before limit h g in (q.0 ∙ w.0, q.1 ∙ w.1, ap (report_in 0) q.2 ∙ w.2, ap (drop report_length) q.2 ∙ w.3),
        λ g. let w = under_one (limited limit) text before g in (q.0 ∙ w.numbered, q.1 ∙ w.long, q.2 ∙ w.holds),
      )

  -- The length that is sent back is that of the reports: 0 with 9, 209 where a text no longer than the limit is refused for the whole, and 209 for each of its conditions where it is not.
  pub within_length : length text ≤ limit → (n ≡ 9 → bytes ≡ 0) × (RefusedWhole text before n after → bytes ≡ report_length) × ((x : EachAnswered text before n after) → bytes ≡ report_length * length x.allowed.0.conditions)
  within_length h =
      let q = within_settled in
      let w = limits.within_same text before limit h in
      let b = limits.bytes_told text before n after (q.0 ∙ w.0) (q.2 ∙ w.2) in
      let e = q.1 ∙ w.1 in
      (λ z. e ∙ b.0 z, λ x. e ∙ b.1 x, λ x. e ∙ b.2 x)
