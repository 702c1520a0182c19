-- The worked texts of one condition through a run: what their reading, their number and their report come to, by computation.
use mathlib.Core.Path.{◌≡◌, refl, ap, sym, ◌∙◌}
use mathlib.Core.Bool.{true}
use mathlib.Core.List.{List, [], ◌∷◌}
use Prim.Native.Nat.{ℕ, ◌*◌, ◌≤◌}
use native.Mathlib.Omega.{arith}
use lib.ListN.{length}
use Rattle.rules.specs.Layout.{most_characters}
use Rattle.rules.specs.Outcome.{refused, got}
use Rattle.rules.specs.Report.{Judgement, report, report_length}
use Rattle.rules.specs.Booklet.{read_whole}
use Rattle.rules.specs.Answer.{answered, answered_in, number_of, report_of, taken, first_number, number_for, sent, over, number, written, room}
use Rattle.rules.proofs.answer.Steps.{report_refused, report_judged}
use Rattle.rules.proofs.booklet.Sent.{number_taken, written_taken}
use Rattle.rules.proofs.booklet.Room.{with_room}
use Rattle.rules.proofs.bench.Cases.{lines, refusal}
use Rattle.rules.proofs.bench.Bench.{ship, row1, row2, with, P1-condition, P1, P1-output}
use Rattle.rules.proofs.bench.CargoTank.{tanker}
use Rattle.rules.proofs.bench.TimberDeck.{tender, coaster}
use Rattle.rules.proofs.bench.MistypedRow.{digit_missing, above400, below400, above800, below800}
use Rattle.earned.specs.Tenths.{ferry, stiffer}
use Rattle.instrument.specs.Reported.{report_in}
use Rattle.instrument.proofs.Replies.{whole_sent}
use Rattle.instrument.proofs.OfOne.{is_one, one_read, room_one, sent_one}

pub one_sent : (t : List ℕ) {m : ℕ} {r : List ℕ} → is_one (read_whole most_characters t) ≡ true → number_of (answered t) ≡ m → report_of (answered t) ≡ r
    → (before : List ℕ) {n : ℕ} {after : List ℕ} → n ≡ number most_characters t before → after ≡ written most_characters t before → report_length ≤ length before → (n ≡ m) × (report_in 0 after ≡ r)
one_sent t one e f before N W h =
    let a = one_read t one in
    let s = sent_one a.0 a.1 (record { numbered = N; left = W; enough = omega (arith, room_one a.0 a.1) }) in
    (s.0 ∙ e, s.1 ∙ f)

-- P10, P11 and P13: a length of 7 for a C2, a length of 5, and a kilogram less than the table's first row.
abbrev pub P10 : List ℕ
P10 = with "A30018C1000C000009C40FA002BC01F400C8C2000700155CC00FA0"

abbrev pub P11 : List ℕ
P11 = with "A30018C1000C000009C40FA002BC01F400C8C2000500155CC00FA0"

abbrev pub P13 : List ℕ
P13 = with "A30018C1000C000009C40FA002BC01F400C8C2000600155CBF0FA0"

-- Each is a booklet of one.
pub sheet_one : (is_one (read_whole most_characters P1) ≡ true) × (is_one (read_whole most_characters P10) ≡ true) × (is_one (read_whole most_characters P11) ≡ true) × (is_one (read_whole most_characters P13) ≡ true)
unfolding taken read_whole
sheet_one = (refl, refl, refl, refl)

pub tankers_one : (is_one (read_whole most_characters (tanker "C3")) ≡ true) × (is_one (read_whole most_characters (tanker "C5")) ≡ true)
unfolding taken read_whole
tankers_one = (refl, refl)

pub timbers_one : (is_one (read_whole most_characters (tender "C1")) ≡ true) × (is_one (read_whole most_characters (tender "C6")) ≡ true) × (is_one (read_whole most_characters (coaster "C1")) ≡ true) × (is_one (read_whole most_characters (coaster "C6")) ≡ true)
unfolding taken read_whole
timbers_one = (refl, refl, refl, refl)

pub mistyped_one : (is_one (read_whole most_characters above400) ≡ true) × (is_one (read_whole most_characters below400) ≡ true) × (is_one (read_whole most_characters above800) ≡ true) × (is_one (read_whole most_characters below800) ≡ true)
unfolding taken read_whole
mistyped_one = (refl, refl, refl, refl)

pub ships_one : (is_one (read_whole most_characters ferry) ≡ true) × (is_one (read_whole most_characters stiffer) ≡ true)
unfolding taken read_whole
ships_one = (refl, refl)

-- What is judged is reported.
pub judged_report : (t : List ℕ) {j : Judgement} → answered t ≡ got j → (number_of (answered t) ≡ 0) × (report_of (answered t) ≡ report 0 0 0 j)
unfolding report
judged_report t {j} e = (ap number_of e, ap report_of e ∙ report_judged j)

-- The first is judged, and so are these.
pub judged_0 : (number_of (answered P1) ≡ 0) × (number_of (answered (tanker "C3")) ≡ 0) × (number_of (answered (tanker "C5")) ≡ 0)
    × (number_of (answered (tender "C1")) ≡ 0) × (number_of (answered (tender "C6")) ≡ 0) × (number_of (answered (coaster "C1")) ≡ 0) × (number_of (answered (coaster "C6")) ≡ 0)
    × (number_of (answered above400) ≡ 0) × (number_of (answered below400) ≡ 0) × (number_of (answered above800) ≡ 0) × (number_of (answered below800) ≡ 0)
unfolding answered_in
judged_0 = (refl, refl, refl, refl, refl, refl, refl, refl, refl, refl, refl)

-- P12, the empty text, is refused for the whole, and so is a table with a digit missing.
pub empty_whole : (read_whole most_characters [] ≡ refused 5 0 0) × (room most_characters [] ≡ report_length)
unfolding taken read_whole room
empty_whole = (refl, refl)

pub mistyped_whole : (read_whole most_characters digit_missing ≡ refused 10 3 0) × (room most_characters digit_missing ≡ report_length)
unfolding taken read_whole room
mistyped_whole = (refl, refl)

pub refusal_sent : (t : List ℕ) {m l : ℕ} {r : List ℕ} → (read_whole most_characters t ≡ refused m l 0) × (room most_characters t ≡ report_length) → answered t ≡ refused m l 0 → report_of (answered t) ≡ r
    → (before : List ℕ) {n : ℕ} {after : List ℕ} → n ≡ number most_characters t before → after ≡ written most_characters t before → report_length ≤ length before → (n ≡ m) × (report_in 0 after ≡ r)
unfolding report
refusal_sent t {m} {l} w e f before N W h =
    let s = whole_sent (record { numbered = N; left = W; enough = omega (arith, w.1) }) m l 0 w.0 in
    (s.0, s.1 ∙ sym (ap report_of e ∙ report_refused m l 0) ∙ f)

-- ---- a booklet of three
-- P1's ship and rows, its condition, that of P13 and that of P10.
abbrev pub three : List ℕ
three = lines (ship ∷ row1 ∷ row2 ∷ P1-condition ∷ "A30018C1000C000009C40FA002BC01F400C8C2000600155CBF0FA0" ∷ "A30018C1000C000009C40FA002BC01F400C8C2000700155CC00FA0" ∷ [])

abbrev pub three_reports : List (List ℕ)
three_reports = P1-output ∷ refusal "D100650700000000" ∷ refusal "D100650200060012" ∷ []

three_read : (number_for (read_whole most_characters three) ≡ 7) × (sent (read_whole most_characters three) ≡ three_reports) × (room most_characters three ≡ 3 * report_length)
unfolding taken read_whole first_number sent room
three_read = (refl, refl, refl)

pub three_sent : (before : List ℕ) {n : ℕ} {after : List ℕ} → n ≡ number most_characters three before → after ≡ written most_characters three before → 3 * report_length ≤ length before → (n ≡ 7) × (after ≡ over three_reports before)
three_sent before N W h =
    let e = with_room most_characters three before (omega (arith, three_read.2)) in
    (N ∙ number_taken most_characters three before ∙ ap number_for e ∙ three_read.0, W ∙ written_taken most_characters three before ∙ ap (λ a. over (sent a) before) e ∙ ap (λ rs. over rs before) three_read.1)
