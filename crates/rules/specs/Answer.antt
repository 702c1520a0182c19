-- The answer: a text and the report buffer give the number and every byte of the buffer.
use Rattle.std.specs.Prelude.{true, false, List, [], ◌∷◌, ◌++◌, map, ℕ, ◌+◌, ◌*◌, max, min, leb, eqb, length, drop, get_or}
use Rattle.rules.specs.Numbers as numbers
use Rattle.rules.specs.Text as characters
use Rattle.rules.specs.Blocks as blocks
use Rattle.rules.specs.Report as lines
use Rattle.rules.specs.Blocks.{Ship, Row}
use Rattle.rules.specs.Layout.{Reading, most_characters, condition_lines, Booklet}
use Rattle.rules.specs.Outcome.{Ans, refused, got, test, ◌>>=◌, ◌>>◌}
use Rattle.rules.specs.Walk.{read}
use Rattle.rules.specs.Booklet.{counted, counted_lines, row_at, only_conditions, behind_ship, book_frames, condition_at}
use Rattle.rules.specs.Loading.{tenths, weighed_in}
use Rattle.rules.specs.Curve.{loaded_in}
use Rattle.rules.specs.Report.{Judgement, judgement, no_judgement, concat, report, report_length}

-- A reading is judged, or refused with 7 or 8: on the reading, never on the text.
unfoldable pub judged_in : ℕ → Reading → Ans Judgement
unfolding weighed_in loaded_in judgement ◌>>=◌ ◌>>◌
judged_in unit r = do
  weighed_in unit r
  got (judgement (loaded_in unit r))

abbrev pub judged : Reading → Ans Judgement
judged = judged_in tenths

-- ---- a text of one condition
-- The refusals in 01's order: 1 to 6 and 10, then 7, then 8.
unfoldable pub answered_in : ℕ → List ℕ → Ans Judgement
unfolding read judged_in ◌>>=◌
answered_in unit t = do
  r ← read t
  judged_in unit r

abbrev pub answered : List ℕ → Ans Judgement
answered = answered_in tenths

abbrev pub number_of : Ans Judgement → ℕ
number_of (refused n l o) = n
number_of (got j) = 0

-- (To unfold `report_of` is to unfold all of the report.)
unfoldable pub report_of : Ans Judgement → List ℕ
unfolding numbers.digits characters.digit characters.hex blocks.block lines.concat lines.report_body lines.report_line report
report_of (refused n l o) = report n l o no_judgement
report_of (got j) = report 0 0 0 j

-- ---- a booklet
-- A condition line with the number ln, read and judged with this ship and these rows.
unfoldable pub answer_of_line : Ship → List Row → ℕ → List ℕ → Ans Judgement
unfolding read judged_in condition_at ◌>>=◌
answer_of_line s vs ln l = do
  c ← condition_at ln l
  judged (record { ship = s; rows = vs; condition = c })

-- 'One report line per condition, in order': the first stands in line ln.
unfoldable pub answers_from : Ship → List Row → ℕ → List (List ℕ) → List (Ans Judgement)
unfolding answer_of_line
answers_from s vs ln [] = []
answers_from s vs ln (l ∷ ls) = answer_of_line s vs ln l ∷ answers_from s vs (ln + 1) ls

abbrev pub answers : Booklet → List (Ans Judgement)
answers b = answers_from b.ship b.rows (2 + length b.rows) b.conditions

-- The answer to condition line k, from 0, where there is one.
abbrev pub answer : Booklet → ℕ → Ans Judgement
answer b k = get_or (answers b) k (refused 0 0 0)

-- 'But with the line number of the long text': a refusal with a place has it in line ln; what has line 0 (0, 7 and 8) keeps it.
abbrev pub in_line : {A : Type 0} → ℕ → Ans A → Ans A
in_line ln (refused n l o) = refused n (elim (eqb l 0) [ true ↦ 0 | false ↦ ln ]) o
in_line ln (got a) = got a

-- 'Refusals: 9 first for under 209 bytes; after 1, a 25th condition line gives 5 there for the whole text; then 9 again for under 209 bytes per condition line; then the blocks.' n is the length of the buffer.
unfoldable pub taken : ℕ → ℕ → List ℕ → Ans Booklet
unfolding read counted_lines counted condition_lines row_at only_conditions behind_ship book_frames test ◌>>=◌ ◌>>◌
taken most n t = do
  test (leb report_length n) 9 0 0
  ls ← counted_lines most t
  test (leb (report_length * condition_lines ls) n) 9 0 0
  book_frames ls

-- ---- what is sent back
-- The first number that is not 0, in order.
unfoldable pub first_number : List (Ans Judgement) → ℕ
first_number [] = 0
first_number (a ∷ more) = elim (eqb (number_of a) 0) [ true ↦ first_number more | false ↦ number_of a ]

abbrev pub number_for : Ans Booklet → ℕ
number_for (refused n l o) = n
number_for (got b) = first_number (answers b)

-- The report lines: none with 9, a single one for the whole, or one for each condition.
unfoldable pub sent : Ans Booklet → List (List ℕ)
unfolding report_of answers_from
sent (refused n l o) = elim (eqb n 9) [ true ↦ [] | false ↦ report_of (refused n l o) ∷ [] ]
sent (got b) = map report_of (answers b)

-- 'Bytes beyond those written keep their values.'
abbrev pub over : List (List ℕ) → List ℕ → List ℕ
over reports buffer = concat reports ++ drop (report_length * length reports) buffer

-- The number, how many bytes are written, and the buffer at the end, for a text of at most `most` characters.
unfoldable pub number : ℕ → List ℕ → List ℕ → ℕ
unfolding taken first_number
number most t buffer = number_for (taken most (length buffer) t)

unfoldable pub bytes_sent : ℕ → List ℕ → List ℕ → ℕ
unfolding taken sent
bytes_sent most t buffer = report_length * length (sent (taken most (length buffer) t))

unfoldable pub written : ℕ → List ℕ → List ℕ → List ℕ
unfolding taken sent concat
written most t buffer = over (sent (taken most (length buffer) t)) buffer

-- The room that is asked for: 209 bytes, and 209 for each condition line where neither 1 nor the 25th refuses the text.
abbrev pub room_for : Ans (List (List ℕ)) → ℕ
room_for (refused n l o) = report_length
room_for (got ls) = max report_length (report_length * condition_lines ls)

unfoldable pub room : ℕ → List ℕ → ℕ
unfolding counted_lines read counted condition_lines
room most t = room_for (counted_lines most t)

-- A limit of one's own is the library's where that is less.
abbrev pub limited : ℕ → ℕ
limited most = min most most_characters
