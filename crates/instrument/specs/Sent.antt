-- What is sent back with room for it: of one answer, of a condition line and of all conditions of a booklet; and when plain data is that of a reading.
use Rattle.std.specs.Prelude.{◌≡◌, List, ◌++◌, map, ℕ, ◌*◌, ◌≤◌, ◌<◌, length, drop, Option, Some, None, Result, Ok, Err}
use Rattle.rules.specs.Blocks.{Row}
use Rattle.rules.specs.Blocks as rules
use Rattle.rules.specs.Layout.{Condition, most_characters, Limits, Booklet}
use Rattle.rules.specs.Outcome.{got}
use Rattle.rules.specs.Booklet.{read_whole, condition_at}
use Rattle.rules.specs.Report.{concat, report_length}
use Rattle.rules.specs.Answer.{report_of, answer_of_line, answers, first_number}
use Rattle.book.specs.Book.{plain_ship, plain_row, judgement_of, answered, fault_number}
use Rattle.book.specs.declared.Fault.{Fault}
use Rattle.book.specs.declared.Ship.{Ship}
use Rattle.book.specs.declared.Row as plain
use Rattle.book.specs.declared.Refusal.{Refusal}
use Rattle.book.specs.declared.Judgement as plain'
use Rattle.frames.specs.FrameAnswers.{plain_condition}
use Rattle.frames.specs.declared.Condition as plain''
use Rattle.reading.specs.TextAnswers.{front_characters}
use Rattle.reading.specs.declared.Front.{Front}

-- ---- one answer
-- The fault of a refusal; none of a judgement.
abbrev pub fault_in : Result plain'.Judgement Refusal → Option Fault
fault_in (Ok j) = None
fault_in (Err r) = Some r.fault

-- 0 where there is none, else the paper's number.
abbrev pub number_sent : Option Fault → ℕ
number_sent None = 0
number_sent (Some f) = fault_number f

-- ---- a condition line
-- The line l with the number ln, of a booklet with this ship and these rows, as plain data. What it says is within the limits, and its number fits the report's two bytes.
pub record LineSays (s : rules.Ship) (vs : List Row) (ln : ℕ) (l : List ℕ) (ship : Ship) (read : Result plain''.Condition Refusal) (rows : List plain.Row) : Type 0 where
  pub limits : (c : Condition) → condition_at ln l ≡ got c → Limits (record { ship = s; rows = vs; condition = c })
  pub hull : ship ≡ plain_ship s
  pub line : read ≡ answered plain_condition (condition_at ln l)
  pub table : rows ≡ map plain_row vs
  pub fits : ln < 65_536

abbrev pub OfLine : Ship → Result plain''.Condition Refusal → List plain.Row → Type 0
OfLine ship read rows = (s : rules.Ship) × (vs : List Row) × (ln : ℕ) × (l : List ℕ) × LineSays s vs ln l ship read rows

-- What is judged of it, or the refusal.
abbrev pub Judged : Ship → Result plain''.Condition Refusal → List plain.Row → Result plain'.Judgement Refusal → Type 0
Judged ship read rows a = (s : rules.Ship) (vs : List Row) (ln : ℕ) (l : List ℕ) → LineSays s vs ln l ship read rows → a ≡ answered judgement_of (answer_of_line s vs ln l)

-- ---- all conditions
-- The text t is read as the booklet b, of which the front is plain data.
pub record Opens (b : Booklet) (t : List ℕ) (front : Front) : Type 0 where
  pub read : read_whole most_characters t ≡ got b
  pub hull : front.ship ≡ plain_ship b.ship
  pub table : front.rows ≡ map plain_row b.rows
  pub begins : front.at ≡ front_characters (length b.rows)

-- There is room for its reports.
abbrev pub OfBooklet : List ℕ → Front → ℕ → List ℕ → Type 0
OfBooklet t front k before = (b : Booklet) × Opens b t front × (k ≡ length b.conditions) × (report_length * k ≤ length before)

abbrev pub SentAll : List ℕ → Front → List ℕ → Option Fault → List ℕ → Type 0
SentAll t front before first after = (b : Booklet) → Opens b t front → (number_sent first ≡ first_number (answers b)) × (after ≡ concat (map report_of (answers b)) ++ drop (report_length * length b.conditions) before)
