-- Where the reports of a booklet stand in the buffer, and what `judge` leaves for a text: one report for the whole, or one for each condition.
use Rattle.std.specs.Prelude.{◌≡◌, List, ℕ, ◌*◌, ◌≤◌, ◌<◌, length, take, drop}
use Rattle.rules.specs.Numbers.{digits}
use Rattle.rules.specs.Text.{hex}
use Rattle.rules.specs.Layout.{most_characters, Booklet}
use Rattle.rules.specs.Outcome.{refused, Unread}
use Rattle.rules.specs.Report.{no_judgement, report, report_length}
use Rattle.rules.specs.Columns.{characters}
use Rattle.rules.specs.Places.{Placed}
use Rattle.rules.specs.Booklet.{read_whole}
use Rattle.rules.specs.Apart.{AllowedWhole, line_number}
use Rattle.rules.specs.Answer.{report_of, answers, answer, first_number}
use Rattle.frames.specs.Sizes.{condition_bytes}

-- Report k, from 0: the 209 characters from 209 k on.
abbrev pub report_in : ℕ → List ℕ → List ℕ
report_in k buffer = characters (report_length * k) report_length buffer

-- The number of a report, its characters 7 and 8.
abbrev pub number_in : List ℕ → List ℕ
number_in r = characters 6 2 r

abbrev pub HasNumber : ℕ → List ℕ → Type 0
HasNumber m r = number_in r ≡ hex (digits 1 m)

-- It is one of 2 to 6: the condition line is refused for what it says.
abbrev pub RefusedLine : List ℕ → Type 0
RefusedLine r = (m : ℕ) × (2 ≤ m) × (m ≤ 6) × HasNumber m r

-- Two reports are the same but for characters 9 to 12, which name the line.
pub record SameButLine (r r' : List ℕ) : Type 0 where
  pub front : take 8 r ≡ take 8 r'
  pub behind : drop 12 r ≡ drop 12 r'

-- A report of condition k is that of a refusal, with a number from 2 to 8, and its place lies within the text as document 01 has it; for 2 to 6 it is the condition's own line.
pub record RefusedAt (text : List ℕ) (b : Booklet) (k : ℕ) (r : List ℕ) : Type 0 where
  pub number : ℕ
  pub line : ℕ
  pub offset : ℕ
  pub from2to8 : (2 ≤ number) × (number ≤ 8)
  pub reported : r ≡ report number line offset no_judgement
  pub placed : Placed text number line offset
  pub own : number ≤ 6 → line ≡ line_number b k
  pub fits : offset < condition_bytes

-- ---- what is left in the buffer, with the number n
-- The text is refused for the whole, with this number, one of 1 to 6 or 10, and at this line: that is in the one report, and every byte beyond it is as it was.
pub record RefusedWhole (text before : List ℕ) (n : ℕ) (after : List ℕ) : Type 0 where
  pub line : ℕ
  pub refusal : read_whole most_characters text ≡ refused n line 0
  pub unread : Unread n
  pub reported : report_in 0 after ≡ report n line 0 no_judgement
  pub beyond : drop report_length after ≡ drop report_length before

-- The text is allowed as a whole: report k is that of condition k, the number is the first among theirs that is not 0, 8 at most, and every byte beyond the last report is as it was.
pub record EachAnswered (text before : List ℕ) (n : ℕ) (after : List ℕ) : Type 0 where
  pub allowed : AllowedWhole most_characters text
  pub numbered : n ≡ first_number (answers allowed.0)
  pub to8 : n ≤ 8
  pub reported : (k : ℕ) → k < length allowed.0.conditions → report_in k after ≡ report_of (answer allowed.0 k)
  pub beyond : drop (report_length * length allowed.0.conditions) after ≡ drop (report_length * length allowed.0.conditions) before
