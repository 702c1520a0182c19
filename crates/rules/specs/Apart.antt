-- 'Demand 3 then speaks of ship, rows and each condition apart' (request 3): which texts are allowed as a whole, and which condition lines are, with no reader.
use Rattle.std.specs.Prelude.{◌≡◌, ◌≢◌, true, List, [], ◌∷◌, ◌++◌, ℕ, ◌+◌, ◌≤◌, ◌<◌, length, get_or, set}
use Rattle.rules.specs.Numbers.{Bytes}
use Rattle.rules.specs.Text.{text, Lines}
use Rattle.rules.specs.Blocks.{block, ok, Ship, ship, Row, row, condition_tag}
use Rattle.rules.specs.Layout.{Condition, Reading, spell_condition, Rising, NoSlips, fewest_rows, most_rows, most_conditions, ConditionLimits, condition_lines, Booklet}
use Rattle.rules.specs.Met.{Led, lead}

-- Lines of bytes that begin with A3, whatever else they hold.
unfoldable pub BeginA3 : List (List ℕ) → Type 0
BeginA3 [] = Unit {0}
BeginA3 (l ∷ ls) = (get_or l 0 0 ≡ condition_tag) × Bytes l × BeginA3 ls

-- The ship's line, those of the rows, and the condition lines.
abbrev pub lines_of : Booklet → List (List ℕ)
lines_of b = lead b.ship b.rows b.conditions

unfoldable pub spell_booklet : Booklet → List ℕ
spell_booklet b = text (lines_of b)

pub record WholeLimits (most : ℕ) (b : Booklet) : Type 0 where
  pub hull : ok ship b.ship ≡ true
  pub rising : Rising 0 b.rows
  pub no_slips : NoSlips b.rows
  pub few : fewest_rows ≤ length b.rows
  pub many : length b.rows ≤ most_rows
  pub begin : BeginA3 b.conditions
  pub some : 1 ≤ length b.conditions
  pub at_most : length b.conditions ≤ most_conditions
  pub long : length (spell_booklet b) ≤ most

-- What goes before the blocks: a text is these lines, within `most` characters, and at most 24 of them begin with A3.
pub record LinesWithin (most : ℕ) (t : List ℕ) (ls : List (List ℕ)) : Type 0 where
  pub spells : text ls ≡ t
  pub lines : Lines ls
  pub long : length t ≤ most
  pub at_most : condition_lines ls ≤ most_conditions

-- A text is allowed as a whole when it spells a ship and rows within the limits, no row with a typing slip, and behind them lines that begin with A3.
abbrev pub AllowedWhole : ℕ → List ℕ → Type 0
AllowedWhole most t = (b : Booklet) × WholeLimits most b × (spell_booklet b ≡ t)

-- A condition line is allowed when it spells a condition within the limits.
abbrev pub AllowedLine : List ℕ → Type 0
AllowedLine l = (c : Condition) × ConditionLimits c × (block condition_tag (spell_condition c) ≡ l)

-- ---- one condition of a booklet
-- Condition line k, from 0; its number in the text, from 1; the reading of it where it says this condition.
abbrev pub line_at : Booklet → ℕ → List ℕ
line_at b k = get_or b.conditions k []

abbrev pub line_number : Booklet → ℕ → ℕ
line_number b k = 2 + length b.rows + k

abbrev pub reading_at : Booklet → Condition → Reading
reading_at b c = record { ship = b.ship; rows = b.rows; condition = c }

-- The booklet with this condition line alone.
abbrev pub alone : Booklet → List ℕ → Booklet
alone b l = record { ship = b.ship; rows = b.rows; conditions = l ∷ [] }

-- The booklet with another line in the place of its condition line k.
abbrev pub respelt : Booklet → ℕ → List ℕ → Booklet
respelt b k l = record { ship = b.ship; rows = b.rows; conditions = set b.conditions k l }

-- ---- texts of one condition, or of none
-- No line but the last begins with A3.
unfoldable pub OnlyLast : List (List ℕ) → Type 0
OnlyLast [] = Unit {0}
OnlyLast (l ∷ ls) = (get_or l 0 0 ≡ condition_tag → ls ≡ []) × OnlyLast ls

-- A text of lines is such a text where its lines are so; one that is no lines, which 1 refuses, is such a text too.
abbrev pub LastAlone : List ℕ → Type 0
LastAlone t = (ls : List (List ℕ)) → Lines ls → text ls ≡ t → OnlyLast ls

-- ---- which lines the reading of a text as a whole comes to
-- `MetWhole ls ln l`: in the lines ls, of which at most 24 begin with A3, line ln is looked at for its frame, and it has the bytes l. What stands behind it may be anything.
pub data MetWhole : List (List ℕ) → ℕ → List ℕ → Type 0 where
  -- the first line
  first_line : (l : List ℕ) (later : List (List ℕ)) → MetWhole (l ∷ later) 1 l
  -- a line behind the ship's and some rows' that is no condition line, or one before its place
  due_row : (s : Ship) (vs : List Row) (l : List ℕ) (later : List (List ℕ)) → Led s vs → (fewest_rows ≤ length vs → get_or l 0 0 ≢ condition_tag) → MetWhole (lead s vs (l ∷ later)) (2 + length vs) l
  -- a line behind condition lines, whatever these hold, that is none
  behind_conditions : (s : Ship) (vs : List Row) (cs : List (List ℕ)) (l : List ℕ) (later : List (List ℕ)) → Led s vs → fewest_rows ≤ length vs → BeginA3 cs → 1 ≤ length cs → get_or l 0 0 ≢ condition_tag
      → MetWhole (lead s vs (cs ++ (l ∷ later))) (2 + length vs + length cs) l

-- `Misplaced ls ln l`: in the lines ls, line ln has the bytes l and is the first that begins with another tag than is due there. What stands behind it may be anything.
pub data Misplaced : List (List ℕ) → ℕ → List ℕ → Type 0 where
  -- no A1 in the first line
  no_ship : (l : List ℕ) (later : List (List ℕ)) → get_or l 0 0 ≢ ship.tag → Misplaced (l ∷ later) 1 l
  -- behind the ship's line and some rows' neither a row nor a condition line; or a 41st row, or an A3 before the second
  no_row : (s : Ship) (vs : List Row) (l : List ℕ) (later : List (List ℕ)) → Led s vs → (get_or l 0 0 ≡ row.tag → length vs ≡ most_rows) → (get_or l 0 0 ≡ condition_tag → length vs < fewest_rows) → Misplaced (lead s vs (l ∷ later)) (2 + length vs) l
  -- behind condition lines, whatever these hold, a line that is none
  no_condition : (s : Ship) (vs : List Row) (cs : List (List ℕ)) (l : List ℕ) (later : List (List ℕ)) → Led s vs → fewest_rows ≤ length vs → BeginA3 cs → 1 ≤ length cs → get_or l 0 0 ≢ condition_tag
      → Misplaced (lead s vs (cs ++ (l ∷ later))) (2 + length vs + length cs) l

-- `NoCondition ls ln`: 'no A3': the lines ls, ln of them, are the ship's and some rows' and nothing behind them, or there are none.
pub data NoCondition : List (List ℕ) → ℕ → Type 0 where
  empty_text : NoCondition [] 0
  front_alone : (s : Ship) (vs : List Row) → Led s vs → NoCondition (lead s vs []) (1 + length vs)

-- `TwentyFifth most t l`: the text is lines within `most` characters, and line l is the 25th that begins with A3. What else it holds may be anything.
pub record TwentyFifth (most : ℕ) (t : List ℕ) (l : ℕ) : Type 0 where
  pub front : List (List ℕ)
  pub line : List ℕ
  pub later : List (List ℕ)
  pub spells : text (front ++ (line ∷ later)) ≡ t
  pub lines : Lines (front ++ (line ∷ later))
  pub long : length t ≤ most
  pub before : condition_lines front ≡ most_conditions
  pub begins : get_or line 0 0 ≡ condition_tag
  pub place : l ≡ 1 + length front
