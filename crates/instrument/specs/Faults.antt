-- What 1, 2, 4, 5 and 10 say of a text as a whole, with no reader: where it is no line, where a frame overruns, where a line is misplaced, where a condition line is one too many or owed, where a row has a typing slip; and what 2 says of a condition line.
use Rattle.std.specs.Prelude.{◌≡◌, ◌⊎◌, List, ℕ, ◌+◌, ◌≤◌, ◌<◌, length}
use Rattle.rules.specs.Layout.{most_characters, Booklet}
use Rattle.rules.specs.Met.{Met, Overruns, FirstNoLine}
use Rattle.rules.specs.Mistyped.{Mistyped}
use Rattle.rules.specs.Apart.{lines_of, LinesWithin, line_at, alone, MetWhole, Misplaced, NoCondition, TwentyFifth}

-- 1: 'over 180,000 characters (line 0), else the first line that isn't a line'.
abbrev pub NoLineAt : List ℕ → ℕ → Type 0
NoLineAt t l = ((most_characters < length t) × (l ≡ 0)) ⊎ ((length t ≤ most_characters) × FirstNoLine t l)

-- 2 for the whole: the text is lines within 180,000 characters, at most 24 of them begin with A3, and the reading of the whole comes to line l, whose frame runs past it, or that has one or two bytes.
abbrev pub WholeOverrunAt : List ℕ → ℕ → Type 0
WholeOverrunAt t l = (ls : List (List ℕ)) × LinesWithin most_characters t ls × (left : List ℕ) × MetWhole ls l left × Overruns left

-- 4 for the whole: such a text has line l as the first that begins with another tag than is due there, and it does not run past its end.
abbrev pub MisplacedAt : List ℕ → ℕ → Type 0
MisplacedAt t l = (ls : List (List ℕ)) × LinesWithin most_characters t ls × (bytes : List ℕ) × Misplaced ls l bytes × (¬ Overruns bytes)

-- 5 for the whole: line l is a 25th that begins with A3; or such a text has no A3 where one is owed, and l lines.
abbrev pub OwedAt : List ℕ → ℕ → Type 0
OwedAt t l = TwentyFifth most_characters t l ⊎ ((ls : List (List ℕ)) × LinesWithin most_characters t ls × NoCondition ls l)

-- 10 for the whole: such a text has in line l a row with a typing slip.
abbrev pub SlipAt : List ℕ → ℕ → Type 0
SlipAt t l = (ls : List (List ℕ)) × LinesWithin most_characters t ls × Mistyped ls l

-- 2 in condition line k: in the booklet with that condition alone a block is met in its line at offset o that runs past its parent.
abbrev pub LineOverrunAt : Booklet → ℕ → ℕ → Type 0
LineOverrunAt b k o = (left : List ℕ) × Met (lines_of (alone b (line_at b k))) (2 + length b.rows) o left × Overruns left
