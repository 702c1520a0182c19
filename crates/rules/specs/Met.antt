-- 'Blocks as they begin, first byte to last': which blocks the reading of a text comes to, said with no reader.
-- A block is met where all that stands before it is as it must be. What stands behind it may be anything. So with the first line that is none.
use Rattle.std.specs.Prelude.{◌≡◌, ◌≢◌, true, List, [], ◌∷◌, ◌++◌, ℕ, ◌+◌, ◌-◌, ◌≤◌, ◌<◌, length}
use Rattle.rules.specs.Numbers.{Bytes, full}
use Rattle.rules.specs.Text.{LF, hex, text, Lines}
use Rattle.rules.specs.Blocks.{block, ok, spell_block, Ship, ship, Row, row, condition_tag, Weather, ok_weather, spell_weather, group_tag}
use Rattle.rules.specs.Layout.{Entries, Condition, spell, spell_condition, leaves, depth, Good, Rising, NoSlips, fewest_rows, most_rows, most_depth, most_entries, most_bytes, ConditionLimits}
use Rattle.rules.specs.Parts.{be2}

-- ---- among entries
-- Entries within their limits, where d depths and n entries are left.
pub record Passed (d n : ℕ) (F : Entries) : Type 0 where
  pub good : Good F
  pub deep : depth F ≤ d
  pub many : leaves F ≤ n

-- `Meets d n at s o left`: of the bytes s, which begin at offset `at`, where d depths and n entries are left, a block is met at offset o, and its parent has the bytes `left` from there on.
-- It stands behind entries that passed; or it is so met inside a group that stands behind entries that passed.
pub data Meets : ℕ → ℕ → ℕ → List ℕ → ℕ → List ℕ → Type 0 where
  behind : {d n at : ℕ} (F : Entries) (left : List ℕ) → Passed d n F → Meets d n at (spell F ++ left) (at + length (spell F)) left
  nested_in : {d n at o : ℕ} {left : List ℕ} (F : Entries) (body rest : List ℕ) → Passed d n F → 0 < d → Meets (d - 1) (n - leaves F) (at + length (spell F) + 3) body o left
      → Meets d n at (spell F ++ (block group_tag body ++ rest)) o left

-- ---- among frames
-- A ship and rows as they must be: within their limits, and no row with a typing slip.
pub record Led (s : Ship) (vs : List Row) : Type 0 where
  pub hull : ok ship s ≡ true
  pub rising : Rising 0 vs
  pub no_slips : NoSlips vs
  pub many : length vs ≤ most_rows

-- The lines of rows, and others behind them; the same with the ship's line in front.
unfoldable pub behind_rows : List Row → List (List ℕ) → List (List ℕ)
behind_rows [] ls = ls
behind_rows (v ∷ vs) ls = spell_block row v ∷ behind_rows vs ls

abbrev pub lead : Ship → List Row → List (List ℕ) → List (List ℕ)
lead s vs ls = spell_block ship s ∷ behind_rows vs ls

-- `Met ls ln o left`: in the lines ls a block is met at line ln and offset o, and its parent has the bytes `left` from there on.
pub data Met : List (List ℕ) → ℕ → ℕ → List ℕ → Type 0 where
  -- the first frame
  ships_frame : (l : List ℕ) (later : List (List ℕ)) → Met (l ∷ later) 1 0 l
  -- a frame behind the ship's and some rows
  frame : (s : Ship) (vs : List Row) (l : List ℕ) (later : List (List ℕ)) → Led s vs → Met (lead s vs (l ∷ later)) (2 + length vs) 0 l
  -- a frame behind the condition's
  frame_behind : (s : Ship) (vs : List Row) (c : Condition) (l : List ℕ) (later : List (List ℕ)) → Led s vs → fewest_rows ≤ length vs → ConditionLimits c
      → Met (lead s vs (block condition_tag (spell_condition c) ∷ l ∷ later)) (3 + length vs) 0 l
  -- the first block inside the condition
  weather_block : (s : Ship) (vs : List Row) (body : List ℕ) (later : List (List ℕ)) → Led s vs → fewest_rows ≤ length vs → length body ≤ most_bytes
      → Met (lead s vs (block condition_tag body ∷ later)) (2 + length vs) 3 body
  -- a block behind the weather
  entry_block : (s : Ship) (vs : List Row) (w : Weather) (b : List ℕ) (later : List (List ℕ)) {o : ℕ} {left : List ℕ} → Led s vs → fewest_rows ≤ length vs → ok_weather w ≡ true
      → length (spell_weather w ++ b) ≤ most_bytes → Meets most_depth most_entries (3 + length (spell_weather w)) b o left
      → Met (lead s vs (block condition_tag (spell_weather w ++ b) ∷ later)) (2 + length vs) o left

-- 'One or two bytes left where a block would begin, or a block's length runs past its parent': there are fewer than a head and the length ask for. (A byte that is not there counts 0.)
abbrev pub Overruns : List ℕ → Type 0
Overruns left = (0 < length left) × (length left < 3 + be2 left 1)

-- ---- among characters
-- Characters of which none is an LF, and which are no line: no bytes, at least one, are so written.
unfoldable pub NoLF : List ℕ → Type 0
NoLF [] = Unit {0}
NoLF (c ∷ p) = (c ≢ LF) × NoLF p

abbrev pub NoLine : List ℕ → Type 0
NoLine p = NoLF p × ((b : List ℕ) → full b ≡ true → Bytes b → hex b ≢ p)

-- `FirstNoLine t l`: the text is lines, l - 1 of them, and what stands behind them is no line.
pub data FirstNoLine : List ℕ → ℕ → Type 0 where
  -- characters that are none, then an LF, then anything
  bad_line : (front : List (List ℕ)) (p rest : List ℕ) → Lines front → NoLine p → FirstNoLine (text front ++ (p ++ (LF ∷ rest))) (1 + length front)
  -- characters, at least one, with no LF behind them
  open_end : (front : List (List ℕ)) (p : List ℕ) → Lines front → NoLF p → 0 < length p → FirstNoLine (text front ++ p) (1 + length front)
