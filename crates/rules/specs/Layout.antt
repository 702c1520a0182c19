-- The layout with no reader in it: what a text can say (`Reading`, of one condition, and `Booklet`), how that is spelled, its limits, and so which texts are allowed.
use Rattle.std.specs.Prelude.{◌≡◌, Bool, true, false, List, [], ◌∷◌, ◌++◌, ℕ, suc, ◌+◌, max, ◌≤◌, ◌<◌, eqb, length, get_or}
use Rattle.rules.specs.Text.{text}
use Rattle.rules.specs.Blocks.{block, ok, spell_block, Ship, ship, Row, row, smooth, condition_tag, Weather, ok_weather, spell_weather, Load, Values, entry, group_tag}

-- 'One or more of C2, C3, C4', and C5, 'allowed where C3 is' (request 1), side by side: none more; an item or a tank and those after it; a group and those after it.
pub data Entries : Type 0 where
  end : Entries
  leaf : (k : Load) → Values k → Entries → Entries
  group : Entries → Entries → Entries

-- A3: one C1, or a C6 'in C1's place' (request 2), then the entries.
pub record Condition : Type 0 where
  pub weather : Weather
  pub load : Entries

-- 'A text is one A1, 2 to 40 A2, one A3, in that order.'
pub record Reading : Type 0 where
  pub ship : Ship
  pub rows : List Row
  pub condition : Condition

-- ---- a booklet (request 3)
-- What a text says as a whole: the ship, the rows, and the condition lines as they stand. The first of these has the number 2 + length rows, and each further one the next.
pub record Booklet : Type 0 where
  pub ship : Ship
  pub rows : List Row
  pub conditions : List (List ℕ)

-- 'A condition line is one that begins with A3.'
abbrev pub is_condition : List ℕ → Bool
is_condition l = eqb (get_or l 0 0) condition_tag

-- How many there are, wherever they stand.
unfoldable pub condition_lines : List (List ℕ) → ℕ
condition_lines [] = 0
condition_lines (l ∷ ls) = elim (is_condition l) [ true ↦ suc (condition_lines ls) | false ↦ condition_lines ls ]

-- ---- how it is spelled
unfoldable pub spell : Entries → List ℕ
spell end = []
spell (leaf k v r) = spell_block (entry k) v ++ spell r
spell (group g r) = block group_tag (spell g) ++ spell r

unfoldable pub spell_condition : Condition → List ℕ
spell_condition c = spell_weather c.weather ++ spell c.load

-- 'Each line is one frame. A frame is one block.'
unfoldable pub row_frames : List Row → Condition → List (List ℕ)
row_frames [] c = block condition_tag (spell_condition c) ∷ []
row_frames (v ∷ vs) c = spell_block row v ∷ row_frames vs c

unfoldable pub frames : Reading → List (List ℕ)
frames r = spell_block ship r.ship ∷ row_frames r.rows r.condition

unfoldable pub spell_text : Reading → List ℕ
spell_text r = text (frames r)

-- ---- its limits
-- How many items and tanks; how many groups deep; whether there is any entry.
unfoldable pub leaves : Entries → ℕ
leaves end = 0
leaves (leaf k v r) = suc (leaves r)
leaves (group g r) = leaves g + leaves r

unfoldable pub depth : Entries → ℕ
depth end = 0
depth (leaf k v r) = depth r
depth (group g r) = max (suc (depth g)) (depth r)

unfoldable pub some : Entries → Bool
some end = false
some (leaf k v r) = true
some (group g r) = true

-- Each value within its limits, and 'one or more' in each group.
unfoldable pub Good : Entries → Type 0
Good end = Unit {0}
Good (leaf k v r) = (ok (entry k) v ≡ true) × Good r
Good (group g r) = (some g ≡ true) × Good g × Good r

-- 'W .. strictly rising by row', each row within its limits.
unfoldable pub Rising : ℕ → List Row → Type 0
Rising p [] = Unit {0}
Rising p (v ∷ vs) = (ok row v ≡ true) × (p < v.mass) × Rising v.mass vs

-- No row 'in which some inner KN value, doubled, differs from the sum of its two neighbours by more than 400' (request 4).
unfoldable pub NoSlips : List Row → Type 0
NoSlips [] = Unit {0}
NoSlips (v ∷ vs) = (smooth v.kn ≡ true) × NoSlips vs

abbrev pub fewest_rows : ℕ
fewest_rows = 2

abbrev pub most_rows : ℕ
most_rows = 40

abbrev pub most_depth : ℕ
most_depth = 4

abbrev pub most_entries : ℕ
most_entries = 200

abbrev pub most_bytes : ℕ
most_bytes = 4_096

-- 'The library takes up to 180,000 characters', 'up to 24 condition lines' (request 3).
abbrev pub most_characters : ℕ
most_characters = 180_000

abbrev pub most_conditions : ℕ
most_conditions = 24

pub record ConditionLimits (c : Condition) : Type 0 where
  pub sky : ok_weather c.weather ≡ true
  pub good : Good c.load
  pub any : some c.load ≡ true
  pub deep : depth c.load ≤ most_depth
  pub many : leaves c.load ≤ most_entries
  pub long : length (spell_condition c) ≤ most_bytes

pub record Limits (r : Reading) : Type 0 where
  pub hull : ok ship r.ship ≡ true
  pub rising : Rising 0 r.rows
  pub few : fewest_rows ≤ length r.rows
  pub many : length r.rows ≤ most_rows
  pub loaded : ConditionLimits r.condition
  pub long : length (spell_text r) ≤ most_characters

-- A text is allowed when it spells a reading within the limits, no row with a typing slip.
abbrev pub Allowed : List ℕ → Type 0
Allowed t = (r : Reading) × Limits r × NoSlips r.rows × (spell_text r ≡ t)
