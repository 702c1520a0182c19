-- Where blocks stand, by the tags and the lengths that the bytes of a line say themselves; and where a refusal may stand, by the characters of the text.
use Rattle.std.specs.Prelude.{◌≡◌, cond, List, [], ◌∷◌, ◌++◌, ℕ, ◌+◌, ◌*◌, ◌≤◌, ◌<◌, length, get_or, leb}
use Rattle.rules.specs.Text.{LF}
use Rattle.rules.specs.Blocks.{condition_tag, weather, entry, group_tag}
use Rattle.rules.specs.Layout.{Entries, end, leaf, group, Condition, most_characters}
use Rattle.rules.specs.Parts.{be2}
use Rattle.rules.specs.Met.{NoLF}

-- Where the block at an offset of a line ends: its head, and its own length.
abbrev pub end_of : List ℕ → ℕ → ℕ
end_of line at = at + 3 + be2 line (at + 1)

-- The entries stand end to end from offset `at` on, each wholly before b, and the last ends at b.
-- So do those of each group, from behind its head to its end.
unfoldable pub Fills : List ℕ → ℕ → ℕ → Entries → Type 0
Fills line at b end = at ≡ b
Fills line at b (leaf k v r) = (get_or line at 0 ≡ (entry k).tag) × (end_of line at ≤ b) × Fills line (end_of line at) b r
Fills line at b (group g r) = (get_or line at 0 ≡ group_tag) × (end_of line at ≤ b) × Fills line (at + 3) (end_of line at) g × Fills line (end_of line at) b r

-- A frame fills its line.
abbrev pub FrameFills : List ℕ → Type 0
FrameFills line = end_of line 0 ≡ length line

-- In A3's line, which its frame fills, the weather stands first, at offset 3, and the entries fill what is left.
pub record ConditionFills (line : List ℕ) (c : Condition) : Type 0 where
  pub frame : FrameFills line
  pub frame_tag : get_or line 0 0 ≡ condition_tag
  pub weather_tag : get_or line 3 0 ≡ (weather c.weather.set).tag
  pub weather_inside : end_of line 3 ≤ length line
  pub load : Fills line (end_of line 3) (length line) c.load

unfoldable pub FramesFill : List (List ℕ) → Type 0
FramesFill [] = Unit {0}
FramesFill (l ∷ ls) = FrameFills l × FramesFill ls

-- Each line is filled by its frame, and the last one is A3's.
pub record LinesFill (ls : List (List ℕ)) (c : Condition) : Type 0 where
  pub front : List (List ℕ)
  pub last : List ℕ
  pub lines : front ++ (last ∷ []) ≡ ls
  pub frames : FramesFill front
  pub condition : ConditionFills last c

-- Two lines of one length, with the same bytes before offset e.
pub record SameBefore (e : ℕ) (l l' : List ℕ) : Type 0 where
  pub long : length l ≡ length l'
  pub bytes : (i : ℕ) → i < e → get_or l i 0 ≡ get_or l' i 0

-- How far a refusal looks, of the block that it names at offset o: 2, 4 and 3 at its head, 5, 6 and 10 to its end.
abbrev pub looked_at : List ℕ → ℕ → ℕ → ℕ
looked_at line number o = cond (leb number 4) (o + 3) (end_of line o)

-- ---- the place of a refusal
-- `LineAt t n p`: line n of the text t, counted from 1, has the characters p. Its LF is not among them.
pub data LineAt : List ℕ → ℕ → List ℕ → Type 0 where
  -- the first line, up to its LF
  first_line : (p rest : List ℕ) → NoLF p → LineAt (p ++ (LF ∷ rest)) 1 p
  -- the first line, with no LF behind it: what stands behind the last LF, if anything, counts as a line
  open_line : (p : List ℕ) → NoLF p → 0 < length p → LineAt p 1 p
  -- a later line: one of those behind the first line and its LF
  later_line : {n : ℕ} {p : List ℕ} (q rest : List ℕ) → NoLF q → LineAt rest n p → LineAt (q ++ (LF ∷ rest)) (1 + n) p

-- `Placed t n l o`: where the text t is refused with n, line l and offset o may be named. Nothing else may. (9 is of the buffer, and not of the text.)
pub data Placed (t : List ℕ) : ℕ → ℕ → ℕ → Type 0 where
  -- 1: over 180,000 characters (request 3), at line 0
  too_long : most_characters < length t → Placed t 1 0 0
  -- 1: one of the text's own lines
  at_line : {l : ℕ} {p : List ℕ} → length t ≤ most_characters → LineAt t l p → Placed t 1 l 0
  -- 5: 'empty text'
  empty_text : t ≡ [] → Placed t 5 0 0
  -- 2 to 6: a byte of one of the text's own lines; both its characters stand in that line
  at_byte : {n l o : ℕ} {p : List ℕ} → 2 ≤ n → n ≤ 6 → length t ≤ most_characters → LineAt t l p → 2 * o + 1 < length p → Placed t n l o
  -- 10 (request 4): the front of one of the text's own lines, which has a byte
  at_row : {l : ℕ} {p : List ℕ} → length t ≤ most_characters → LineAt t l p → 1 < length p → Placed t 10 l 0
  -- 7 and 8: no place
  unweighed : {n : ℕ} → 7 ≤ n → n ≤ 8 → Placed t n 0 0
