-- The order of checks: 'then 1 over the whole text; then blocks as they begin, first byte to last, and at each block 2, 4, 3, 5, 6', and at a row 10, 'directly after its 6' (request 4).
-- Each step gives what it read, or the refusal with its number, line and offset.
use Rattle.std.specs.Prelude.{Bool, true, false, cond, ◌&&◌, List, [], ◌∷◌, ℕ, zero, suc, ◌+◌, ◌-◌, ◌*◌, leb, ltb, eqb, length, take, drop}
use Rattle.rules.specs.Numbers.{num, full}
use Rattle.rules.specs.Text.{LF}
use Rattle.rules.specs.Blocks.{Layout, ok, values, within, size, Ship, ship, Row, row, smooth, condition_tag, Set, code, timber, Weather, weather, ordinary, cargo, Load, item, tank, Values, entry, group_tag}
use Rattle.rules.specs.Layout.{Entries, end, leaf, group, leaves, Condition, Reading, fewest_rows, most_rows, most_depth, most_entries, most_bytes, most_characters}
use Rattle.rules.specs.Outcome.{Ans, refused, got, test, ◌>>=◌, ◌>>◌}

-- ---- 1: over 180,000 characters (line 0), else the first line that isn't a line
-- The value of a digit 0-9 A-F.
unfoldable pub nibble : ℕ → ℕ → Ans ℕ
nibble ln c = cond (leb 48 c && leb c 57) (got (c - 48)) (cond (leb 65 c && leb c 70) (got (c - 55)) (refused 1 ln 0))

-- The bytes of an even number of digits.
unfoldable pub unhex : ℕ → List ℕ → Ans (List ℕ)
unhex ln [] = got []
unhex ln (c ∷ []) = refused 1 ln 0
unhex ln (c ∷ d ∷ s) = do
  x ← nibble ln c
  y ← nibble ln d
  r ← unhex ln s
  got ((16 * x + y) ∷ r)

-- The pieces of a text between its LFs: the first, and the others.
abbrev pub Pieces : Type 0
Pieces = List ℕ × List (List ℕ)

unfoldable pub put : ℕ → Bool → Pieces → Pieces
put c true p = ([], p.0 ∷ p.1)
put c false p = (c ∷ p.0, p.1)

unfoldable pub split : List ℕ → Pieces
split [] = ([], [])
split (c ∷ t) = put c (eqb c LF) (split t)

-- Each piece before an LF is a line; nothing stands after the last LF.
unfoldable pub decode : ℕ → List ℕ → List (List ℕ) → Ans (List (List ℕ))
decode ln (c ∷ p) [] = refused 1 ln 0
decode ln [] [] = got []
decode ln p (q ∷ ps) = do
  b ← unhex ln p
  test (full b) 1 ln 0
  r ← decode (ln + 1) q ps
  got (b ∷ r)

-- The lines of a text, each as its bytes, the first with the number ln.
unfoldable pub lines_from : ℕ → List ℕ → Ans (List (List ℕ))
lines_from ln t = decode ln (split t).0 (split t).1

-- ---- a block as it begins
-- Tag, body and what stands after it in the same parent.
pub record Head : Type 0 where
  pub tag : ℕ
  pub body : List ℕ
  pub rest : List ℕ

-- 2: 'one or two bytes left where a block would begin, or a block's length runs past its parent'. s is what is left of the parent.
unfoldable pub header : ℕ → ℕ → List ℕ → Ans Head
header ln at [] = refused 2 ln at
header ln at (t ∷ []) = refused 2 ln at
header ln at (t ∷ a ∷ []) = refused 2 ln at
header ln at (t ∷ a ∷ b ∷ s) = do
  test (leb (num (a ∷ b ∷ [])) (length s)) 2 ln at
  got (record { tag = t; body = take (num (a ∷ b ∷ [])) s; rest = drop (num (a ∷ b ∷ [])) s })

-- 3, 5, 6 of a block of fixed size. `room` says whether one more may stand here.
unfoldable pub fixed : {A : Type 0} → ℕ → Layout A → Bool → ℕ → List ℕ → Ans A
fixed ln L room at body = do
  test (eqb (length body) (size L.fields)) 3 ln at
  test room 5 ln at
  test (ok L (L.named (values L.fields body))) 6 ln at
  got (L.named (values L.fields body))

-- ---- the entries
-- What a tag stands for among the entries.
pub data Tag : Type 0 where
  load : Load → Tag
  nested : Tag

-- 4: tag not allowed there.
unfoldable pub tag_of : ℕ → ℕ → ℕ → Ans Tag
tag_of ln at t = cond (eqb t (entry item).tag) (got (load item)) (cond (eqb t (entry (tank ordinary)).tag) (got (load (tank ordinary))) (cond (eqb t (entry (tank cargo)).tag) (got (load (tank cargo))) (cond (eqb t group_tag) (got nested) (refused 4 ln at))))

-- An entry or a group that has passed its tests.
pub data Block : Type 0 where
  one : (k : Load) → Values k → Block
  nest : Block

-- 3, 5, 6 of an entry; 5 of a group: 'a fifth group depth', 'empty group'. d depths and n entries are left.
unfoldable pub begun : ℕ → ℕ → ℕ → ℕ → List ℕ → Tag → Ans Block
begun ln d n at body (load k) = do
  v ← fixed ln (entry k) (ltb 0 n) at body
  got (one k v)
begun ln d n at body nested = do
  test (ltb 0 d) 5 ln at
  test (full body) 5 ln at
  got nest

unfoldable pub block_at : ℕ → ℕ → ℕ → ℕ → ℕ → List ℕ → Ans Block
block_at ln d n at t body = do
  x ← tag_of ln at t
  begun ln d n at body x

-- A walk over entries: depths left, entries left, the offset of the first, the bytes.
abbrev pub Walk : Type 0
Walk = ℕ → ℕ → ℕ → List ℕ → Ans Entries

-- After a block: the entries inside a group against the group's own length, then those after it.
unfoldable pub step : ℕ → Walk → ℕ → ℕ → ℕ → Head → Block → Ans Entries
step ln w d n at h (one k v) = do
  r ← w d (n - 1) (at + 3 + length h.body) h.rest
  got (leaf k v r)
step ln w d n at h nest = do
  g ← w (d - 1) n (at + 3) h.body
  r ← w d (n - leaves g) (at + 3 + length h.body) h.rest
  got (group g r)

-- The first number counts steps down, so that the definition ends; `entries` gives it more than can be used.
unfoldable pub walk : ℕ → ℕ → Walk
walk ln zero d n at s = refused 0 ln at
walk ln (suc f) d n at [] = got end
walk ln (suc f) d n at (x ∷ s) = do
  h ← header ln at (x ∷ s)
  b ← block_at ln d n at h.tag h.body
  step ln (walk ln f) d n at h b

unfoldable pub entries : ℕ → Walk
entries ln d n at s = walk ln (suc (length s)) d n at s

-- ---- the condition
-- The sets of criteria that a text may choose.
abbrev pub sets : List Set
sets = code ∷ timber ∷ []

-- The one among them that a tag chooses; 4 where there is none.
unfoldable pub among : ℕ → ℕ → List Set → Ans Set
among ln t [] = refused 4 ln 3
among ln t (s ∷ ss) = elim (eqb t (weather s).tag) [ true ↦ got s | false ↦ among ln t ss ]

unfoldable pub chosen : ℕ → ℕ → Ans Set
unfolding among
chosen ln t = among ln t sets

-- Its first block is the weather: 4, 3, 6. It stands at offset 3.
unfoldable pub weather_at : ℕ → ℕ → List ℕ → Ans Weather
weather_at ln t body = do
  s ← chosen ln t
  v ← fixed ln (weather s) true 3 body
  got (record { set = s; sky = v })

-- 5: 'a C1 alone', or a C6. Otherwise the entries, of which the first stands at offset `at`.
unfoldable pub load_at : ℕ → ℕ → List ℕ → Ans Entries
load_at ln at s = do
  test (full s) 5 ln 0
  entries ln most_depth most_entries at s

-- 5: 'A3 empty'. Otherwise the weather, and the load after it.
unfoldable pub inside : ℕ → List ℕ → Ans Condition
inside ln body = do
  test (full body) 5 ln 0
  h ← header ln 3 body
  w ← weather_at ln h.tag h.body
  e ← load_at ln (6 + length h.body) h.rest
  got (record { weather = w; load = e })

-- ---- the frames: each a block at offset 0, whose parent is its line
-- 3: 'a frame shorter than its line'. 5: 'A3 over 4,096'.
unfoldable pub condition_in : ℕ → Head → Ans Condition
condition_in ln h = do
  test (eqb (length h.rest) 0) 3 ln 0
  test (leb (length h.body) most_bytes) 5 ln 0
  inside ln h.body

-- A frame of fixed size: 3, 6.
unfoldable pub fixed_in : {A : Type 0} → ℕ → Layout A → Head → Ans A
fixed_in ln L h = do
  test (eqb (length h.rest) 0) 3 ln 0
  fixed ln L true 0 h.body

unfoldable pub ship_frame : ℕ → List ℕ → Ans Ship
ship_frame ln l = do
  h ← header ln 0 l
  test (eqb h.tag ship.tag) 4 ln 0
  fixed_in ln ship h

-- A row; its W above the last row's, p; and 10.
unfoldable pub row_in : ℕ → ℕ → Head → Ans Row
row_in ln p h = do
  v ← fixed_in ln row h
  test (ltb p v.mass) 6 ln 0
  test (smooth v.kn) 10 ln 0
  got v

-- What the tag of a frame after the ship's stands for.
pub data Frame : Type 0 where
  a_row a_condition : Frame

unfoldable pub frame_of : ℕ → ℕ → Ans Frame
frame_of ln t = cond (eqb t row.tag) (got a_row) (cond (eqb t condition_tag) (got a_condition) (refused 4 ln 0))

-- What such a frame says.
pub data Found : Type 0 where
  table_row : Row → Found
  the_condition : Condition → Found

-- 4: 'a 41st row'; 'A3 before two rows'. k rows stand before it, the last with W = p.
unfoldable pub found : ℕ → ℕ → ℕ → Head → Frame → Ans Found
found ln k p h a_row = do
  test (ltb k most_rows) 4 ln 0
  v ← row_in ln p h
  got (table_row v)
found ln k p h a_condition = do
  test (leb fewest_rows k) 4 ln 0
  c ← condition_in ln h
  got (the_condition c)

unfoldable pub frame_at : ℕ → ℕ → ℕ → List ℕ → Ans Found
frame_at ln k p l = do
  h ← header ln 0 l
  t ← frame_of ln h.tag
  found ln k p h t

-- 4: 'a frame after A3', behind its own 2.
unfoldable pub closed : ℕ → List (List ℕ) → Ans (Unit {0})
closed ln [] = got tt
closed ln (l ∷ ls) = do
  h ← header ln 0 l
  refused 4 ln 0

-- The rows and the condition.
pub record Tail : Type 0 where
  pub rows : List Row
  pub condition : Condition

unfoldable pub after : (ℕ → ℕ → ℕ → Ans Tail) → List (List ℕ) → ℕ → ℕ → Found → Ans Tail
after w ls ln k (table_row v) = do
  x ← w (ln + 1) (k + 1) v.mass
  got (record { rows = v ∷ x.rows; condition = x.condition })
after w ls ln k (the_condition c) = do
  u ← closed (ln + 1) ls
  got (record { rows = []; condition = c })

-- The frames left, the line of the first, the rows before it and the last one's W. 5: 'no A3', at the number of lines.
unfoldable pub tail : List (List ℕ) → ℕ → ℕ → ℕ → Ans Tail
tail [] ln k p = refused 5 (ln - 1) 0
tail (l ∷ ls) ln k p = do
  f ← frame_at ln k p l
  after (tail ls) ls ln k f

-- 5: 'empty text'.
unfoldable pub read_frames : List (List ℕ) → Ans Reading
read_frames [] = refused 5 0 0
read_frames (l ∷ ls) = do
  v ← ship_frame 1 l
  x ← tail ls 2 0 0
  got (record { ship = v; rows = x.rows; condition = x.condition })

-- A text gives a reading or a refusal. (To unfold `read` is to unfold all of the walk; each step above unfolds alone.)
unfoldable pub read : List ℕ → Ans Reading
unfolding nibble unhex put split decode lines_from header num fixed ok within values size smooth tag_of begun block_at leaves step walk entries chosen weather_at load_at inside condition_in fixed_in ship_frame row_in frame_of found frame_at closed after tail read_frames test ◌>>=◌ ◌>>◌
read t = do
  test (leb (length t) most_characters) 1 0 0
  ls ← lines_from 1 t
  read_frames ls
