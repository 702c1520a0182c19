-- Request 3, 'The whole booklet in one go': a ship and its rows, and behind them up to 24 condition lines. What is refused as a whole, in its order, and what each condition line says for itself.
-- Each step gives what it read, or the refusal with its number, line and offset.
use Rattle.std.specs.Prelude.{true, false, ◌&&◌, List, [], ◌∷◌, ℕ, ◌+◌, ◌-◌, leb, ltb, eqb, length}
use Rattle.rules.specs.Blocks.{Row, row}
use Rattle.rules.specs.Layout.{Condition, Booklet, is_condition, fewest_rows, most_rows, most_conditions}
use Rattle.rules.specs.Outcome.{Ans, refused, got, test, ◌>>=◌, ◌>>◌}
use Rattle.rules.specs.Walk.{header, lines_from, condition_in, row_in, ship_frame, closed}

-- ---- the lines
-- 5: 'a 25th condition line gives 5 there'. n of them may come yet, and the first line has the number ln.
unfoldable pub counted : ℕ → ℕ → List (List ℕ) → Ans (Unit {0})
counted ln n [] = got tt
counted ln n (l ∷ ls) = elim (is_condition l) [ true ↦ (test (ltb 0 n) 5 ln 0 >> counted (ln + 1) (n - 1) ls) | false ↦ counted (ln + 1) n ls ]

-- 1, then the 25th: the lines of a text of at most `most` characters.
unfoldable pub counted_lines : ℕ → List ℕ → Ans (List (List ℕ))
counted_lines most t = do
  test (leb (length t) most) 1 0 0
  ls ← lines_from 1 t
  counted 1 most_conditions ls
  got ls

-- ---- the blocks of the whole text: ship, rows and misplaced lines
-- A line where a row is due, k rows being before it, the last with W = p: 2, 4, 3, 6, 10. 'An A3 before the second row' is 4 here, as every tag but a row's, and so is a 41st row.
unfoldable pub row_at : ℕ → ℕ → ℕ → List ℕ → Ans Row
row_at ln k p l = do
  h ← header ln 0 l
  test (eqb h.tag row.tag) 4 ln 0
  test (ltb k most_rows) 4 ln 0
  row_in ln p h

-- 'Any other line after an A3': 2 before 4.
unfoldable pub only_conditions : ℕ → List (List ℕ) → Ans (Unit {0})
only_conditions ln [] = got tt
only_conditions ln (l ∷ ls) = elim (is_condition l) [ true ↦ only_conditions (ln + 1) ls | false ↦ closed ln (l ∷ ls) ]

-- The rows, and the condition lines behind them as they stand.
pub record Behind : Type 0 where
  pub rows : List Row
  pub conditions : List (List ℕ)

-- The lines left, the number of the first, the rows before it and the last one's W. 5: 'no A3', at the number of lines.
unfoldable pub behind_ship : List (List ℕ) → ℕ → ℕ → ℕ → Ans Behind
behind_ship [] ln k p = refused 5 (ln - 1) 0
behind_ship (l ∷ ls) ln k p = elim (is_condition l && leb fewest_rows k) [
  | true ↦ (only_conditions (ln + 1) ls >>= λ u. got (record { rows = []; conditions = l ∷ ls }))
  | false ↦ (row_at ln k p l >>= λ v. behind_ship ls (ln + 1) (k + 1) v.mass >>= λ x. got (record { rows = v ∷ x.rows; conditions = x.conditions }))
]

-- 5: 'empty text'.
unfoldable pub book_frames : List (List ℕ) → Ans Booklet
book_frames [] = refused 5 0 0
book_frames (l ∷ ls) = do
  v ← ship_frame 1 l
  x ← behind_ship ls 2 0 0
  got (record { ship = v; rows = x.rows; conditions = x.conditions })

-- A text gives a booklet, or a refusal for the whole (9 apart).
unfoldable pub read_whole : ℕ → List ℕ → Ans Booklet
read_whole most t = do
  ls ← counted_lines most t
  book_frames ls

-- ---- a condition line for itself: 2, 3, 5, 6
unfoldable pub condition_at : ℕ → List ℕ → Ans Condition
condition_at ln l = do
  h ← header ln 0 l
  condition_in ln h
