-- How many there may be, restated from 01 and request 3 and tried at each edge: rows, depths, entries, bytes, characters, condition lines; and the greatest KG.
use mathlib.Core.Path.{◌≡◌, refl}
use mathlib.Core.Bool.{true}
use mathlib.Core.List.{List, [], ◌∷◌}
use Prim.Native.Nat.{ℕ, ◌+◌, min, ◌≤◌, ◌<◌}
use native.Mathlib.Omega.{arith}
use lib.Dec.{eqb}
use lib.ListN.{length}
use borrow.Author.Tests.{le-leb, lt-leb}
use Rattle.rules.specs.Numbers.{full}
use Rattle.rules.specs.Blocks.{Load, size, entry}
use Rattle.rules.specs.Layout.{Reading}
use Rattle.rules.specs.Outcome.{refused, got, test, ◌>>=◌, ◌>>◌}
use Rattle.rules.specs.Walk.{Head, header, load, nested, fixed, begun, load_at, entries, inside, condition_in, row_in, a_row, a_condition, table_row, the_condition, found, lines_from, read_frames, read}
use Rattle.rules.specs.Booklet.{counted, counted_lines, row_at, only_conditions, behind_ship}
use Rattle.rules.specs.Loading.{in_table, displacement, entries_of, corrected_kg, weighed, weighed_in}
use Rattle.rules.specs.Answer.{limited}

-- '2 to 40 A2': 'A3 before two rows; a 41st row' are refused with 4.
module _ (ln p : ℕ) (h : Head) where
  pub one_row : found ln 1 p h a_condition ≡ refused 4 ln 0
  unfolding found test ◌>>=◌ ◌>>◌
  one_row = refl

  pub two_rows_lem : found ln 2 p h a_condition ≡ (condition_in ln h >>= λ c. got (the_condition c))
  unfolding found test ◌>>=◌ ◌>>◌
  two_rows_lem = refl

  pub row_40 : found ln 39 p h a_row ≡ (row_in ln p h >>= λ v. got (table_row v))
  unfolding found test ◌>>=◌ ◌>>◌
  row_40 = refl

  pub row_41 : found ln 40 p h a_row ≡ refused 4 ln 0
  unfolding found test ◌>>=◌ ◌>>◌
  row_41 = refl

-- So of a booklet.
module _ (ln p : ℕ) (left : List ℕ) (ls : List (List ℕ)) where
  pub booklet_one_row : behind_ship ((0xA3 ∷ left) ∷ ls) ln 1 p ≡ (row_at ln 1 p (0xA3 ∷ left) >>= λ v. behind_ship ls (ln + 1) 2 v.mass >>= λ x. got (record { rows = v ∷ x.rows; conditions = x.conditions }))
  unfolding behind_ship
  booklet_one_row = refl

  pub booklet_two_rows : behind_ship ((0xA3 ∷ left) ∷ ls) ln 2 p ≡ (only_conditions (ln + 1) ls >>= λ u. got (record { rows = []; conditions = (0xA3 ∷ left) ∷ ls }))
  unfolding behind_ship
  booklet_two_rows = refl

module _ (ln p : ℕ) (l : List ℕ) (h : Head) (begins : header ln 0 l ≡ got h) where
  pub booklet_no_row : h.tag ≡ 0xA3 → row_at ln 1 p l ≡ refused 4 ln 0
  unfolding row_at test ◌>>=◌ ◌>>◌
  booklet_no_row t = rw (begins, t)

  pub booklet_row_40 : h.tag ≡ 0xA2 → row_at ln 39 p l ≡ row_in ln p h
  unfolding row_at test ◌>>=◌ ◌>>◌
  booklet_row_40 t = rw (begins, t)

  pub booklet_row_41 : h.tag ≡ 0xA2 → row_at ln 40 p l ≡ refused 4 ln 0
  unfolding row_at test ◌>>=◌ ◌>>◌
  booklet_row_41 t = rw (begins, t)

-- 'At most 4 groups deep', 'at most 200 items and tanks': so many are left at first, and with none left 5 is sent back.
pub four_and_200 : (ln at : ℕ) (s : List ℕ) → full s ≡ true → load_at ln at s ≡ entries ln 4 200 at s
unfolding load_at test ◌>>=◌ ◌>>◌
four_and_200 ln at s h = rw h

pub fifth_depth : (ln n at : ℕ) (body : List ℕ) → begun ln 0 n at body nested ≡ refused 5 ln at
unfolding begun test ◌>>=◌ ◌>>◌
fifth_depth ln n at body = refl

pub entry_201 : (ln d at : ℕ) (body : List ℕ) (k : Load) → eqb (length body) (size (entry k).fields) ≡ true → begun ln d 0 at body (load k) ≡ refused 5 ln at
unfolding begun fixed test ◌>>=◌ ◌>>◌
entry_201 ln d at body k h = rw h

-- 'At most 4,096 bytes.'
module _ (ln : ℕ) (h : Head) (alone : length h.rest ≡ 0) where
  pub bytes_4097 : 4_096 < length h.body → condition_in ln h ≡ refused 5 ln 0
  unfolding condition_in test ◌>>=◌ ◌>>◌
  bytes_4097 l = rw (alone, lt-leb (length h.body) 4_096 l)

  pub bytes_4096 : length h.body ≤ 4_096 → condition_in ln h ≡ inside ln h.body
  unfolding condition_in test ◌>>=◌ ◌>>◌
  bytes_4096 l = rw (alone, le-leb (length h.body) 4_096 l)

-- 'Up to 180,000 characters' (request 3).
pub characters_180001 : (t : List ℕ) → 180_000 < length t → read t ≡ refused 1 0 0
unfolding read test ◌>>=◌ ◌>>◌
characters_180001 t l = rw (lt-leb (length t) 180_000 l)

pub characters_180000 : (t : List ℕ) → length t ≤ 180_000 → read t ≡ (lines_from 1 t >>= read_frames)
unfolding read test ◌>>=◌ ◌>>◌
characters_180000 t l = rw (le-leb (length t) 180_000 l)

-- So of a booklet, whatever limit is asked for.
pub booklet_180001 : (most : ℕ) (t : List ℕ) → 180_000 < length t → counted_lines (limited most) t ≡ refused 1 0 0
unfolding counted_lines test ◌>>=◌ ◌>>◌
booklet_180001 most t l = rw (lt-leb (length t) (min most 180_000) (omega arith))

-- 'Up to 24 condition lines', 'a 25th condition line gives 5 there' (request 3): so many are left at first, each takes one, and with none left 5 is sent back.
pub conditions_24 : (most : ℕ) (t : List ℕ) → length t ≤ most → counted_lines most t ≡ (lines_from 1 t >>= λ ls. counted 1 24 ls >>= λ u. got ls)
unfolding counted_lines test ◌>>=◌ ◌>>◌
conditions_24 most t l = rw (le-leb (length t) most l)

module _ (ln : ℕ) (left : List ℕ) (ls : List (List ℕ)) where
  pub condition_24th : counted ln 1 ((0xA3 ∷ left) ∷ ls) ≡ counted (ln + 1) 0 ls
  unfolding counted test ◌>>=◌ ◌>>◌
  condition_24th = refl

  pub condition_25th : counted ln 0 ((0xA3 ∷ left) ∷ ls) ≡ refused 5 ln 0
  unfolding counted test ◌>>=◌ ◌>>◌
  condition_25th = refl

-- '8 now above 600,000.'
module _ (r : Reading) (floats : in_table r.rows (displacement (entries_of r)) ≡ true) where
  pub kg_600001 : 600_000 < corrected_kg (entries_of r) → weighed r ≡ refused 8 0 0
  unfolding weighed_in test ◌>>=◌ ◌>>◌
  kg_600001 l = rw (floats, lt-leb (corrected_kg (entries_of r)) 600_000 l)

  pub kg_600000 : corrected_kg (entries_of r) ≤ 600_000 → weighed r ≡ got tt
  unfolding weighed_in test ◌>>=◌ ◌>>◌
  kg_600000 l = rw (floats, le-leb (corrected_kg (entries_of r)) 600_000 l)
