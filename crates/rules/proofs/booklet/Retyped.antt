-- A text that is read, with one KN value of one row typed anew and far off: the whole text is refused with 10 at that row.
use mathlib.Core.Path.{◌≡◌, refl, ap, sym, ◌∙◌}
use mathlib.Core.Bool.{true, false}
use mathlib.Core.List.{List, [], ◌∷◌}
use Prim.Native.Nat.{ℕ, zero, suc, ◌+◌, ◌≤◌, ◌<◌}
use native.Mathlib.Omega.{arith}
use lib.Dec.{eqb}
use lib.ListN.{length, get_or, set, replicate, get_or-replicate, length-append}
use Rattle.rules.specs.Numbers.{full, Bytes}
use Rattle.rules.specs.Text.{LF, hex, text, Lines}
use Rattle.rules.specs.Blocks.{field, size, block, spell_values, ok, spell_block, ship, Row, row, smooth, condition_tag}
use Rattle.rules.specs.Layout.{Rising, NoSlips, is_condition, condition_lines, most_rows, Booklet}
use Rattle.rules.specs.Outcome.{refused, got}
use Rattle.rules.specs.Met.{behind_rows}
use Rattle.rules.specs.Booklet.{behind_ship, book_frames, read_whole}
use Rattle.rules.specs.Apart.{lines_of, spell_booklet, LinesWithin}
use Rattle.rules.specs.Mistyped.{kn_value, FarOff, absent_row, nth_row, retyped, retyped_in}
use Rattle.rules.proofs.layout.Fields.{both_true, within_set, row_lawful, length_spell}
use Rattle.rules.proofs.layout.Lines.{length_hex}
use Rattle.rules.proofs.layout.Rows.{nth_ok, nth_smooth}
use Rattle.rules.proofs.layout.Smooth.{unless_true, by_cases, not_both_smooth}
use Rattle.rules.proofs.walk.Outcome.{bind_got, bind_refused}
use Rattle.rules.proofs.walk.Heads.{length_alone, Bytes-fixed}
use Rattle.rules.proofs.walk.Frames.{ship_got}
use Rattle.rules.proofs.booklet.Counted.{behind_row}
use Rattle.rules.proofs.booklet.Frames.{row_got, row_slip, not_a3}
use Rattle.rules.proofs.booklet.WholeText.{sound, read_blocks, lines_within}

-- ---- lines with another in the place of one, as long and with the same tag
-- Line k of these, from 0; the other has bytes, as many and with the same first.
record Alike (l l' : List ℕ) : Type 0 where
  some : full l' ≡ true
  bytes : Bytes l'
  long : length l' ≡ length l
  tag : get_or l' 0 0 ≡ get_or l 0 0

module _ (l' : List ℕ) where
  lines_set : (ls : List (List ℕ)) (k : ℕ) → Alike (get_or ls k []) l' → Lines ls → Lines (set ls k l')
  unfolding Lines
  lines_set [] k A B = B
  lines_set (l ∷ ls) zero A B = (A.some, A.bytes, B.2)
  lines_set (l ∷ ls) (suc k) A B = (B.0, B.1, lines_set ls k A B.2)

  long_set : (ls : List (List ℕ)) (k : ℕ) → Alike (get_or ls k []) l' → length (text (set ls k l')) ≡ length (text ls)
  unfolding text
  long_set [] k A = refl
  long_set (l ∷ ls) zero A =
      let a = length-append (hex l') (LF ∷ text ls) in
      let b = length-append (hex l) (LF ∷ text ls) in
      omega (arith, length_hex l, length_hex l', A.long)
  long_set (l ∷ ls) (suc k) A =
      let a = length-append (hex l) (LF ∷ text (set ls k l')) in
      let b = length-append (hex l) (LF ∷ text ls) in
      omega (arith, long_set ls k A)

  count_set : (ls : List (List ℕ)) (k : ℕ) → Alike (get_or ls k []) l' → condition_lines (set ls k l') ≡ condition_lines ls
  unfolding condition_lines
  count_set [] k A = refl
  count_set (l ∷ ls) zero A = ap {B = ℕ} (λ t. elim (eqb t condition_tag) [ true ↦ suc (condition_lines ls) | false ↦ condition_lines ls ]) A.tag
  count_set (l ∷ ls) (suc k) A = ap {B = ℕ} (λ n. elim (is_condition l) [ true ↦ suc n | false ↦ n ]) (count_set ls k A)

  lines_kept : {most : ℕ} {t : List ℕ} {ls : List (List ℕ)} (k : ℕ) → Alike (get_or ls k []) l' → LinesWithin most t ls → LinesWithin most (text (set ls k l')) (set ls k l')
  lines_kept {most = most} {ls = ls} k A C = record {
    spells = refl;
    lines = lines_set ls k A C.lines;
    long = omega (arith, long_set ls k A, ap length C.spells, C.long);
    at_most = rw (count_set ls k A) C.at_most;
  }

rows_set : (vs : List Row) (cs : List (List ℕ)) (k : ℕ) (v : Row) → k < length vs → behind_rows (set vs k v) cs ≡ set (behind_rows vs cs) k (spell_block row v)
unfolding behind_rows
rows_set [] cs k v h = absurd (omega arith)
rows_set (u ∷ vs) cs zero v h = refl
rows_set (u ∷ vs) cs (suc k) v h = ap (spell_block row u ∷◌) (rows_set vs cs k v (omega arith))

row_line : (vs : List Row) (cs : List (List ℕ)) (k : ℕ) (d : Row) → k < length vs → get_or (behind_rows vs cs) k [] ≡ spell_block row (get_or vs k d)
unfolding behind_rows
row_line [] cs k d h = absurd (omega arith)
row_line (u ∷ vs) cs zero d h = refl
row_line (u ∷ vs) cs (suc k) d h = row_line vs cs k d (omega arith)

-- ---- a row with another value
retyped_ok : (v : Row) (i x : ℕ) → ok row v ≡ true → 1 ≤ i → i ≤ 12 → x ≤ 30_000 → ok row (retyped i x v) ≡ true
unfolding ok
retyped_ok v zero x e a b c = absurd (omega arith)
retyped_ok v (suc i) x e a b c =
    let f : get_or (replicate 12 (field 2 0 30_000)) i (field 2 0 30_000) ≡ field 2 0 30_000 = get_or-replicate 12 i (field 2 0 30_000) (field 2 0 30_000) (omega arith) in
    rw (within_set row.fields (row.listed v) (suc (suc (suc (suc i)))) x (field 2 0 30_000) (both_true _ _ e).0 (rw f (omega arith)) (rw f c))

-- Any two rows within their limits have lines that are alike.
lines_alike : (u v : Row) → ok row u ≡ true → ok row v ≡ true → Alike (spell_block row u) (spell_block row v)
unfolding spell_block block
lines_alike u v e e' = record { some = refl; bytes = Bytes-fixed row row_lawful v e'; long = row_long v e' ∙ sym (row_long u e); tag = refl }
  where
    row_long : (v : Row) → ok row v ≡ true → length (spell_block row v) ≡ 3 + size row.fields
    row_long v e = length_alone row.tag (spell_values row.fields (row.listed v)) ∙ ap (3 +◌) (length_spell row row_lawful v e)

-- ---- the blocks
behind_retyped : (vs : List Row) (cs : List (List ℕ)) (k ln n p : ℕ) (v : Row) → Rising p vs → NoSlips vs → k < length vs → n + length vs ≤ most_rows → v.mass ≡ (nth_row vs k).mass → ok row v ≡ true → smooth v.kn ≡ false
    → behind_ship (behind_rows (set vs k v) cs) ln n p ≡ refused 10 (ln + k) 0
unfolding behind_rows Rising NoSlips
behind_retyped [] cs k ln n p v R S h m w e s = absurd (omega arith)
behind_retyped (u ∷ vs) cs zero ln n p v R S h m w e s =
    behind_row (spell_block row v) (behind_rows vs cs) ln n p (not_a3 n v) ∙ bind_refused _ (row_slip ln n p v e (omega (arith, R.1)) s (omega arith)) ∙ ap (λ l. refused 10 l 0) (omega arith)
behind_retyped (u ∷ vs) cs (suc k) ln n p v R S h m w e s =
    behind_row (spell_block row u) (behind_rows (set vs k v) cs) ln n p (not_a3 n u) ∙ bind_got _ (row_got ln n p u (R.0, R.1, S.0) (omega arith))
    ∙ bind_refused _ (behind_retyped vs cs k (ln + 1) (n + 1) u.mass v R.2 S.1 (omega arith) (omega arith) w e s ∙ ap (λ l. refused 10 l 0) (omega arith))

-- ---- a whole text
far_within : {i x y : ℕ} → FarOff i x y → i ≤ 12
far_within f = by_cases f.1 (λ g. omega (arith, g.0)) (λ g. omega (arith, g.0))

module _ (most : ℕ) (t : List ℕ) (b : Booklet) (e : read_whole most t ≡ got b) where
  pub retyped_refused : (k i x : ℕ) → k < length b.rows → x ≤ 30_000 → FarOff i (kn_value (nth_row b.rows k).kn i) x → read_whole most (spell_booklet (retyped_in b k i x)) ≡ refused 10 (2 + k) 0
  unfolding spell_booklet book_frames
  retyped_refused k i x h d f =
      let w = (sound most t b e).0 in
      let u = nth_row b.rows k in
      let v = retyped i x u in
      let l = nth_ok b.rows w.rising k h in
      let n = nth_smooth b.rows w.rising w.no_slips k h in
      let o = retyped_ok u i x l f.0 (far_within f) d in
      let A : Alike (get_or (behind_rows b.rows b.conditions) k []) (spell_block row v) = rw (row_line b.rows b.conditions k absent_row h) (lines_alike u v l o) in
      let C = lines_kept (spell_block row v) (suc k) A (lines_within w) in
      let q : set (lines_of b) (suc k) (spell_block row v) ≡ lines_of (retyped_in b k i x) = ap (spell_block ship b.ship ∷◌) (sym (rows_set b.rows b.conditions k v h)) in
      read_blocks most (spell_booklet (retyped_in b k i x)) (lines_of (retyped_in b k i x)) (rw q at C)
      ∙ bind_got _ (ship_got 1 b.ship w.hull)
      ∙ bind_refused _ (behind_retyped b.rows b.conditions k 2 0 0 v w.rising w.no_slips h (omega (arith, w.many)) refl o (unless_true (smooth (set u.kn i x)) (λ p. not_both_smooth u.kn i x n.0 n.1 p f)))
