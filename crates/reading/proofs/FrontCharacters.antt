-- The characters before the first condition line: what stands behind them is the condition lines.
use mathlib.Core.Path.{◌≡◌, refl, ap, sym, ◌∙◌}
use mathlib.Core.Bool.{true}
use mathlib.Core.List.{List, [], ◌∷◌, ◌++◌}
use Prim.Native.Nat.{ℕ, suc, ◌+◌, ◌*◌, ◌≤◌}
use native.Mathlib.Omega.{arith}
use lib.ListN.{length, drop, length-append}
use lib.Seq.{drop-append-add}
use Rattle.rules.specs.Text.{LF, hex, text}
use Rattle.rules.specs.Blocks.{Layout, size, ok, spell_block, Ship, ship, Row, row}
use Rattle.rules.specs.Layout.{Rising, Booklet}
use Rattle.rules.specs.Outcome.{got}
use Rattle.rules.specs.Walk.{lines_from}
use Rattle.rules.specs.Met.{behind_rows, lead}
use Rattle.rules.specs.Booklet.{read_whole}
use Rattle.rules.specs.Apart.{spell_booklet}
use Rattle.rules.proofs.layout.Fields.{Lawful, length_spell, ship_lawful, row_lawful}
use Rattle.rules.proofs.layout.Lines.{length_hex, lines_got}
use Rattle.rules.proofs.walk.Heads.{length_alone}
use Rattle.rules.proofs.booklet.Frames.{Lines-begin}
use Rattle.rules.proofs.booklet.WholeText.{sound}
use Rattle.frames.specs.Sizes.{ship_bytes, row_bytes}
use Rattle.reading.specs.TextAnswers.{line_characters, front_characters}

-- Behind a line of so many characters stands what stands behind it.
behind_line : (l t : List ℕ) (n m : ℕ) → 2 * length l + 1 ≡ n → drop (n + m) (hex l ++ (LF ∷ t)) ≡ drop m t
behind_line l t n m e =
    let h = length_hex l in
    let k : n + m ≡ length (hex l) + suc m = omega arith in
    ap (λ i. drop i (hex l ++ (LF ∷ t))) k ∙ drop-append-add (hex l) (LF ∷ t) (suc m)

-- The characters of a block of fixed size.
fixed_line : {A : Type 0} (L : Layout A) (W : Lawful L) (a : A) → ok L a ≡ true → length (spell_block L a) ≡ 3 + size L.fields
unfolding spell_block
fixed_line L W a e = length_alone L.tag _ ∙ ap (3 +◌) (length_spell L W a e)

behind_rows_lem : (vs : List Row) (cs : List (List ℕ)) (p : ℕ) → Rising p vs → drop (line_characters row_bytes * length vs) (text (behind_rows vs cs)) ≡ text cs
unfolding behind_rows text Rising row_bytes
behind_rows_lem [] cs p R = refl
behind_rows_lem (v ∷ vs) cs p R =
    let l = fixed_line row row_lawful v R.0 in
    let k : line_characters row_bytes * suc (length vs) ≡ line_characters row_bytes + line_characters row_bytes * length vs = omega arith in
    ap (λ n. drop n (text (behind_rows (v ∷ vs) cs))) k ∙ behind_line (spell_block row v) (text (behind_rows vs cs)) (line_characters row_bytes) (line_characters row_bytes * length vs) (omega arith) ∙ behind_rows_lem vs cs v.mass R.2

behind_front : (s : Ship) (vs : List Row) (cs : List (List ℕ)) → ok ship s ≡ true → Rising 0 vs → drop (front_characters (length vs)) (text (lead s vs cs)) ≡ text cs
unfolding text ship_bytes
behind_front s vs cs e R = let l = fixed_line ship ship_lawful s e in behind_line (spell_block ship s) (text (behind_rows vs cs)) (line_characters ship_bytes) (line_characters row_bytes * length vs) (omega arith) ∙ behind_rows_lem vs cs 0 R

front_long : (vs : List Row) (cs : List (List ℕ)) (p : ℕ) → Rising p vs → line_characters row_bytes * length vs ≤ length (text (behind_rows vs cs))
unfolding behind_rows text Rising row_bytes
front_long [] cs p R = omega arith
front_long (v ∷ vs) cs p R =
    let l = fixed_line row row_lawful v R.0 in
    let h = length_hex (spell_block row v) in
    let a = length-append (hex (spell_block row v)) (LF ∷ text (behind_rows vs cs)) in
    let r = front_long vs cs v.mass R.2 in
    omega arith

module _ (most : ℕ) (t : List ℕ) (b : Booklet) (e : read_whole most t ≡ got b) where
  pub conditions_behind : lines_from (2 + length b.rows) (drop (front_characters (length b.rows)) t) ≡ got b.conditions
  unfolding spell_booklet
  conditions_behind =
      let s = sound most t b e in
      let w = s.0 in
      ap (λ x. lines_from (2 + length b.rows) (drop (front_characters (length b.rows)) x)) (sym s.1)
      ∙ ap (lines_from (2 + length b.rows)) (behind_front b.ship b.rows b.conditions w.hull w.rising)
      ∙ lines_got b.conditions (2 + length b.rows) (Lines-begin b.conditions w.begin)

  pub front_within : front_characters (length b.rows) ≤ length t
  unfolding spell_booklet text ship_bytes
  front_within =
      let s = sound most t b e in
      let w = s.0 in
      let l = fixed_line ship ship_lawful b.ship w.hull in
      let h = length_hex (spell_block ship b.ship) in
      let a = length-append (hex (spell_block ship b.ship)) (LF ∷ text (behind_rows b.rows b.conditions)) in
      let r = front_long b.rows b.conditions 0 w.rising in
      let q = ap length s.1 in
      omega arith
