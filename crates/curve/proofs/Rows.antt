-- The rows of a table, by number: the plain data and the rules speak of the same rows.
use mathlib.Core.Path.{◌≡◌, refl, ap, sym, ◌∙◌}
use mathlib.Core.Bool.{true, false, ◌&&◌}
use mathlib.Core.List.{List, [], ◌∷◌}
use Prim.Native.Nat.{ℕ, zero, suc, ◌-◌, ◌≤◌, ◌<◌}
use native.Mathlib.Omega.{arith}
use lib.Dec.{leb}
use lib.ListN.{length, get_or, length-map, get_or-map}
use borrow.Author.Tests.{leb-true}
use Rattle.std.proofs.lemmas.Bool.{ltb-true, ltb-false}
use Rattle.std.specs.Prelude.{Option, Some, None}
use Rattle.std.specs.Option.{unwrap_or}
use Rattle.std.specs.List.{position, position_or_len}
use Rattle.std.proofs.lemmas.Grind.{common_steps}
use Rattle.std.proofs.lemmas.List.Quantifiers.{position-Some}
use Rattle.std.proofs.lemmas.List.Sums.{fails_before_first}
use Rattle.rules.specs.Layout.{Rising}
use Rattle.rules.specs.Loading.{first_mass, last_mass, in_table}
use Rattle.rules.specs.Blocks as rules
use Rattle.rules.proofs.layout.Fields.{both_true}
use Rattle.book.specs.Book.{row_of, rows_of}
use Rattle.book.specs.declared.Row.{Row}
use Rattle.curve.specs.Weighing.{Whole}
use Rattle.curve.specs.Interpolation.{no_row, row_at, heavier, Around}

pub rows_long : (rows : List Row) → length (rows_of rows) ≡ length rows
unfolding rows_of
rows_long rows = length-map rows row_of

pub row_at_lem : (rows : List Row) (i : ℕ) → get_or (rows_of rows) i (row_of no_row) ≡ row_of (row_at rows i)
unfolding rows_of
row_at_lem rows i = get_or-map row_of rows i no_row

-- ---- the first and the last
first_at : (rows : List rules.Row) → first_mass rows ≡ (get_or rows 0 (row_of no_row)).mass
unfolding first_mass
first_at [] = refl
first_at (r ∷ rows) = refl

last_at : (rows : List rules.Row) → last_mass rows ≡ (get_or rows (length rows - 1) (row_of no_row)).mass
unfolding last_mass
last_at [] = refl
last_at (r ∷ []) = refl
last_at (r ∷ s ∷ rows) = let e : suc (suc (length rows)) - 1 ≡ suc (length rows) = omega arith in let f : suc (length rows) - 1 ≡ length rows = omega arith in rw e (rw f at (last_at (s ∷ rows)))

pub in_table_at : (rows : List Row) (w : ℕ) → in_table (rows_of rows) w ≡ leb (row_at rows 0).mass w && leb w (row_at rows (length rows - 1)).mass
unfolding in_table
in_table_at rows w =
    let a : first_mass (rows_of rows) ≡ (row_at rows 0).mass = first_at (rows_of rows) ∙ ap (λ (r : rules.Row). r.mass) (row_at_lem rows 0) in
    let b : last_mass (rows_of rows) ≡ (row_at rows (length rows - 1)).mass =
    last_at (rows_of rows) ∙ ap (λ (n : ℕ). (get_or (rows_of rows) (n - 1) (row_of no_row)).mass) (rows_long rows) ∙ ap (λ (r : rules.Row). r.mass) (row_at_lem rows (length rows - 1)) in
    rw (a, b)

-- A ship within the table has a weight: the first row does.
heavy : (rows : List rules.Row) (w : ℕ) → 0 < length rows → Rising 0 rows → in_table rows w ≡ true → 0 < w
unfolding in_table first_mass Rising
heavy [] w n h e = absurd (omega arith)
heavy (r ∷ rows) w n h e = omega (arith, h.1, leb-true r.mass w (both_true (leb r.mass w) (leb w (last_mass (r ∷ rows))) e).0)

pub afloat : (rows : List Row) (w : ℕ) → Whole rows → in_table (rows_of rows) w ≡ true → 0 < w
afloat rows w whole = heavy (rows_of rows) w (omega (arith, rows_long rows, whole.few)) whole.rising

within_rows : (rows : List Row) (w : ℕ) → in_table (rows_of rows) w ≡ true → ((row_at rows 0).mass ≤ w) × (w ≤ (row_at rows (length rows - 1)).mass)
within_rows rows w e =
    let b = both_true (leb (row_at rows 0).mass w) (leb w (row_at rows (length rows - 1)).mass) (sym (in_table_at rows w) ∙ e) in
    (leb-true (row_at rows 0).mass w b.0, leb-true w (row_at rows (length rows - 1)).mass b.1)

-- ---- the two rows around W
module _ (rows : List Row) (w : ℕ) (whole : Whole rows) (e : in_table (rows_of rows) w ≡ true) where
  no_heavier : (k : ℕ) → heavier w (row_at rows k) ≡ false → (row_at rows k).mass ≤ w
  no_heavier k h = ltb-false w (row_at rows k).mass h

  -- The first row is not heavier than W.
  second : (i : ℕ) → w < (row_at rows i).mass → 1 ≤ i
  second zero h = absurd (omega (arith, (within_rows rows w e).0))
  second (suc i) h = omega arith

  -- The first that is, or the last.
  pub at_position : (o : Option ℕ) → o ≡ position (heavier w) rows → Around rows w (unwrap_or o (length rows - 1))
  at_position (Some i) p =
      let f = position-Some (heavier w) rows i no_row (sym p) in
      let h : w < (row_at rows i).mass = ltb-true w (row_at rows i).mass f.1 in
      record { first = second i h; last = f.0; from = no_heavier (i - 1) (f.2 (i - 1) (omega (arith, second i h))); to = omega arith }
  at_position None p =
      let n : length rows ≤ position_or_len (heavier w) rows = grind (arith, common_steps) in
      record {
        first = omega (arith, whole.few);
        last = omega (arith, whole.few);
        from = no_heavier (length rows - 1 - 1) (fails_before_first (heavier w) rows (length rows - 1 - 1) no_row (omega (arith, whole.few)));
        to = (within_rows rows w e).1;
      }
