-- In a booklet every block lies inside its parent: the frames of ship and rows fill their lines, and each condition that is read fills its own.
use mathlib.Core.Path.{◌≡◌, ap, sym, ◌∙◌}
use mathlib.Core.List.{List, [], ◌∷◌}
use Prim.Native.Nat.{ℕ, ◌<◌}
use native.Mathlib.Omega.{arith}
use lib.ListN.{length}
use Rattle.rules.specs.Blocks.{ship, Row, row}
use Rattle.rules.specs.Layout.{Condition, Rising, Booklet}
use Rattle.rules.specs.Outcome.{got}
use Rattle.rules.specs.Walk.{lines_from}
use Rattle.rules.specs.Met.{behind_rows, lead}
use Rattle.rules.specs.Places.{FramesFill, ConditionFills}
use Rattle.rules.specs.Booklet.{read_whole, condition_at}
use Rattle.rules.specs.Apart.{BeginA3, lines_of, spell_booklet, line_at}
use Rattle.rules.proofs.layout.Fields.{ship_lawful, row_lawful}
use Rattle.rules.proofs.layout.Lines.{lines_got}
use Rattle.rules.proofs.layout.InsideParent.{fixed_fills, condition_fills}
use Rattle.rules.proofs.booklet.Frames.{framed, Lines-booklet}
use Rattle.rules.proofs.booklet.WholeText.{sound}
use Rattle.rules.proofs.booklet.Conditions.{condition_sound}
use Rattle.rules.proofs.booklet.Alone.{begin_at}

rows_fill : (vs : List Row) (p : ℕ) → Rising p vs → FramesFill (behind_rows vs [])
unfolding behind_rows Rising FramesFill
rows_fill [] p R = tt
rows_fill (v ∷ vs) p R = (fixed_fills row row_lawful v R.0, rows_fill vs v.mass R.2)

module _ (most : ℕ) (t : List ℕ) (b : Booklet) (e : read_whole most t ≡ got b) where
  pub lines_of_booklet : lines_from 1 t ≡ got (lines_of b)
  unfolding spell_booklet
  lines_of_booklet = let s = sound most t b e in ap (lines_from 1) (sym s.1) ∙ lines_got (lines_of b) 1 (Lines-booklet b (framed s.0))

  pub front_fills : FramesFill (lead b.ship b.rows [])
  unfolding FramesFill
  front_fills = let w = (sound most t b e).0 in (fixed_fills ship ship_lawful b.ship w.hull, rows_fill b.rows 0 w.rising)

  pub line_fills : (k : ℕ) → k < length b.conditions → (ln : ℕ) (c : Condition) → condition_at ln (line_at b k) ≡ got c → ConditionFills (line_at b k) c
  unfolding BeginA3
  line_fills k h ln c q =
      let B = begin_at b.conditions k (sound most t b e).0.begin h in
      let s = condition_sound ln (line_at b k) c B.0 B.1 q in
      rw s.1 at (condition_fills c (omega (arith, s.0.long)))
