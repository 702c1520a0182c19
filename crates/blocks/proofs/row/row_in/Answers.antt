-- `row_in` meets its contract: alone on its line, its length, its limits, its W, its slips: 3, 6, 10.
use mathlib.Core.Path.{ap, sym, ◌∙◌}
use native.Mathlib.Omega.{arith}
use Rattle.rules.specs.Outcome.{got}
use Rattle.rules.specs.Blocks.{size, ok, row}
use Rattle.rules.proofs.walk.FrameExits.{fixed_in_longer, fixed_in_length, fixed_in_outside, fixed_in_within, row_refused, row_low, row_slip, row_got}
use Rattle.book.specs.Book.{row_of, answered, plain_row}
use Rattle.blocks.proofs.row.row_in.Goals as goal
use Rattle.blocks.proofs.row.row_in.Goals.{then-not-fills_line-via-then-not-fills_line, then-not-fills_line-via-else-not-fills_line+then-frame-ne34, then-not-row_fits-via-then-not-row_fits, then-not-row_fits-via-else-not-row_fits+then-row-last}

pub returns-then-not-fills_line : goal.returns-then-not-fills_line
unfolding size
returns-then-not-fills_line c = let f = c.args.frame in rw c.in_line.ensures (elim c.then-not-fills_line.branch [
  | then-not-fills_line-via-then-not-fills_line w ↦ sym (ap (answered plain_row) (row_refused _ _ _ (fixed_in_longer _ 0xA2 _ f.bytes.now f.inside row (grind arith))))
  | then-not-fills_line-via-else-not-fills_line+then-frame-ne34 w ↦ sym (ap (answered plain_row) (row_refused _ _ _ (fixed_in_length _ 0xA2 _ f.bytes.now f.inside row (grind arith) w.if-frame-ne34.true)))
])

pub returns-then-not-row_fits : goal.returns-then-not-row_fits
unfolding size
returns-then-not-row_fits c =
    let f = c.args.frame in
    let e = rw c.body.ensures at c.read_row-row.ensures in
    rw c.in_line-then-not-row_fits.ensures (elim c.then-not-row_fits.branch [
      | then-not-row_fits-via-then-not-row_fits w ↦
          sym (ap (answered plain_row) (row_refused _ _ _ (fixed_in_outside _ 0xA2 _ f.bytes.now f.inside row (grind arith) c.if-frame-ne34.false (ap (ok row) (sym e) ∙ sym c.row_fits.ensures ∙ w.if-not-row_fits.true))))
      | then-not-row_fits-via-else-not-row_fits+then-row-last w ↦
          let g = fixed_in_within _ 0xA2 _ f.bytes.now f.inside row (grind arith) c.if-frame-ne34.false (ap (ok row) (sym e) ∙ sym c.row_fits.ensures ∙ w.if-not-row_fits.false) in
          sym (ap (answered plain_row) (row_low _ _ _ (row_of c.read_row-row.result) (g ∙ ap got (sym e)) w.if-row-last.true))
    ])

pub returns-then-not-is_smooth : goal.returns-then-not-is_smooth
unfolding size
returns-then-not-is_smooth c =
    let f = c.args.frame in
    let e = rw c.body.ensures at c.read_row-row.ensures in
    let g = fixed_in_within _ 0xA2 _ f.bytes.now f.inside row (grind arith) c.if-frame-ne34.false (ap (ok row) (sym e) ∙ sym c.row_fits.ensures ∙ c.if-not-row_fits.false) in
    rw c.in_line-then-not-is_smooth.ensures (sym (ap (answered plain_row) (row_slip _ _ _ (row_of c.read_row-row.result) (g ∙ ap got (sym e)) c.if-row-last.false (sym c.is_smooth.ensures ∙ c.if-not-is_smooth.true))))

pub returns : goal.returns
unfolding size
returns c =
    let f = c.args.frame in
    let e = rw c.body.ensures at c.read_row-row.ensures in
    let g = fixed_in_within _ 0xA2 _ f.bytes.now f.inside row (grind arith) c.if-frame-ne34.false (ap (ok row) (sym e) ∙ sym c.row_fits.ensures ∙ c.if-not-row_fits.false) in
    sym (ap (answered plain_row) (row_got _ _ _ (row_of c.read_row-row.result) (g ∙ ap got (sym e)) c.if-row-last.false (sym c.is_smooth.ensures ∙ c.if-not-is_smooth.false)))
