-- `row_frame` meets its contract: head, tag and rows so far, and then the row: 2, 4.
use mathlib.Core.Path.{ap, sym, ◌∙◌}
use Rattle.std.specs.Prelude.{Err}
use Rattle.book.specs.Book.{answered, plain_row}
use Rattle.blocks.proofs.Answered.{passed}
use Rattle.frames.proofs.Heads.{frame_refused, frame_begins}
use Rattle.frames.proofs.Exits.{row_short, row_due_lem, row_other}
use Rattle.frames.proofs.row_frame.Goals as goal

pub returns-in_err-frame : goal.returns-in_err-frame
returns-in_err-frame c =
    let h = frame_refused c.args.s _ _ c.frame_of.ensures.head _ c.in_err-frame.was in
    passed _ _ c.from_residual.ensures.1 ∙ ap Err h.0 ∙ sym (ap (answered plain_row) (row_short _ _ _ _ h.1))

pub returns-then-not-is : goal.returns-then-not-is
returns-then-not-is c =
    let h = frame_begins _ _ _ c.frame_of.ensures.head c.frame_of.ensures.of _ c.in_ok-frame.was in
    rw c.in_line.ensures (sym (ap (answered plain_row) (row_other _ _ _ _ _ _ h.1 _ c.is.ensures c.if-not-is.true)))

pub returns : goal.returns
returns c =
    let h = frame_begins _ _ _ c.frame_of.ensures.head c.frame_of.ensures.of _ c.in_ok-frame.was in
    rw (h.0.0, h.0.1) at c.row_in.ensures ∙ sym (ap (answered plain_row) (row_due_lem _ _ _ _ _ _ h.1 _ c.is.ensures c.if-not-is.false))
