-- `condition_frame` meets its contract: head, and then the condition: 2.
use mathlib.Core.Path.{ap, sym, ◌∙◌}
use Rattle.std.specs.Prelude.{Err}
use Rattle.book.specs.Book.{answered}
use Rattle.blocks.proofs.Answered.{passed}
use Rattle.frames.specs.FrameAnswers.{plain_condition}
use Rattle.frames.proofs.Heads.{frame_refused, frame_begins}
use Rattle.frames.proofs.Exits.{condition_short, condition_in_lem}
use Rattle.frames.proofs.condition_frame.Goals as goal

pub returns-in_err-frame : goal.returns-in_err-frame
returns-in_err-frame c =
    let h = frame_refused c.args.s _ _ c.frame_of.ensures.head _ c.in_err-frame.was in
    passed _ _ c.from_residual.ensures.1 ∙ ap Err h.0 ∙ sym (ap (answered plain_condition) (condition_short _ _ h.1))

pub returns : goal.returns
returns c =
    let h = frame_begins _ _ _ c.frame_of.ensures.head c.frame_of.ensures.of _ c.in_ok-frame.was in
    rw (h.0.0, h.0.1) at c.condition_in.ensures ∙ sym (ap (answered plain_condition) (condition_in_lem _ _ _ _ h.1))
