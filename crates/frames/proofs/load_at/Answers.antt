-- `load_at` meets its contract: one entry is owed; the sums begin at nothing.
use mathlib.Core.Path.{ap, sym, ◌∙◌}
use native.Mathlib.Omega.{arith}
use lib.ListN.{length}
use borrow.Author.Tests.{eqb-true, eqb-false}
use Rattle.rules.proofs.walk.FrameExits.{load_none, load_some}
use Rattle.book.specs.Book.{answered}
use Rattle.frames.specs.Sums.{none}
use Rattle.frames.specs.FrameAnswers.{on_top}
use Rattle.frames.proofs.load_at.Goals as goal

pub returns-then-is_empty : goal.returns-then-is_empty
returns-then-is_empty c = rw c.in_line.ensures (sym (ap (answered (on_top none)) (load_none _ _ _ (eqb-true (length c.args.reader.src.now) 0 (sym c.is_empty.ensures ∙ c.if-is_empty.true)))))

pub returns : goal.returns
returns c =
    let n = eqb-false (length c.args.reader.src.now) 0 (sym c.is_empty.ensures ∙ c.if-is_empty.false) in
    c.entries.ensures.sums ∙ sym (ap (answered (on_top none)) (load_some _ _ c.args.reader.src.now (omega arith)))
