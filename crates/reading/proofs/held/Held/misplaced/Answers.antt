-- The head of a line, or the whole of it, which begins no block or one that may not stand there.
use Rattle.blocks.proofs.Heads.{head_short, head_block}
use Rattle.reading.proofs.Fronts.{front_whole, misplaced_long}
use Rattle.reading.proofs.held.Held.misplaced.Goals as goal

pub returns-then-self : goal.returns-then-self
returns-then-self c = λ l F. misplaced_long _ _ l F _ c.if-self.true _ c.too_long.ensures

pub returns-in_default : goal.returns-in_default
returns-in_default c = λ l F.
    let s = c.args.self in
    rw (← (front_whole _ _ l F c.if-self.false), head_short s.front.now c.header.result c.header.ensures c.in_default.is s.line 0, c.in_line.ensures)

pub returns : goal.returns
returns c = λ l F.
    let s = c.args.self in
    rw (← (front_whole _ _ l F c.if-self.false), (head_block s.front.now c.header.result c.header.ensures _ c.in-Some.is).1 s.line 0, c.in_line-2.ensures)
