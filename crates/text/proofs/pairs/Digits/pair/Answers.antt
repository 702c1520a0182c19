-- The table has the value of each character, and a digit's is below 16.
use borrow.Author.Tests.{lt-ltb, le-ltb}
use native.Mathlib.Omega.{arith}
use Rattle.text.specs.Line.{pair_of}
use Rattle.text.proofs.pairs.Digits.pair.Goals as goal

pub returns-then-h-gt15 : goal.returns-then-h-gt15
unfolding pair_of
returns-then-h-gt15 c =
    let d = c.args.self.now.all in
    rw (← (d.each c.args.a (omega arith)), ← c.from.ensures, lt-ltb 15 _ c.if-h-gt15.true)

pub returns-then-l-gt15 : goal.returns-then-l-gt15
unfolding pair_of
returns-then-l-gt15 c =
    let d = c.args.self.now.all in
    rw (← (d.each c.args.a (omega arith)), ← (d.each c.args.b (omega arith)), ← c.from.ensures, ← c.from-2.ensures, le-ltb 15 _ c.if-h-gt15.false, lt-ltb 15 _ c.if-l-gt15.true)

pub returns : goal.returns
unfolding pair_of
returns c =
    let d = c.args.self.now.all in
    rw (← (d.each c.args.a (omega arith)), ← (d.each c.args.b (omega arith)), ← c.from.ensures, ← c.from-2.ensures, le-ltb 15 _ c.if-h-gt15.false, le-ltb 15 _ c.if-l-gt15.false)
