-- `ship_in` meets its contract: alone on its line, its length, its limits: 3, 6.
use mathlib.Core.Path.{ap, sym, ◌∙◌}
use native.Mathlib.Omega.{arith}
use Rattle.std.specs.Prelude.{Ok}
use Rattle.rules.specs.Blocks.{size, ship}
use Rattle.rules.proofs.walk.FrameExits.{fixed_in_longer, fixed_in_length, fixed_in_outside, fixed_in_within}
use Rattle.book.specs.Book.{answered, plain_ship}
use Rattle.blocks.proofs.Limits.{told_within, told_outside}
use Rattle.blocks.proofs.ship.ship_in.Goals as goal

pub returns-then-not-fills_line : goal.returns-then-not-fills_line
unfolding size
returns-then-not-fills_line c = let i = c.args.frame.inside in grind (arith, fixed_in_longer, fixed_in_length)

pub returns-in_default : goal.returns-in_default
unfolding size
returns-in_default c =
    let f = c.args.frame in
    let o = told_outside ship plain_ship _ _ (rw c.body.ensures at c.read_ship.ensures) _ c.in_default.is in
    rw c.in_line-in_default.ensures (sym (ap (answered plain_ship) (fixed_in_outside _ 0xA1 _ f.bytes.now f.inside ship (grind arith) c.if-frame-ne13.false o)))

pub returns : goal.returns
unfolding size
returns c =
    let f = c.args.frame in
    let h = told_within ship plain_ship _ _ (rw c.body.ensures at c.read_ship.ensures) _ c.in-Ok.is in
    ap Ok h.1 ∙ sym (ap (answered plain_ship) (fixed_in_within _ 0xA1 _ f.bytes.now f.inside ship (grind arith) c.if-frame-ne13.false h.0))
