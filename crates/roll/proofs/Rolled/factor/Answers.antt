-- `roll::Rolled::factor` meets its contract: each factor is one of the rules, and no more than 1,000. Assumes nothing.
use native.Mathlib.Omega.{arith}
use Rattle.rules.specs.Roll.{x1, x2, p}
use Rattle.book.specs.Book.{loaded_of}
use Rattle.roll.proofs.Factors.{kx_to, kxx_to}
use Rattle.roll.proofs.Rolled.factor.Goals as goal

pub overflow_mul-keel : goal.overflow_mul-keel
unfolding x1
overflow_mul-keel c = rw (c.keel.ensures, c.table_up-x1.ensures, c.args.self.ratio) (omega (arith, kx_to (loaded_of c.args.self.c.now.loaded)))

pub overflow_mul-kx : goal.overflow_mul-kx
unfolding x1 x2
overflow_mul-kx c = rw (c.ceil-kx.ensures, c.keel.ensures, c.table_up-x1.ensures, c.table_up-x2.ensures, c.args.self.ratio) (omega (arith, kxx_to (loaded_of c.args.self.c.now.loaded)))

pub returns : goal.returns
unfolding p x1 x2
returns c = rw (c.ceil.ensures, c.ceil-kx.ensures, c.keel.ensures, c.table_up-x1.ensures, c.table_up-x2.ensures, c.args.self.ratio)
