-- `leaf` meets its contract: length, room and values, in that order: 3, 5, 6.
use mathlib.Core.Path.{ap, sym, ◌∙◌}
use native.Mathlib.Omega.{arith}
use Rattle.book.specs.Book.{answered}
use Rattle.blocks.specs.BlockAnswers.{load_of, plain_block}
use Rattle.blocks.proofs.Leaves.{leaf_length, leaf_full, leaf_outside, leaf_within}
use Rattle.blocks.proofs.entries.leaf.Goals as goal

pub returns-then-body-size : goal.returns-then-body-size
returns-then-body-size c =
    rw c.at.ensures (sym (ap (answered plain_block) (leaf_length (load_of c.args.kind) _ _ c.args.left c.args.body.now (λ e. c.if-body-size.true (e ∙ sym c.size.ensures)))))

pub returns-then-left-eq0 : goal.returns-then-left-eq0
returns-then-left-eq0 c =
    rw c.at-then-left-eq0.ensures (sym (ap (answered plain_block) (leaf_full (load_of c.args.kind) _ _ c.args.left c.args.body.now (c.if-body-size.false ∙ c.size.ensures) c.if-left-eq0.true)))

pub returns-then-not-fits : goal.returns-then-not-fits
returns-then-not-fits c =
    rw c.at-then-not-fits.ensures
    (sym (ap (answered plain_block) (leaf_outside (load_of c.args.kind) _ _ c.args.left c.args.body.now (c.if-body-size.false ∙ c.size.ensures) (omega arith) (sym (c.fits.ensures _ _ c.read-load.ensures) ∙ c.if-not-fits.true))))

pub sums-requires : goal.sums-requires
sums-requires c = record { kind = load_of c.args.kind; values = _; is = c.read-load.ensures; ok = sym (c.fits.ensures _ _ c.read-load.ensures) ∙ c.if-not-fits.false }

pub returns : goal.returns
returns c =
    rw (c.sums.ensures (load_of c.args.kind) _ c.read-load.ensures)
    (sym (ap (answered plain_block) (leaf_within (load_of c.args.kind) _ _ c.args.left c.args.body.now (c.if-body-size.false ∙ c.size.ensures) (omega arith) (sym (c.fits.ensures _ _ c.read-load.ensures) ∙ c.if-not-fits.false))))
