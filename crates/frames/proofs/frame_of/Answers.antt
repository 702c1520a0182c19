-- `frame_of` meets its contract: a head that is read lies inside its line.
use mathlib.Core.Path.{ap, sym, ◌∙◌}
use Rattle.std.specs.Result.{result_map_both}
use Rattle.blocks.proofs.Answered.{passed}
use Rattle.cursor.proofs.Heads.{begins_block}
use Rattle.frames.proofs.frame_of.Goals as goal

pub invariant_of-result : goal.invariant_of-result
invariant_of-result c = record { inside = (begins_block c.args.s.now _ _ _ (rw (c.new.ensures.0, c.new.ensures.1) at c.begins.ensures) _ c.in_ok-head.was).0 }

pub returns-in_err-head-clause-head : goal.returns-in_err-head-clause-head
returns-in_err-head-clause-head c = ap (result_map_both (λ f. f.head) (λ r. r)) (passed _ _ c.from_residual.ensures.1) ∙ sym c.in_err-head.was ∙ rw (c.new.ensures.0, c.new.ensures.1) at c.begins.ensures

pub returns-clause-head : goal.returns-clause-head
returns-clause-head c = sym c.in_ok-head.was ∙ rw (c.new.ensures.0, c.new.ensures.1) at c.begins.ensures
