-- Two characters to a byte, so that the line's end lies within the text.
use mathlib.Core.Path.{◌∙◌}
use native.Mathlib.Omega.{arith}
use Rattle.text.proofs.Decoded.{decoded_half, same_room}
use Rattle.text.proofs.Ended.{line_ended}
use Rattle.text.proofs.line_at.Goals as goal

pub all_pairs-n-requires : goal.all_pairs-n-requires
all_pairs-n-requires c = same_room _ _ _ _ c.decode-first.ensures

pub overflow_mul-n : goal.overflow_mul-n
overflow_mul-n c = omega (arith, c.all_pairs-n.ensures, decoded_half c.args.text.now)

pub slice_bounds-ends-start : goal.slice_bounds-ends-start
slice_bounds-ends-start c = omega (arith, c.all_pairs-n.ensures, decoded_half c.args.text.now)

pub slice_bounds-ends-count : goal.slice_bounds-ends-count
slice_bounds-ends-count c = omega (arith, c.all_pairs-n.ensures, decoded_half c.args.text.now)

pub returns : goal.returns
returns c =
    (c.ends.ensures ∙ line_ended _ c.all_pairs-n.result c.all_pairs-n.ensures, c.decode-first.ensures.1)
