-- `all_pairs` meets its contract: those that are looked at, and the others.
use mathlib.Core.Path.{◌≡◌, ap, sym, ◌∙◌}
use Prim.Native.Nat.{◌+◌, ◌*◌}
use native.Mathlib.Omega.{arith}
use lib.ListN.{length, drop}
use Rattle.rules.proofs.layout.Parts.{part_end}
use Rattle.text.specs.Line.{decoded}
use Rattle.text.proofs.Decoded.{decoded_half, first_some, passed_rest, pairs_counted}
use Rattle.text.proofs.pairs.Digits.all_pairs.Goals as goal

pub overflow_mul-first : goal.overflow_mul-first
overflow_mul-first c = omega (arith, decoded_half c.args.text.now, first_some c.args.text.now c.args.first c.args.room c.requires)

pub slice_bounds-as_chunks-start : goal.slice_bounds-as_chunks-start
slice_bounds-as_chunks-start c = omega (arith, decoded_half c.args.text.now, first_some c.args.text.now c.args.first c.args.room c.requires)

pub slice_bounds-as_chunks-count : goal.slice_bounds-as_chunks-count
slice_bounds-as_chunks-count c = omega (arith, decoded_half c.args.text.now, first_some c.args.text.now c.args.first c.args.room c.requires)

pub overflow_add-result : goal.overflow_add-result
overflow_add-result c =
    let t = c.args.text.now in
    let f = c.args.first in
    let rest : c.pairs.result ≡ length (decoded (drop (2 * f) t)) = c.pairs.ensures ∙ rw (c.as_chunks.ensures.front, pairs_counted, part_end t (2 * f)) in
    omega (arith, rest, passed_rest f t (first_some t f c.args.room c.requires), decoded_half t)

pub returns : goal.returns
returns c =
    let t = c.args.text.now in
    let f = c.args.first in
    let rest : c.pairs.result ≡ length (decoded (drop (2 * f) t)) = c.pairs.ensures ∙ rw (c.as_chunks.ensures.front, pairs_counted, part_end t (2 * f)) in
    ap (f +◌) rest ∙ sym (passed_rest f t (first_some t f c.args.room c.requires))
