-- `binary::put_figures` meets its contract: each figure stands in its own eight bytes, in order.
use Rattle.std.proofs.Common.{◌≡◌, ◌*◌, length, get_or, ℤ, pos, ◌∙◌, append-nil, arith, drop_of_length-le, w64, SFits, rules}
use mir.ValLaws.{to_z-of_z}
use Rattle.rules.specs.Numbers.{digits, twos}
use Rattle.rules.proofs.layout.Numbers.{length_digits}
use Rattle.report.proofs.Parts.{written_none, written_more, written_all}
use Rattle.report.proofs.binary.put_figures.Goals as goal

eight : (z : ℤ) → length (digits 8 (twos z)) ≡ 8
eight z = length_digits 8 (twos z)

pub loop-k-init : goal.loop-k-init
loop-k-init c = written_none (λ z. digits 8 (twos z)) 8 eight c.args.figures c.args.body.now

pub loop-k-preserved : goal.loop-k-preserved
loop-k-preserved c =
    let eleven : length c.args.figures ≡ 11 = search rules in
    let figure = get_or c.args.figures c.loop-k.k (pos 0) in
    let f : SFits w64 figure = record { sfits = search rules } in
    let z : c.put_figure.new.part ≡ digits 8 (twos figure) = simp (to_z-of_z w64 _ f) at c.put_figure.ensures in
    rw (c.loop-k.invariant, z) (written_more (λ z. digits 8 (twos z)) 8 eight c.args.figures c.args.body.now c.loop-k.k (pos 0) (omega arith))

pub returns : goal.returns
returns c =
    let eleven : length c.args.figures ≡ 11 = search rules in
    c.loop-k.invariant ∙ written_all _ 8 eight c.args.figures c.args.body.now c.loop-k.k (omega arith)
    ∙ rw (drop_of_length-le c.args.body.now {i = 8 * length c.args.figures} (omega arith), append-nil)
