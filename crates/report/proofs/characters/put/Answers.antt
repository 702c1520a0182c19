-- `characters::put` meets its contract: each byte becomes its two digits, in their places.
use Rattle.std.proofs.Common.{◌≡◌, ℕ, [], ◌∷◌, length, refl, ◌∙◌, arith}
use Rattle.rules.specs.Text.{hex}
use Rattle.report.proofs.Parts.{hex_parts, written_none, written_more, written_all}
use Rattle.report.proofs.characters.put.Goals as goal

pair : (b : ℕ) → length (hex (b ∷ [])) ≡ 2
unfolding hex
pair b = refl

pub loop-k-init : goal.loop-k-init
loop-k-init c = written_none (λ b. hex (b ∷ [])) 2 pair c.args.bytes.now c.args.out.now

pub loop-k-preserved : goal.loop-k-preserved
loop-k-preserved c =
    let z = c.put_byte.ensures in
    rw (c.loop-k.invariant, z) (written_more (λ b. hex (b ∷ [])) 2 pair c.args.bytes.now c.args.out.now c.loop-k.k 0 (omega arith))

pub returns : goal.returns
returns c =
    c.loop-k.invariant ∙ written_all _ 2 pair c.args.bytes.now c.args.out.now c.loop-k.k (omega arith)
    ∙ rw (hex_parts c.args.bytes.now)
