-- The rows as they were, the new one, and blank places.
use mathlib.Core.Path.{ap, ◌∙◌}
use native.Mathlib.Omega.{arith}
use Prim.Native.Nat.{◌<◌}
use lib.ListN.{length, length-set}
use lib.Seq.{length-take-le}
use Rattle.rules.specs.Layout.{most_rows}
use Rattle.book.proofs.Tables.{filled_more}
use Rattle.book.proofs.table.Table.push.Goals as goal

pub invariant_of-self : goal.invariant_of-self
invariant_of-self c =
    let t = c.self.inside in
    let i = c.self.invariant in
    let few : t.count < most_rows = omega (arith, c.requires, ap length c.self.view_is, length-take-le t.count t.rows (omega (arith, i.0, i.1))) in
    (omega (arith, few), length-set t.rows t.count c.args.row ∙ i.1, filled_more t.rows t.count c.args.row (omega (arith, few, i.1)) few i.2)
