-- `levers_fit` meets its contract: the first is 0, and the others are within their limits.
use mathlib.Core.Path.{ap, sym, ◌∙◌}
use mathlib.Core.Bool.{◌&&◌}
use Rattle.std.proofs.Common.{rules, arith, tests, ◌≡◌}
use Rattle.std.proofs.lemmas.Iterator.{YieldsList-from_slice}
use Rattle.std.proofs.lemmas.Iterator.Search.{all_from_yields_List}
use lib.ListN.{length, get_or}
use lib.Dec.{leb}
use borrow.Author.Tests.{eq-eqb, ne_eqb}
use Rattle.std.specs.List.{list_all}
use Rattle.blocks.proofs.Stations.{levers_within}
use Rattle.blocks.proofs.row.levers_fit.Goals as goal

pub returns-then-kn-eq0 : goal.returns-then-kn-eq0
returns-then-kn-eq0 c =
    let kn = c.args.kn in
    let h : length kn ≡ 13 = omega (arith, c.well_formed) in
    all_from_yields_List (λ x. leb x 30_000) _ _ _ c.all.ensures.ran (YieldsList-from_slice kn cc) (λ x b q k. search (rules, tests))
    ∙ sym (levers_within kn h ∙ ap (λ b. b && list_all (λ x. leb x 30_000) kn) (eq-eqb (get_or kn 0 0) 0 c.if-kn-eq0.true))

pub returns-else-kn-eq0 : goal.returns-else-kn-eq0
returns-else-kn-eq0 c =
    let kn = c.args.kn in
    let h : length kn ≡ 13 = omega (arith, c.well_formed) in
    let n = ne_eqb (get_or kn 0 0) 0 c.if-kn-eq0.false in
    n ∙ sym (levers_within kn h ∙ ap (λ b. b && list_all (λ x. leb x 30_000) kn) n)
