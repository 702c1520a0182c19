-- `curve::Curve::of` meets its contract: y at each tenth is that of the ship, and so are the areas under it. Assumes nothing.
use Rattle.book.specs.Book.{loaded_of}
use Rattle.curve.proofs.Curves.{fair_sized, levers_held, areas_held}
use Rattle.curve.proofs.Sizes.{curve_within}
use Rattle.curve.proofs.tenths.Curve.of.Goals as goal

pub curve-requires : goal.curve-requires
curve-requires c = fair_sized _ c.args.ship.now.fair

pub areas-requires : goal.areas-requires
areas-requires c = curve_within _ _ (fair_sized _ c.args.ship.now.fair) _ c.curve.ensures

pub invariant_of-result : goal.invariant_of-result
invariant_of-result c =
    let ship = loaded_of c.args.ship.now.loaded in
    let y = levers_held ship c.curve.ensures in
    record { levers = y; areas = areas_held ship y c.areas.ensures }
