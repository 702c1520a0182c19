-- `curve::table::loaded` meets its contract: the straight line of the table is that of the two rows around W. Assumes nothing.
use Rattle.curve.proofs.Interpolation.{neighbours, loaded_is}
use Rattle.curve.proofs.Limits.{draught_small, km_small}
use Rattle.curve.proofs.table.loaded.Goals as goal

pub invariant_of-pair : goal.invariant_of-pair
invariant_of-pair c = record { neighbours = neighbours _ c.requires.0 _ _ c.around-second.ensures }

pub between-draught-requires : goal.between-draught-requires
between-draught-requires c =
    let n = neighbours _ c.requires.0 _ _ c.around-second.ensures in (draught_small _ n.lower, draught_small _ n.upper)

pub between-km-requires : goal.between-km-requires
between-km-requires c =
    let n = neighbours _ c.requires.0 _ _ c.around-second.ensures in (km_small _ n.lower, km_small _ n.upper)

pub returns : goal.returns
returns c =
    loaded_is _ c.requires.0 _ _ c.around-second.ensures c.args.ship c.args.weather c.args.weight.kg _ _ _ c.between-draught.ensures c.between-km.ensures c.kn-kn.ensures
