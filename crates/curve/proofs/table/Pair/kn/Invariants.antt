-- `curve::table::Pair::kn` meets its contract: the stations passed are filled. Assumes nothing.
use mathlib.Core.Path.{◌≡◌}
use lib.ListN.{length, get_or}
use Rattle.curve.specs.Interpolation.{between}
use Rattle.curve.proofs.Filling.{Filled}
use Rattle.curve.proofs.table.Pair.kn.Given as goal

abbrev pub invariant-loop-i : goal.invariant-loop-i
invariant-loop-i l = (length l.kn ≡ 13) × Filled 0 (λ k. between l.self.lower l.self.upper (λ r. get_or r.kn k 0) l.self.w) l.i l.kn
