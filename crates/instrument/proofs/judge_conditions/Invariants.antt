-- `judge_conditions` meets its contract: what is left of the text, of the buffer and of the first fault comes to what the whole comes to.
use mathlib.Core.Path.{◌≡◌}
use Prim.Native.Nat.{◌+◌, ◌*◌}
use lib.ListN.{length}
use Rattle.rules.specs.Layout.{Booklet}
use Rattle.rules.specs.Report.{report_length}
use Rattle.frames.specs.Sizes.{condition_bytes}
use Rattle.instrument.specs.Sent.{Opens, number_sent}
use Rattle.instrument.proofs.Booklet.{Going}
use Rattle.instrument.proofs.judge_conditions.Given as goal

abbrev pub invariant-loop-k : goal.invariant-loop-k
invariant-loop-k l = (length l.bytes ≡ condition_bytes) × ((b : Booklet) × Opens b l.text l.front × (l.conditions ≡ length b.conditions) × Going b l.initial.report l.rest (2 + length l.rows + l.k) (report_length * l.k) (number_sent l.first) l.report)
