-- `room` meets its contract: 209 bytes, or 209 for each condition line.
use native.Mathlib.Omega.{arith}
use Rattle.rules.specs.Layout.{most_characters}
use Rattle.instrument.proofs.Rooms.{few_conditions, room_is}
use Rattle.instrument.proofs.room.Goals as goal

pub overflow_mul-result : goal.overflow_mul-result
overflow_mul-result c = omega (arith, c.max.ensures, few_conditions most_characters c.args.text.now c.read_text-read.result c.read_text-read.ensures)

pub returns : goal.returns
returns c = omega (arith, c.max.ensures, room_is most_characters c.args.text.now c.read_text-read.result c.read_text-read.ensures)
