-- The surveyor's drawing: a group of two tanks inside a group that ends behind its first tank. The inner group's length runs past its parent, and not past the line.
use mathlib.Core.Path.{◌≡◌, refl}
use mathlib.Core.List.{List, [], ◌∷◌, ◌++◌}
use Prim.Native.Nat.{ℕ, ◌-◌, ◌≤◌}
use native.Mathlib.Omega.{arith}
use lib.ListN.{length}
use Rattle.rules.specs.Blocks.{block, spell_values, within, ok, spell_block, Ship, Row, smooth, condition_tag, code, Weather, spell_weather, Tank, ordinary, tank, entry, group_tag}
use Rattle.rules.specs.Layout.{end, spell, leaves, Rising, NoSlips, most_depth, most_entries, most_characters}
use Rattle.rules.specs.Outcome.{refused, got}
use Rattle.rules.specs.Walk.{lines_from, read}
use Rattle.rules.specs.Met.{behind, nested_in, behind_rows, lead, Met, entry_block, Overruns}
use Rattle.rules.proofs.bench.Bench.{with}
use Rattle.rules.proofs.layout.Lines.{lines_sound}
use Rattle.rules.proofs.walk.Overrun.{none_pass, overrun}

-- As characters: the outer group has the length 0014, the inner one 0022, and behind the outer one the line goes on.
abbrev pub drawing : List ℕ
drawing = with "A30037C1000C000009C40FA002BC01F400C8C40014C40022C3000E000AAE600FA001F4040100000064C3000E000AAE600FA001F4040100000064"

-- As the layout has it.
abbrev pub hull : Ship
hull = record { hull_length = 50_000; breadth = 10_000; keel_area = 0; bilge = 0 }

abbrev levers : List ℕ
levers = 0 ∷ 393 ∷ 783 ∷ 1175 ∷ 1568 ∷ 1930 ∷ 2300 ∷ 2594 ∷ 2821 ∷ 2978 ∷ 3164 ∷ 3277 ∷ 3400 ∷ []

abbrev pub rows : List Row
rows = record { mass = 1_400_000; draught = 4_000; km = 4_500; kn = levers } ∷ record { mass = 1_600_000; draught = 4_400; km = 4_500; kn = levers } ∷ []

abbrev pub sky : Weather
sky = record { set = code; sky = record { wind_area = 2_500; z = 4_000; cb = 700; flooding = 500; deck_edge = 200 } }

abbrev a_tank : Tank
a_tank = record { mass = 700_000; centre = 4_000; fill = 500; density = 1_025; inertia = 100 }

-- What the outer group holds: the inner group's head, and one tank.
abbrev held : List ℕ
held = group_tag ∷ 0 ∷ 34 ∷ spell_block (entry (tank ordinary)) a_tank

abbrev drawn : List (List ℕ)
drawn = lead hull rows (block condition_tag (spell_weather sky ++ (block group_tag held ++ spell_block (entry (tank ordinary)) a_tank)) ∷ [])

drawn_is : lines_from 1 drawing ≡ got drawn
unfolding read block spell_block spell_values behind_rows
drawn_is = refl

-- The inner group is met at line 4 and offset 21, and 20 bytes of its parent are left.
drawn_met : Met drawn 4 21 held
unfolding block spell_block spell_values spell leaves Rising NoSlips ok within smooth
drawn_met =
    entry_block hull rows sky (block group_tag held ++ spell_block (entry (tank ordinary)) a_tank) [] (record { hull = refl; rising = (refl, omega arith, (refl, omega arith, tt)); no_slips = (refl, (refl, tt)); many = omega arith }) (omega arith) refl (omega arith)
    (nested_in end held (spell_block (entry (tank ordinary)) a_tank) (none_pass most_depth most_entries) (omega arith) (behind end held (none_pass (most_depth - 1) most_entries)))

drawn_overruns : Overruns held
unfolding block spell_block spell_values
drawn_overruns = omega arith

drawn_short : length drawing ≤ most_characters
drawn_short = omega arith

-- The drawing is refused with 2, at the inner group.
pub drawing_refused : read drawing ≡ refused 2 4 21
drawing_refused =
    let l = lines_sound 1 drawing drawn drawn_is in
    rw l.0 at (overrun drawn l.1 (rw l.0 drawn_short) drawn_met drawn_overruns)
