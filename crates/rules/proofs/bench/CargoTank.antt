-- The planner's tank: a cargo tank filled to 98.5 %, as a C3 and as a C5. The two texts differ in the tag alone.
use mathlib.Core.Path.{◌≡◌, refl}
use mathlib.Core.List.{List, [], ◌∷◌, ◌++◌}
use Prim.Native.String.{String}
use native.Mathlib.Omega.{arith}
use Prim.Native.Nat.{ℕ}
use Rattle.rules.specs.Blocks.{Tank, TankKind, ordinary, cargo, item, tank}
use Rattle.rules.specs.Layout.{Entries, end, leaf, group, frames, spell_text}
use Rattle.rules.specs.Outcome.{got}
use Rattle.rules.specs.Walk.{read}
use Rattle.rules.specs.Loading.{flat, total, displacement, corrected_kg, corrected_kg_in}
use Rattle.rules.specs.Cargo.{MadeCargo, here, after_entry, in_group, RetaggedLines}
use Rattle.rules.specs.Answer.{answered_in, report_of}
use Rattle.rules.proofs.walk.WholeText.{sound}
use Rattle.rules.proofs.layout.Retagged.{frames_retagged}
use Rattle.rules.proofs.bench.Cases.{Case, judges, All, lines, broken}
use Rattle.rules.proofs.bench.Bench.{ship, row1, row2, P1-output}
use Rattle.rules.proofs.bench.Regrouped.{loaded_so}

-- P1's ship, rows and weather, an item of 700,000 kg at 3,100 mm, and a tank with this tag.
abbrev pub tanker : String → List ℕ
tanker tag = lines (ship ∷ row1 ∷ row2 ∷ []) ++ broken ("A30029C1000C000009C40FA002BC01F400C8C20006000AAE600C1C" ∷ tag ∷ "000E000AAE60132403D903200000015E" ∷ [])

abbrev pub the_tank : Tank
the_tank = record { mass = 700_000; centre = 4_900; fill = 985; density = 800; inertia = 350 }

abbrev pub tank_load : TankKind → Entries
tank_load k = leaf item (record { mass = 700_000; centre = 3_100 }) (leaf (tank k) the_tank end)

pub tanker_reads : (read (tanker "C3") ≡ got (loaded_so (tank_load ordinary))) × (read (tanker "C5") ≡ got (loaded_so (tank_load cargo)))
unfolding read
tanker_reads = (refl, refl)

-- As a C3 the tank is forgiven: 2,170 + 3,430 million by 1,400,000 make 4,000 mm. As a C5 it has its 1000 x 800 x 350, which make 200 mm more.
pub both_kgs : (corrected_kg (flat (tank_load ordinary)) ≡ 40_000) × (corrected_kg (flat (tank_load cargo)) ≡ 42_000)
unfolding flat total displacement corrected_kg_in
both_kgs = (refl, refl)

-- So as a C3 the report is P1's, with eight passes; as a C5 criteria 1 and 3 fail.
abbrev pub cargo_output : List ℕ
cargo_output = broken ("D1006500000000000001000101010101" ∷ "0000000000155CC0000000000000A4100000000000000BB8" ∷ "000002862E8F0C80000001925650F8400000041884E004C0" ∷ "00000002540BE400000000000000012C0000000000000045" ∷ "00000000000000CE000000F75A2B76C0" ∷ [])

abbrev pub planner : List Case
planner = judges (tanker "C3") P1-output ∷ judges (tanker "C5") cargo_output ∷ []

pub planner_holds : All planner
unfolding answered_in report_of
planner_holds = (refl, (refl, tt))

-- The two loads, and the two texts' lines, differ in that tank's kind and tag alone; and so do loads with a tank four groups deep.
pub planner_made : MadeCargo the_tank (tank_load ordinary) (tank_load cargo)
planner_made = after_entry item (record { mass = 700_000; centre = 3_100 }) (here end)

pub planner_retagged : RetaggedLines (frames (loaded_so (tank_load ordinary))) (frames (loaded_so (tank_load cargo))) × (spell_text (loaded_so (tank_load ordinary)) ≡ tanker "C3") × (spell_text (loaded_so (tank_load cargo)) ≡ tanker "C5")
planner_retagged = (frames_retagged (loaded_so (tank_load ordinary)) (tank_load cargo) (omega (arith, (sound (tanker "C3") _ tanker_reads.0).0.loaded.long)) planner_made, (sound (tanker "C3") _ tanker_reads.0).1, (sound (tanker "C5") _ tanker_reads.1).1)

abbrev deep : TankKind → Entries
deep k = group (group (group (group (leaf (tank k) the_tank end) end) end) end) end

pub deep_made : MadeCargo the_tank (deep ordinary) (deep cargo)
deep_made = in_group end (in_group end (in_group end (in_group end (here end))))
