-- KG in tenths of a millimetre against millimetres, 'half a millimetre too much' (request 5): which slots keep a pass, and two texts that are judged otherwise.
use Rattle.std.specs.Prelude.{◌≡◌, List, [], ◌∷◌, ℕ, ◌≤◌}
use Rattle.rules.specs.Curve.{Loaded}
use Rattle.rules.specs.Columns.{slot_of}
use Rattle.rules.specs.Report.{pass, judgement}
use Rattle.rules.proofs.bench.Cases.{lines}

-- From one ship that is judged to another, each slot from 1 to 7 that reads pass reads pass still.
abbrev pub KeepsSeven : Loaded → Loaded → Type 0
KeepsSeven c c' = (i : ℕ) → 1 ≤ i → i ≤ 7 → slot_of i (judgement c) ≡ pass → slot_of i (judgement c') ≡ pass

-- A ferry of 45 m at 900 t, which is a row of her table: light ship 690 t, vehicles 90 t, passengers 20 t, fuel and water 100 t. Her KG is 4,759.5 mm.
abbrev pub ferry : List ℕ
ferry = lines (
    "A1000D0000AFC800002AF80000032000"
    ∷ "A20022000C35000C1C152C000001D503A6056E071E08B40A310B970CDF0E070F0A0FE51097"
    ∷ "A20022000DBBA00D4814BE000001CF039B055D0709089A0A120B720CB60DDB0EDC0FB51066"
    ∷ "A20022000F42400E74146E000001C9038F054C06F3087F09F20B4C0C8C0DAE0EAD0F841034"
    ∷ "A30033C1000C000009600FA0023001C200B4C20006000A87501374C2000600015F9014AFC2000600004E201F40C20006000186A0083C"
    ∷ [])

-- A ship whose KG is a little above 4,673 mm: one kilogram of her lies a millimetre higher than the rest.
abbrev pub stiffer : List ℕ
stiffer = lines (
    "A1000D0001B83000002ACD0000004400"
    ∷ "A20022004855A90D2A14F4000001D303A10567071E08C40A530BC70D1F0E550F6710531117"
    ∷ "A200220049DC490D2A14F4000001D303A10567071E08C40A530BC70D1F0E550F6710531117"
    ∷ "A30021C1000C0000A53709B701FA01CE0258C20006004855A81241C20006000000011242"
    ∷ [])
