-- Timber on deck: texts with a C1 and with a C6 in its place, P1's ship and rows. One passes in both sets, one by the Code alone, one as timber alone.
use mathlib.Core.Path.{refl}
use mathlib.Core.List.{List, [], ◌∷◌, ◌++◌}
use Prim.Native.String.{String}
use Prim.Native.Nat.{ℕ}
use Rattle.rules.specs.Answer.{answered_in, report_of}
use Rattle.rules.proofs.bench.Cases.{Case, judges, refuses, All, lines, broken, refusal}
use Rattle.rules.proofs.bench.Bench.{ship, row1, row2, with}

-- With this tag in C1's place: P1's condition.
abbrev condition : String → String → List ℕ
condition tag rest = lines (ship ∷ row1 ∷ row2 ∷ []) ++ broken ("A30018" ∷ tag ∷ rest ∷ [])

abbrev pub P1-in : String → List ℕ
P1-in tag = condition tag "000C000009C40FA002BC01F400C8C2000600155CC00FA0"

-- KG 4,101 mm, so that the greatest lever is 0.2495 m.
abbrev pub tender : String → List ℕ
tender tag = condition tag "000C000009C40FA002BC01F400C8C2000600155CC01005"

-- KG 3,900 mm, little wind, flooding from 29.9° on, the deck edge in the water at 0.1°.
abbrev pub coaster : String → List ℕ
coaster tag = condition tag "000C000001F40FA002BC012B0001C2000600155CC00F3C"

-- P1 as timber: the figures are P1's; 1, 2 and 5 read 4 and the others pass.
abbrev pub P1-timber_output : List ℕ
P1-timber_output = broken ("D1006500000000000404010104010101" ∷ "0000000000155CC00000000000009C400000000000001388" ∷ "000003EB682D58000000029CEC24FA000000068854525200" ∷ "000000037E11D600000000000000012C000000000000002A" ∷ "00000000000000EF000002CB91879B00" ∷ [])

-- By the Code all eight pass; as timber slot 4 fails, 12,475,000,000 being less than 12,500,000,000.
abbrev tender_figures : String → List ℕ
tender_figures verdicts = broken ("D100650000000000" ∷ verdicts ∷ "0000000000155CC0000000000000A0320000000000000F96" ∷ "00000337021EAF50000002164C0050280000054D4E1EFF78" ∷ "00000002E79164C0000000000000012C0000000000000035" ∷ "00000000000000E1000001BE0A86EAA6" ∷ [])

abbrev pub tender_output : List ℕ
tender_output = tender_figures "0101010101010101"

abbrev pub tender_timber_output : List ℕ
tender_timber_output = tender_figures "0404010004010101"

-- By the Code 2, 3, 4 and 7 fail, with no figure in slot 4; as timber all that are used pass, with the lever at 29.9° in slot 4.
abbrev coaster_figures : String → String → List ℕ
coaster_figures verdicts lever = broken ("D100650000000000" ∷ verdicts ∷ "0000000000155CC000000000000098580000000000001770" ∷ "00000495E2E3CC50000000000000000000000495E2E3CC50" ∷ lever ∷ "000000000000012B0000000000000008" ∷ "00000000000000F80000010AE2CF9E30" ∷ [])

abbrev pub coaster_output : List ℕ
coaster_output = coaster_figures "0100000001010001" "0000000000000000"

abbrev pub coaster_timber_output : List ℕ
coaster_timber_output = coaster_figures "0404010104010101" "000000040F03E270"

-- 'May stand in C1's place': not behind a C1, nor a C1 behind it. 'Tested as C1': another length, a deck edge of 0, no entry behind it.
abbrev pub timbers : List Case
timbers =
    judges (P1-in "C6") P1-timber_output
    ∷ judges (tender "C1") tender_output ∷ judges (tender "C6") tender_timber_output
    ∷ judges (coaster "C1") coaster_output ∷ judges (coaster "C6") coaster_timber_output
    ∷ refuses (with "A3001EC1000C000009C40FA002BC01F400C8C6000C000009C40FA002BC01F400C8") 4 4 18 (refusal "D100650400040012")
    ∷ refuses (with "A3001EC6000C000009C40FA002BC01F400C8C1000C000009C40FA002BC01F400C8") 4 4 18 (refusal "D100650400040012")
    ∷ refuses (with "A30017C6000B000009C40FA002BC01F400C2000600155CC00FA0") 3 4 3 (refusal "D100650300040003")
    ∷ refuses (with "A30018C6000C000009C40FA002BC01F40000C2000600155CC00FA0") 6 4 3 (refusal "D100650600040003")
    ∷ refuses (with "A3000FC6000C000009C40FA002BC01F400C8") 5 4 0 (refusal "D100650500040000")
    ∷ []

pub timbers_hold : All timbers
unfolding answered_in report_of
timbers_hold = (refl, (refl, (refl, (refl, (refl, ((refl, refl), ((refl, refl), ((refl, refl), ((refl, refl), ((refl, refl), tt))))))))))
