-- 'Slips the bench has met', roundings the wrong way, and ends that P1 does not meet: a text on which each shows, with the second program's report, as one list and one theorem.
-- (r rounded toward zero and a windward side of zero show in P8 and P6.)
use mathlib.Core.Path.{refl}
use mathlib.Core.List.{List, [], ◌∷◌}
use Rattle.rules.specs.Answer.{answered_in, report_of}
use Rattle.rules.proofs.bench.Cases.{Case, judges, refuses, All, lines, broken, refusal}
use Rattle.rules.proofs.bench.Bench.{ship, row1, with, P1-output}

abbrev pub slips : List Case
slips =
    -- KG rounded down, or not to tenths: it is 40,001 tenths where it is above 40,000 by a little.
    judges (with "A30021C1000C000009C40FA002BC01F400C8C2000600155CBF0FA0C20006000000010FA1")
    (broken ("D1006500000000000101010101010101" ∷ "0000000000155CC00000000000009C410000000000001387" ∷ "000003EB3A73CAE80000029CCA0582B40000068804794D9C" ∷ "000000037DEBB060000000000000012C000000000000002A" ∷ "00000000000000EF000002CB2BCACDC8" ∷ []))
    -- Ending the windward side at the flooding angle: it is 10 degrees, and the start 19.8 degrees to windward.
    ∷ judges (with "A30018C1000C000009C40FA002BC006400C8C2000600155CC00FA0")
    (broken ("D1006500000000000000000000010100" ∷ "0000000000155CC00000000000009C400000000000001388" ∷ "0000006718EFCC0000000000000000000000006718EFCC00" ∷ "00000000000000000000000000000064000000000000002A" ∷ "00000000000000EFFFFFFD3A39D0B900" ∷ []))
    -- Taking the last of equal greatest levers: with KG 0 and one KN from 20 degrees on, all are equal from there.
    ∷ judges (lines (ship ∷ "A2002200155CC00FA011940000019002BC038403E803E803E803E803E803E803E803E803E8" ∷ "A2002200186A00113011940000019002BC038403E803E803E803E803E803E803E803E803E8" ∷ "A30018C1000C000009C40FA002BC01F400C8C2000600155CC00000" ∷ []))
    (broken ("D1006500000000000101010100010102" ∷ "0000000000155CC00000000000000000000000000000AFC8" ∷ "00001476B081E800000009184E72A00000001D8EFEF48800" ∷ "0000000BA43B740000000000000000C80000000000000005" ∷ "00000000000000000000000000000000" ∷ []))
    -- Testing a group's length against the line and not against its parent: the item runs past its group, which the line has room for.
    ∷ refuses (with "A3001BC1000C000009C40FA002BC01F400C8C40008C2000600155CC00FA0") 2 4 21 (refusal "D100650200040015")
    -- Letting lw2 be 1.5 times an unrounded lw1: 36.3 is 37, and 55.5 is 56, as in P1; 54.4 would be 55.
    ∷ judges (with "A30018C1000C000009A60FA002BC01F400C8C2000600155CC00FA0") P1-output
    -- KN rounded up between rows: at W one above the first row's, it is the first row's still.
    ∷ judges (lines (ship ∷ row1 ∷ "A2002200186A001130119400000190030F04970620078A08FC0A220B050BA20C5C0CCD0D48" ∷ "A30018C1000C000009C40FA002BC01F400C8C2000600155CC10FA0" ∷ []))
    (broken ("D1006500000000000101010101010101" ∷ "0000000000155CC10000000000009C400000000000001388" ∷ "000003EB682D58000000029CEC24FA000000068854525200" ∷ "000000037E11D600000000000000012C000000000000002A" ∷ "00000000000000EF000002CB91879B00" ∷ []))
    -- 'Not beyond min(E, 500)': with E 600 the gust is withstood up to 500, as in P1.
    ∷ judges (with "A30018C1000C000009C40FA002BC025800C8C2000600155CC00FA0") P1-output
    -- phi0 is none: it is -1, 7 and 8 fail, and 'the last two are 0'. The wind is the strongest that a text can have.
    ∷ judges (with "A30018C1000C000493E0EA6002BC01F400C8C2000600155CC00FA0")
    (broken ("D1006500000000000101010101010000" ∷ "0000000000155CC00000000000009C400000000000001388" ∷ "000003EB682D58000000029CEC24FA000000068854525200" ∷ "000000037E11D600000000000000012CFFFFFFFFFFFFFFFF" ∷ "00000000000000000000000000000000" ∷ []))
    ∷ []

pub slips_hold : All slips
unfolding answered_in report_of
slips_hold = (refl, (refl, (refl, ((refl, refl), (refl, (refl, (refl, (refl, tt))))))))
