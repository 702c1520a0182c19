-- 'Bench sheet': P1 to P13, of the definitions, as one list and one theorem over it. Restated with KG in tenths (request 5): the report of P1, P6 also with a KG one tenth less and one more, P8 also for one tenth either way.
use mathlib.Core.Path.{◌≡◌, refl}
use mathlib.Core.List.{List, [], ◌∷◌}
use Prim.Native.String.{String}
use Prim.Native.Nat.{ℕ}
use lib.IntN.{ℤ, pos, neg_ℤ}
use Rattle.rules.specs.Rounding.{up, table}
use Rattle.rules.specs.Layout.{Reading}
use Rattle.rules.specs.Outcome.{Ans, refused, got}
use Rattle.rules.specs.Walk.{read}
use Rattle.rules.specs.Loading.{millimetres, tenths}
use Rattle.rules.specs.Curve.{Loaded, loaded, loaded_in, lever_z, y}
use Rattle.rules.specs.Criteria.{lw1, lw2}
use Rattle.rules.specs.Roll.{period, s, phi1, start, e, r_of, X1}
use Rattle.rules.specs.Answer.{answered_in, report_of}
use Rattle.rules.proofs.bench.Cases.{Case, judges, refuses, gives, All, lines, broken, refusal}

-- The input of P1, with any condition.
abbrev pub ship : String
ship = "A1000D0000C350000027100000000000"

abbrev pub row1 : String
row1 = "A2002200155CC00FA0119400000189030F04970620078A08FC0A220B050BA20C5C0CCD0D48"

abbrev pub row2 : String
row2 = "A2002200186A001130119400000189030F04970620078A08FC0A220B050BA20C5C0CCD0D48"

abbrev pub with : String → List ℕ
with condition = lines (ship ∷ row1 ∷ row2 ∷ condition ∷ [])

abbrev pub P1-condition : String
P1-condition = "A30018C1000C000009C40FA002BC01F400C8C2000600155CC00FA0"

abbrev pub P1 : List ℕ
P1 = with P1-condition

abbrev pub P1-output : List ℕ
P1-output = broken ("D1006500000000000101010101010101" ∷ "0000000000155CC00000000000009C400000000000001388" ∷ "000003EB682D58000000029CEC24FA000000068854525200" ∷ "000000037E11D600000000000000012C000000000000002A" ∷ "00000000000000EF000002CB91879B00" ∷ [])

-- 'Of P1', as read from its text.
abbrev of : (Loaded → List ℤ) → Ans Reading → List ℤ
of f (got r) = f (loaded r)
of f (refused n l o) = []

abbrev of_p1 : (Loaded → List ℤ) → List ℤ
of_p1 f = of f (read P1)

-- P1 to P13, in the sheet's order.
abbrev pub bench : List Case
bench =
    judges P1 P1-output
    ∷ gives (of_p1 (λ c. pos (period c) ∷ [])) (pos 1_156 ∷ [])
    ∷ gives (of_p1 (λ c. pos (s c) ∷ [])) (pos 681 ∷ [])
    ∷ gives (of_p1 (λ c. pos (phi1 c) ∷ [])) (pos 239 ∷ [])
    ∷ gives (of_p1 (λ c. pos (lw1 c) ∷ pos (lw2 c) ∷ [])) (pos 37 ∷ pos 56 ∷ [])
    ∷ gives (of_p1 (λ c. y c (neg_ℤ (pos 50)) ∷ lever_z tenths c.kn 39_999 (neg_ℤ (pos 50)) ∷ lever_z tenths c.kn 40_001 (neg_ℤ (pos 50)) ∷ [])) (neg_ℤ (pos 2_218_000_000) ∷ neg_ℤ (pos 2_218_435_800) ∷ neg_ℤ (pos 2_217_564_200) ∷ [])
    ∷ gives (of_p1 (λ c. start c ∷ pos (e c) ∷ [])) (neg_ℤ (pos 198) ∷ pos 500 ∷ [])
    ∷ gives (r_of tenths 39_990 4_000 ∷ r_of tenths 39_999 4_000 ∷ r_of tenths 40_001 4_000 ∷ r_of tenths 40_010 4_000 ∷ []) (pos 730 ∷ pos 730 ∷ pos 731 ∷ pos 731 ∷ [])
    ∷ gives (pos (table up X1 3_300) ∷ []) (pos 840 ∷ [])
    ∷ refuses (with "A30018C1000C000009C40FA002BC01F400C8C2000700155CC00FA0") 2 4 18 (refusal "D100650200040012")
    ∷ refuses (with "A30018C1000C000009C40FA002BC01F400C8C2000500155CC00FA0") 3 4 18 (refusal "D100650300040012")
    ∷ refuses [] 5 0 0 (refusal "D100650500000000")
    ∷ refuses (with "A30018C1000C000009C40FA002BC01F400C8C2000600155CBF0FA0") 7 0 0 (refusal "D100650700000000")
    ∷ []

pub bench_holds : All bench
unfolding answered_in report_of read loaded_in lever_z lw1 lw2 period s phi1 start e r_of table
bench_holds = (refl, (refl, (refl, (refl, (refl, (refl, (refl, (refl, (refl, ((refl, refl), ((refl, refl), ((refl, refl), ((refl, refl), tt)))))))))))))

-- ---- in millimetres
-- With KG in millimetres the judgement is document 01's own: the report of P1, P6 and P8 are those of its sheet.
abbrev pub P1-in_millimetres : List ℕ
P1-in_millimetres = broken ("D1006500000000000101010101010101" ∷ "0000000000155CC00000000000000FA000000000000001F4" ∷ "000000645737BC0000000042E46A1900000000A73BA1D500" ∷ "0000000059682F00000000000000012C000000000000002A" ∷ "00000000000000EF000000478E8D8F80" ∷ [])

abbrev in_millimetres : (Loaded → ℤ) → Ans Reading → ℤ
in_millimetres f (got r) = f (loaded_in millimetres r)
in_millimetres f (refused n l o) = pos 0

pub sheet_of_01 : (report_of (answered_in millimetres P1) ≡ P1-in_millimetres) × (in_millimetres (λ c. y c (neg_ℤ (pos 50))) (read P1) ≡ neg_ℤ (pos 221_800_000)) × (r_of millimetres 3_999 4_000 ≡ pos 730) × (r_of millimetres 4_001 4_000 ≡ pos 731)
unfolding answered_in report_of read loaded_in lever_z r_of
sheet_of_01 = (refl, refl, refl, refl)
