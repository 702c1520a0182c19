-- A digit missing in a KN table (request 4), and its edges: P1 with another second row. W lies on the first row, so that each text that is read has P1's report.
use mathlib.Core.Path.{refl}
use mathlib.Core.Logic.{◌⊎◌, inl, inr}
use mathlib.Core.List.{List, [], ◌∷◌}
use Prim.Native.String.{String}
use Prim.Native.Nat.{ℕ, ◌+◌, ◌≤◌}
use native.Mathlib.Omega.{arith}
use Rattle.rules.specs.Mistyped.{FarOff}
use Rattle.rules.specs.Answer.{answered_in, report_of}
use Rattle.rules.proofs.layout.Smooth.{by_cases}
use Rattle.rules.proofs.bench.Cases.{Case, judges, refuses, All, lines, refusal}
use Rattle.rules.proofs.bench.Bench.{ship, row1, row2, P1-condition, P1-output}

abbrev second_row : String → List ℕ
second_row line = lines (ship ∷ row1 ∷ line ∷ P1-condition ∷ [])

-- At 30 degrees 230 for 2,300.
abbrev pub digit_missing : List ℕ
digit_missing = second_row "A2002200186A001130119400000189030F04970620078A00E60A220B050BA20C5C0CCD0D48"

-- At 30 degrees 2,462 and 2,062, of which the sum of the neighbours, 4,524, is 400 away: two rows that differ in one value by 400, and both are read.
abbrev pub above400 : List ℕ
above400 = second_row "A2002200186A001130119400000189030F04970620078A099E0A220B050BA20C5C0CCD0D48"

abbrev pub below400 : List ℕ
below400 = second_row "A2002200186A001130119400000189030F04970620078A080E0A220B050BA20C5C0CCD0D48"

-- At 60 degrees 3,790 and 2,990: with 3,164 at 50 degrees they are 400 away from twice the 3,277 at 55, two rows that differ there by 800, and both are read.
abbrev pub above800 : List ℕ
above800 = second_row "A2002200186A001130119400000189030F04970620078A08FC0A220B050BA20C5C0CCD0ECE"

abbrev pub below800 : List ℕ
below800 = second_row "A2002200186A001130119400000189030F04970620078A08FC0A220B050BA20C5C0CCD0BAE"

abbrev pub mistyped_rows : List Case
mistyped_rows =
    refuses digit_missing 10 3 0 (refusal "D100650A00030000")
    ∷ judges above400 P1-output
    ∷ judges below400 P1-output
    ∷ judges above800 P1-output
    ∷ judges below800 P1-output
    -- 401 above, and 401 below: a neighbour is one less, or one more.
    ∷ refuses (second_row "A2002200186A001130119400000189030F04970620078A099E0A210B050BA20C5C0CCD0D48") 10 3 0 (refusal "D100650A00030000")
    ∷ refuses (second_row "A2002200186A001130119400000189030F04970620078A080E0A230B050BA20C5C0CCD0D48") 10 3 0 (refusal "D100650A00030000")
    -- The first inner value, 592 at 5 degrees, against 784 and 783 at 10: 400 and 401. At 0 degrees there is no test.
    ∷ judges (second_row "A2002200186A001130119400000250031004970620078A08FC0A220B050BA20C5C0CCD0D48") P1-output
    ∷ refuses (second_row "A2002200186A001130119400000250030F04970620078A08FC0A220B050BA20C5C0CCD0D48") 10 3 0 (refusal "D100650A00030000")
    -- The last one, 3,277 at 55 degrees, against 2,989 and 3,791 at 60: 401. At 60 there is no test.
    ∷ refuses (second_row "A2002200186A001130119400000189030F04970620078A08FC0A220B050BA20C5C0CCD0BAD") 10 3 0 (refusal "D100650A00030000")
    ∷ refuses (second_row "A2002200186A001130119400000189030F04970620078A08FC0A220B050BA20C5C0CCD0ECF") 10 3 0 (refusal "D100650A00030000")
    -- 0 beside 30,000.
    ∷ refuses (second_row "A2002200186A001130119400000189030F04970620078A000075300B050BA20C5C0CCD0D48") 10 3 0 (refusal "D100650A00030000")
    -- Behind a 6 of the same row, a KM of 60,001 or a W that does not rise; before a 6 of the next.
    ∷ refuses (second_row "A2002200186A001130EA6100000189030F04970620078A00E60A220B050BA20C5C0CCD0D48") 6 3 0 (refusal "D100650600030000")
    ∷ refuses (second_row "A2002200155CC01130119400000189030F04970620078A00E60A220B050BA20C5C0CCD0D48") 6 3 0 (refusal "D100650600030000")
    ∷ refuses (lines (ship ∷ row1 ∷ "A2002200186A001130119400000189030F04970620078A00E60A220B050BA20C5C0CCD0D48" ∷ row2 ∷ P1-condition ∷ [])) 10 3 0 (refusal "D100650A00030000")
    ∷ []

pub mistyped_hold : All mistyped_rows
unfolding answered_in report_of
mistyped_hold = ((refl, refl), (refl, (refl, (refl, (refl, ((refl, refl), ((refl, refl), (refl, ((refl, refl), ((refl, refl), ((refl, refl), ((refl, refl), ((refl, refl), ((refl, refl), ((refl, refl), tt)))))))))))))))

-- What is far off, restated: by 401 and more at each of 5 to 55 degrees, by 801 and more at 60, either way. Those that are both read are just not.
pub far_off_from : ((i x y : ℕ) → 1 ≤ i → i ≤ 11 → (x + 401 ≤ y) ⊎ (y + 401 ≤ x) → FarOff i x y) × ((x y : ℕ) → (x + 801 ≤ y) ⊎ (y + 801 ≤ x) → FarOff 12 x y) × (¬ FarOff 6 2_062 2_462) × (¬ FarOff 12 2_990 3_790)
far_off_from = (
  λ i x y from to f. (from, inl (to, by_cases f (λ h. inl (omega arith)) (λ h. inr (omega arith)))),
  λ x y f. (omega arith, inr (refl, by_cases f (λ h. inl (omega arith)) (λ h. inr (omega arith)))),
  λ f. by_cases f.1 (λ g. by_cases g.1 (λ h. omega arith) (λ h. omega arith)) (λ g. omega (arith, g.0)),
  λ f. by_cases f.1 (λ g. omega (arith, g.0)) (λ g. by_cases g.1 (λ h. omega arith) (λ h. omega arith)),
)
