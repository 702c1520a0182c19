-- Worked cases, as a page writes them: a list of texts with their whole reports, and of numbers; a theorem over a list holds case by case.
use mathlib.Core.Path.{◌≡◌}
use mathlib.Core.List.{List, [], ◌∷◌, ◌++◌}
use Prim.Native.String.{String}
use Prim.Native.Char.{code}
use Prim.Native.Nat.{ℕ}
use lib.IntN.{ℤ}
use Rattle.rules.specs.Text.{LF}
use Rattle.rules.specs.Outcome.{refused}
use Rattle.rules.specs.Answer.{answered, report_of}

abbrev chars : String → List ℕ
chars String.[] = []
chars (String.◌∷◌ c s) = code c ∷ chars s

-- Lines, each with its LF.
abbrev pub lines : List String → List ℕ
lines [] = []
lines (l ∷ ls) = chars l ++ (LF ∷ lines ls)

-- 'One line, broken here for the page.'
abbrev pub broken : List String → List ℕ
broken [] = LF ∷ []
broken (l ∷ ls) = chars l ++ broken ls

-- A text is judged with a report; it is refused with number, line and offset, and a report; or numbers come to others.
pub data Case : Type 0 where
  judges : (text report : List ℕ) → Case
  refuses : (text : List ℕ) (number line offset : ℕ) (report : List ℕ) → Case
  gives : (found due : List ℤ) → Case

abbrev pub Holds : Case → Type 0
Holds (judges t r) = report_of (answered t) ≡ r
Holds (refuses t n l o r) = (answered t ≡ refused n l o) × (report_of (answered t) ≡ r)
Holds (gives found due) = found ≡ due

abbrev pub All : List Case → Type 0
All [] = Unit {0}
All (c ∷ cs) = Holds c × All cs

-- The report of a refusal: eight verdicts 3 and eleven figures 0, after the number, line and offset.
abbrev pub refusal : String → List ℕ
refusal start =
    broken (start ∷ "0303030303030303" ∷ "00000000000000000000000000000000000000000000000000000000000000000000000000000000000000000000000000000000000000000000000000000000000000000000000000000000000000000000000000000000" ∷ [])
