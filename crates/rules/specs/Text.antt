-- 'The text': 'A line is an even, nonzero number of digits 0-9 A-F, then one LF.'
use Rattle.std.specs.Prelude.{◌≡◌, true, cond, List, [], ◌∷◌, ◌++◌, ℕ, ◌+◌, ◌/◌, ◌%◌, ltb}
use Rattle.rules.specs.Numbers.{Bytes, full}

abbrev pub LF : ℕ
LF = 10

-- The character of a digit: 0-9 from 48 on, A-F from 65 on.
unfoldable pub digit : ℕ → ℕ
digit n = cond (ltb n 10) (48 + n) (55 + n)

-- Bytes as characters, two digits to a byte.
unfoldable pub hex : List ℕ → List ℕ
hex [] = []
hex (b ∷ s) = digit (b / 16) ∷ digit (b % 16) ∷ hex s

-- Lines as characters.
unfoldable pub text : List (List ℕ) → List ℕ
text [] = []
text (l ∷ ls) = hex l ++ (LF ∷ text ls)

-- What a line can hold: bytes, at least one.
unfoldable pub Lines : List (List ℕ) → Type 0
Lines [] = Unit {0}
Lines (l ∷ ls) = (full l ≡ true) × Bytes l × Lines ls
