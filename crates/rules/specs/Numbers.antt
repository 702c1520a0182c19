-- Numbers in bytes: 'All numbers are big-endian and unsigned.'
use Rattle.std.specs.Prelude.{Bool, true, false, List, [], ◌∷◌, ℕ, zero, suc, ◌+◌, ◌-◌, ◌*◌, ◌^◌, ◌/◌, ◌%◌, ◌<◌, length, ℤ, pos, negsuc}

-- The number that bytes stand for, the highest first.
unfoldable pub num : List ℕ → ℕ
num [] = 0
num (b ∷ s) = b * 256 ^ length s + num s

-- The k bytes of a number.
unfoldable pub digits : ℕ → ℕ → List ℕ
digits zero n = []
digits (suc k) n = n / 256 ^ k ∷ digits k (n % 256 ^ k)

-- Each number of a list is a byte.
unfoldable pub Bytes : List ℕ → Type 0
Bytes [] = Unit {0}
Bytes (b ∷ s) = (b < 256) × Bytes s

-- A list with something in it.
abbrev pub full : {A : Type 0} → List A → Bool
full [] = false
full (x ∷ s) = true

-- 'As 2^64 more than itself where it is negative.'
abbrev pub twos : ℤ → ℕ
twos (pos n) = n
twos (negsuc n) = 2 ^ 64 - suc n
