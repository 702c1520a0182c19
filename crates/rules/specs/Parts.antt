-- Numbers and blocks by their places in a list of bytes: how the contracts of the code name what it reads.
use Rattle.std.specs.Prelude.{List, [], ◌∷◌, ℕ, ◌+◌, ◌-◌, ◌*◌, length, take, drop, get_or}
use Rattle.rules.specs.Numbers.{num}
use Rattle.rules.specs.Blocks.{Field}
use Rattle.rules.specs.Walk.{Head}

-- The number in the two bytes at a place, and in the four.
abbrev pub be2 : List ℕ → ℕ → ℕ
be2 s at = get_or s at 0 * 256 + get_or s (at + 1) 0

abbrev pub be4 : List ℕ → ℕ → ℕ
be4 s at = be2 s at * 65536 + be2 s (at + 2)

-- The part from a up to e, as code lends it.
abbrev pub part : ℕ → ℕ → List ℕ → List ℕ
part a e s = take (e - a) (drop a s)

-- The block at the start of s whose body has n bytes.
abbrev pub head_at : ℕ → ℕ → List ℕ → Head
head_at t n s = record { tag = t; body = part 3 (3 + n) s; rest = part (3 + n) (length s) s }

-- The values of these fields from place a on.
unfoldable pub values_at : List Field → ℕ → List ℕ → List ℕ
values_at [] a s = []
values_at (f ∷ fs) a s = num (take f.width (drop a s)) ∷ values_at fs (a + f.width) s
