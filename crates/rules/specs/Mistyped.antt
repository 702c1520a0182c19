-- Typing slips in KN tables (request 4), said of values and of lines, with no reader. These are words for promises; `judge` rests on none of them.
use Rattle.std.specs.Prelude.{◌≡◌, ◌⊎◌, true, List, [], ◌∷◌, ℕ, ◌+◌, ◌-◌, ◌*◌, ◌≤◌, ◌<◌, length, get_or, set}
use Rattle.rules.specs.Blocks.{ok, spell_block, Ship, Row, row}
use Rattle.rules.specs.Layout.{most_rows, Booklet}
use Rattle.rules.specs.Loading.{last_mass}
use Rattle.rules.specs.Met.{Led, lead}

-- Two numbers are more than m apart.
abbrev pub FarApart : ℕ → ℕ → ℕ → Type 0
FarApart m x y = (x + m < y) ⊎ (y + m < x)

-- KN value i of a row, at 5 i degrees; and the sum of its two neighbours.
abbrev pub kn_value : List ℕ → ℕ → ℕ
kn_value kn i = get_or kn i 0

abbrev pub neighbours : List ℕ → ℕ → ℕ
neighbours kn i = kn_value kn (i - 1) + kn_value kn (i + 1)

-- 'Doubled, differs from the sum of its two neighbours by more than 400.'
abbrev pub Bent : List ℕ → ℕ → Type 0
Bent kn i = FarApart 400 (2 * kn_value kn i) (neighbours kn i)

-- Station i has y for x, and is far off: by more than 400 at an inner station, those at 5 to 55 degrees, which is tested against two neighbours; by more than 800 at 60 degrees, which counts once as a neighbour. (At 0 degrees KN is 0.)
abbrev pub FarOff : ℕ → ℕ → ℕ → Type 0
FarOff i x y = (1 ≤ i) × (((i ≤ 11) × FarApart 400 x y) ⊎ ((i ≡ 12) × FarApart 800 x y))

-- Row k, from 0, and what stands for one beyond the last.
abbrev pub absent_row : Row
absent_row = record { mass = 0; draught = 0; km = 0; kn = [] }

abbrev pub nth_row : List Row → ℕ → Row
nth_row rows k = get_or rows k absent_row

-- A row with another KN value at station i; and a booklet with that in the place of its row k.
abbrev pub retyped : ℕ → ℕ → Row → Row
retyped i x v = record { mass = v.mass; draught = v.draught; km = v.km; kn = set v.kn i x }

abbrev pub retyped_in : Booklet → ℕ → ℕ → ℕ → Booklet
retyped_in b k i x = record { ship = b.ship; rows = set b.rows k (retyped i x (nth_row b.rows k)); conditions = b.conditions }

-- `Mistyped ls ln`: in the lines ls, line ln is a row with a slip at one of its inner values, those at 5 to 55 degrees. Ship and rows before it are as they must be, and so is it, in its place, its limits and its W. What stands behind it may be anything.
pub data Mistyped : List (List ℕ) → ℕ → Type 0 where
  mistyped : (s : Ship) (vs : List Row) (v : Row) (later : List (List ℕ)) → Led s vs → length vs < most_rows → ok row v ≡ true → last_mass vs < v.mass → (i : ℕ) → 1 ≤ i → i ≤ 11 → Bent v.kn i → Mistyped (lead s vs (spell_block row v ∷ later)) (2 + length vs)
