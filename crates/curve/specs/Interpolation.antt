-- What the table gives at W: the two rows around W, and the straight line between them.
use Rattle.std.specs.Prelude.{◌≡◌, Bool, true, nat_lt, List, [], map, ℕ, ◌-◌, ◌≤◌, ◌<◌, get_or, length}
use Rattle.rules.specs.Rounding.{down, point, line}
use Rattle.rules.specs.Curve.{stations}
use Rattle.rules.specs.Blocks as rules
use Rattle.book.specs.Book.{row_of}
use Rattle.book.specs.declared.Row.{Row}

-- The row of a number, and what stands for one beyond the table.
abbrev pub no_row : Row
no_row = record { mass = 0; draught = 0; km = 0; kn = [] }

abbrev pub row_at : List Row → ℕ → Row
row_at rows i = get_or rows i no_row

-- A row that is heavier than W.
abbrev pub heavier : ℕ → Row → Bool
heavier w r = nat_lt w r.mass

-- The second of the two rows around W has this number.
pub record Around (rows : List Row) (w i : ℕ) : Type 0 where
  pub first : 1 ≤ i
  pub last : i < length rows
  pub from : (row_at rows (i - 1)).mass ≤ w
  pub to : w ≤ (row_at rows i).mass

-- Two rows within their limits, and W between theirs.
pub record Neighbours (a b : Row) (w : ℕ) : Type 0 where
  pub lower : rules.ok rules.row (row_of a) ≡ true
  pub upper : rules.ok rules.row (row_of b) ≡ true
  pub rise : a.mass < b.mass
  pub from : a.mass ≤ w
  pub to : w ≤ b.mass

-- The straight line between two rows, and the KN on it. Of the two rows around W they are the rules' `between` and `kn_at`: `between_rows` and `kn_rows` in proofs/Interpolation.
abbrev pub between : Row → Row → (rules.Row → ℕ) → ℕ → ℕ
between a b f w = line down (point a.mass (f (row_of a))) (point b.mass (f (row_of b))) w

abbrev pub kn_between : Row → Row → ℕ → List ℕ
kn_between a b w = map (λ i. between a b (λ r. get_or r.kn i 0) w) stations
