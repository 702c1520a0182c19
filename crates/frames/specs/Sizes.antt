-- The bytes of a line, three of its head and those of its body: the ship's, a row's, and the most that a condition's may have.
use Rattle.std.specs.Prelude.{ℕ, ◌+◌}
use Rattle.rules.specs.Blocks.{size, ship, row}
use Rattle.rules.specs.Layout.{most_bytes}

unfoldable pub ship_bytes : ℕ
unfolding size
ship_bytes = 3 + size ship.fields

unfoldable pub row_bytes : ℕ
unfolding size
row_bytes = 3 + size row.fields

abbrev pub condition_bytes : ℕ
condition_bytes = 3 + most_bytes
