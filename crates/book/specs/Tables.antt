-- The rows of a table within their forty places.
use Rattle.std.specs.Prelude.{List, ◌++◌, ◌-◌, length, replicate}
use Rattle.rules.specs.Layout.{most_rows}
use Rattle.book.specs.declared.Row.{Row}

-- A row of nothing.
abbrev pub blank_row : Row
blank_row = record { mass = 0; draught = 0; km = 0; kn = replicate 13 0 }

-- Behind the rows the places are blank.
abbrev pub filled : List Row → List Row
filled rs = rs ++ replicate (most_rows - length rs) blank_row
