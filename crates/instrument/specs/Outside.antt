-- What 7 and 8 say of a reading, in numbers: the total mass against the table's first and last row, and the corrected KG, in tenths of a millimetre, against 600,000.
use Rattle.std.specs.Prelude.{◌⊎◌, ◌≤◌, ◌<◌}
use Rattle.rules.specs.Layout.{Reading}
use Rattle.rules.specs.Loading.{displacement, corrected_kg, first_mass, last_mass, entries_of}

-- 7: 'total mass below the first row or above the last'.
abbrev pub Outside : Reading → Type 0
Outside r = (displacement (entries_of r) < first_mass r.rows) ⊎ (last_mass r.rows < displacement (entries_of r))

abbrev pub Inside : Reading → Type 0
Inside r = (first_mass r.rows ≤ displacement (entries_of r)) × (displacement (entries_of r) ≤ last_mass r.rows)

-- 8: 'now above 600,000' (request 5), asked only inside the table.
abbrev pub TooHigh : Reading → Type 0
TooHigh r = Inside r × (600_000 < corrected_kg (entries_of r))

-- Neither 7 nor 8.
abbrev pub Neither : Reading → Type 0
Neither r = Inside r × (corrected_kg (entries_of r) ≤ 600_000)
