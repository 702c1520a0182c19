-- What is held of a line says something of the line.
use Rattle.std.specs.Prelude.{List, ℕ}
use Rattle.reading.specs.Fronts.{Fronts}
use Rattle.reading.specs.declared.held.Held.{Held}

-- So it is with every line that has this number, and of which this is the front.
abbrev pub OfLine : Held → (ℕ → List ℕ → Type 0) → Type 0
OfLine h P = (l : List ℕ) → Fronts h.front.now h.n l → P h.line l
