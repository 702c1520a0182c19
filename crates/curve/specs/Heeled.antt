-- The curve of a loaded ship as the rules have it, and what the code answers of a search along it.
use Rattle.std.specs.Prelude.{ℕ, cond, leb, Option, Some, None}
use Rattle.rules.specs.Curve.{Loaded}
use Rattle.book.specs.Book.{loaded_of}
use Rattle.curve.specs.declared.tenths.Curve.{Curve}

-- The ship whose curve it is.
abbrev pub heeled : Curve → Loaded
heeled c = loaded_of c.ship.now.loaded

-- The first tenth that the rules find, or none where it is past the last.
abbrev pub not_past : ℕ → ℕ → Option ℕ
not_past to t = cond (leb t to) (Some t) None
