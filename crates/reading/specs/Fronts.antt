-- What the front of a line that is held says of the line.
use Rattle.std.specs.Prelude.{◌≡◌, List, ℕ, ◌<◌, length, take}
use Rattle.rules.specs.Outcome.{Ans, refused, got}
use Rattle.rules.specs.Walk as walk
use Rattle.book.specs.Book.{refusal}
use Rattle.book.specs.declared.Refusal.{Refusal}
use Rattle.frames.specs.Sizes.{row_bytes}

-- Where that is not the whole of its n bytes, it is as many as a row has, of which no ship has more.
abbrev pub Cut : List ℕ → ℕ → Type 0
Cut front n = length front < n → length front ≡ row_bytes

-- What holds of every line of n bytes that begins so.
pub record Fronts (front : List ℕ) (n : ℕ) (l : List ℕ) : Type 0 where
  pub long : length l ≡ n
  pub held : front ≡ take row_bytes l

-- 'Any other line after an A3': 4, behind its own 2.
abbrev pub misplaced : ℕ → Ans walk.Head → Refusal
misplaced ln (refused n l o) = refusal n l o
misplaced ln (got h) = refusal 4 ln 0
