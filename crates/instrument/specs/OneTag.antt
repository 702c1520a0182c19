-- Two condition lines, of one booklet and of another, that differ in one tag alone. A word for promises; `judge` does not rest on it.
use Rattle.std.specs.Prelude.{◌≡◌, ℕ, ◌<◌, length}
use Rattle.rules.specs.Tags.{OtherTagLine}
use Rattle.rules.specs.Layout.{Booklet}
use Rattle.rules.specs.Apart.{line_at}

-- The two booklets have one ship and the same rows. Condition line k of the first and k' of the second differ in one tag alone, x in the first and y in the second. All else of the two booklets is left open.
pub record OtherTagIn (x y : ℕ) (b : Booklet) (k : ℕ) (b' : Booklet) (k' : ℕ) : Type 0 where
  pub ships : b.ship ≡ b'.ship
  pub rows : b.rows ≡ b'.rows
  pub within : k < length b.conditions
  pub within' : k' < length b'.conditions
  pub lines : OtherTagLine x y (line_at b k) (line_at b' k')
