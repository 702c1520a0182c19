-- Request 2: what it is for a C6 to stand in C1's place, in the lines of a text, in a reading and in what is judged. These are words for promises; `judge` rests on none of them.
use Rattle.std.specs.Prelude.{List, ℕ}
use Rattle.rules.specs.Blocks.{Set}
use Rattle.rules.specs.Layout.{Condition, Reading}
use Rattle.rules.specs.Curve.{Loaded}
use Rattle.rules.specs.Tags.{OtherTagLines, OtherTagLine}

-- Lines, and one condition line, with the tag C1 of one block made C6.
abbrev pub TimberLines : List (List ℕ) → List (List ℕ) → Type 0
TimberLines ls ls' = OtherTagLines 0xC1 0xC6 ls ls'

abbrev pub TimberLine : List ℕ → List ℕ → Type 0
TimberLine l l' = OtherTagLine 0xC1 0xC6 l l'

-- The same in another set: a condition, a reading, a loaded ship.
abbrev pub condition_by : Set → Condition → Condition
condition_by s c = record { weather = record { set = s; sky = c.weather.sky }; load = c.load }

abbrev pub reading_by : Set → Reading → Reading
reading_by s r = record { ship = r.ship; rows = r.rows; condition = condition_by s r.condition }

abbrev pub loaded_by : Set → Loaded → Loaded
loaded_by s c = record { unit = c.unit; ship = c.ship; weather = record { set = s; sky = c.weather.sky }; w = c.w; kg = c.kg; draught = c.draught; km = c.km; kn = c.kn }

-- 'Slots 1, 2 and 5.'
pub data UnusedSlot : ℕ → Type 0 where
  slot1 : UnusedSlot 1
  slot2 : UnusedSlot 2
  slot5 : UnusedSlot 5

-- The slots of which the timber set asks no more than the Code's: 3, 6 and 7.
pub data EasedSlot : ℕ → Type 0 where
  slot3 : EasedSlot 3
  slot6 : EasedSlot 6
  slot7 : EasedSlot 7
