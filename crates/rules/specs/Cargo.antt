-- Request 1: what it is for one C3 to be made a C5, in a load and in the lines of a text. These are words for promises; `judge` rests on none of them.
use Rattle.std.specs.Prelude.{List, ℕ}
use Rattle.rules.specs.Blocks.{Tank, ordinary, cargo, Load, tank, Values}
use Rattle.rules.specs.Layout.{Entries, leaf, group}
use Rattle.rules.specs.Tags.{OtherTagLines, OtherTagLine}

-- `MadeCargo t F G`: the load G is F with one of its tanks, t, a C3 in F, made a C5. Nothing else differs.
pub data MadeCargo (t : Tank) : Entries → Entries → Type 0 where
  here : (r : Entries) → MadeCargo t (leaf (tank ordinary) t r) (leaf (tank cargo) t r)
  after_entry : (k : Load) (v : Values k) {r r' : Entries} → MadeCargo t r r' → MadeCargo t (leaf k v r) (leaf k v r')
  after_group : (g : Entries) {r r' : Entries} → MadeCargo t r r' → MadeCargo t (group g r) (group g r')
  in_group : {g g' : Entries} (r : Entries) → MadeCargo t g g' → MadeCargo t (group g r) (group g' r)

-- Lines, and one condition line, with the tag C3 of one block made C5.
abbrev pub RetaggedLines : List (List ℕ) → List (List ℕ) → Type 0
RetaggedLines ls ls' = OtherTagLines 0xC3 0xC5 ls ls'

abbrev pub RetaggedLine : List ℕ → List ℕ → Type 0
RetaggedLine l l' = OtherTagLine 0xC3 0xC5 l l'
