-- The values of the blocks of fixed size, by their places.
use mathlib.Core.Path.{◌≡◌, refl, ◌∙◌}
use mathlib.Core.List.{List, [], ◌∷◌}
use Prim.Native.Nat.{ℕ, ◌≤◌, ◌<◌}
use lib.ListN.{length, take, drop, get_or}
use native.Mathlib.Omega.{arith}
use Rattle.rules.specs.Numbers.{num}
use Rattle.rules.specs.Blocks.{size, values, ship, row, Set, weather, TankKind, item, tank, entry}
use Rattle.rules.specs.Parts.{values_at}
use Rattle.rules.proofs.layout.Parts.{num_one, values_at_lem}
use Rattle.blocks.specs.BlockAnswers.{tank_kind_of, plain_kind, load_of}
use Rattle.blocks.specs.declared.entries.TankKind as plain
use Rattle.blocks.specs.declared.entries.TankKind.TheVariants.{Ordinary, Cargo}
use Rattle.blocks.specs.declared.entries.Kind.{Kind}
use Rattle.blocks.specs.declared.entries.Kind.TheVariants as kind

module _ (s : List ℕ) where
  -- The number of so many bytes at a place.
  abbrev pub at : ℕ → ℕ → ℕ
  at w a = num (take w (drop a s))

  pub item_values : values (entry item).fields s ≡ at 4 0 ∷ at 2 4 ∷ []
  unfolding values_at
  item_values = values_at_lem (entry item).fields 0 s

  pub tank_values : (k : TankKind) → values (entry (tank k)).fields s ≡ at 4 0 ∷ at 2 4 ∷ at 2 6 ∷ at 2 8 ∷ at 4 10 ∷ []
  unfolding values_at
  tank_values k = values_at_lem (entry (tank k)).fields 0 s

  pub weather_values : (k : Set) → values (weather k).fields s ≡ at 4 0 ∷ at 2 4 ∷ at 2 6 ∷ at 2 8 ∷ at 2 10 ∷ []
  unfolding values_at
  weather_values k = values_at_lem (weather k).fields 0 s

  pub ship_values : 12 < length s → values ship.fields s ≡ at 4 0 ∷ at 4 4 ∷ at 4 8 ∷ get_or s 12 0 ∷ []
  unfolding values_at
  ship_values h = values_at_lem ship.fields 0 s ∙ rw (num_one s 12 h)

  pub row_values : row.named (values row.fields s) ≡ record { mass = at 4 0; draught = at 2 4; km = at 2 6; kn = (row.named (values row.fields s)).kn }
  unfolding values_at
  row_values = rw (values_at_lem row.fields 0 s)

pub kind_plain : (k : plain.TankKind) → plain_kind (tank_kind_of k) ≡ k
kind_plain Ordinary = refl
kind_plain Cargo = refl

-- Every entry has mass and centre.
pub six_bytes : (k : Kind) → 6 ≤ size (entry (load_of k)).fields
unfolding size
six_bytes kind.Item = omega arith
six_bytes (kind.Tank k) = omega arith
