-- The tree of entries by its leaves: sums over it, and the same leaves with no groups around them.
use Rattle.std.specs.Prelude.{◌≡◌, ℕ, ◌+◌}
use Rattle.rules.specs.Blocks.{Load, Values}
use Rattle.rules.specs.Layout.{Entries, end, leaf, group, Reading}
use Rattle.rules.specs.Loading.{Entry, mass, moment, free_surface}

-- The sum over the leaves of the tree, each once.
unfoldable pub sum_leaves : (Entry → ℕ) → Entries → ℕ
sum_leaves f end = 0
sum_leaves f (leaf k v r) = f (record { kind = k; values = v }) + sum_leaves f r
sum_leaves f (group g r) = sum_leaves f g + sum_leaves f r

-- Two readings of one ship, table and weather whose leaves have the same sums: of masses, and of moments with free surface moments.
pub record SameSums (r s : Reading) : Type 0 where
  pub ship : r.ship ≡ s.ship
  pub rows : r.rows ≡ s.rows
  pub weather : r.condition.weather ≡ s.condition.weather
  pub masses : sum_leaves mass r.condition.load ≡ sum_leaves mass s.condition.load
  pub moments : sum_leaves moment r.condition.load + sum_leaves free_surface r.condition.load ≡ sum_leaves moment s.condition.load + sum_leaves free_surface s.condition.load

-- The moments with free surface moments.
abbrev pub moments_in : Entries → ℕ
moments_in F = sum_leaves moment F + sum_leaves free_surface F

-- Two readings of one ship, table and weather, and with one total mass.
pub record SameMass (r s : Reading) : Type 0 where
  pub ship : r.ship ≡ s.ship
  pub rows : r.rows ≡ s.rows
  pub weather : r.condition.weather ≡ s.condition.weather
  pub masses : sum_leaves mass r.condition.load ≡ sum_leaves mass s.condition.load

-- `OneEntry e e' F G`: the load G is F with e' in the place of one of its entries, e. Nothing else differs.
pub data OneEntry (e e' : Entry) : Entries → Entries → Type 0 where
  here : (r : Entries) → OneEntry e e' (leaf e.kind e.values r) (leaf e'.kind e'.values r)
  after_entry : (k : Load) (v : Values k) {r r' : Entries} → OneEntry e e' r r' → OneEntry e e' (leaf k v r) (leaf k v r')
  after_group : (g : Entries) {r r' : Entries} → OneEntry e e' r r' → OneEntry e e' (group g r) (group g r')
  in_group : {g g' : Entries} (r : Entries) → OneEntry e e' g g' → OneEntry e e' (group g r) (group g' r)

-- Entries, and others behind them.
unfoldable pub followed : Entries → Entries → Entries
followed end s = s
followed (leaf k v r) s = leaf k v (followed r s)
followed (group g r) s = group g (followed r s)

-- The same items and tanks in the same order, with no groups.
unfoldable pub ungrouped : Entries → Entries
unfolding followed
ungrouped end = end
ungrouped (leaf k v r) = leaf k v (ungrouped r)
ungrouped (group g r) = followed (ungrouped g) (ungrouped r)

-- The reading with this load.
abbrev pub loaded_with : Reading → Entries → Reading
loaded_with r F = record { ship = r.ship; rows = r.rows; condition = record { weather = r.condition.weather; load = F } }
