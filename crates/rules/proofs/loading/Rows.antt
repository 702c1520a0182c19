-- 'd, KM and each KN lie linearly between the two rows around W, rounded down; on a row, that row': the law of tables, of the rows.
use mathlib.Core.Path.{◌≡◌, refl, ap}
use mathlib.Core.Bool.{true}
use mathlib.Core.List.{List, [], ◌∷◌, ◌++◌, map}
use Prim.Native.Nat.{ℕ, ◌≤◌}
use borrow.Author.Tests.{lt-ltb}
use Rattle.rules.specs.Numbers.{full}
use Rattle.rules.specs.Rounding.{down, Point, point}
use Rattle.rules.specs.Blocks.{Row}
use Rattle.rules.specs.Layout.{Rising}
use Rattle.rules.specs.Curve.{between}
use Rattle.rules.proofs.rounding.Tables.{in_order, Linear, table_is, values_within, table_within}

module _ (f : Row → ℕ) where
  -- The points of a table's column.
  abbrev pub column : List Row → List Point
  column rows = map (λ r. point r.mass (f r)) rows

  pub rows_in_order : (m : ℕ) (rows : List Row) → Rising m rows → in_order (column rows) ≡ true
  unfolding Rising
  rows_in_order m [] h = refl
  rows_in_order m (r ∷ []) h = refl
  rows_in_order m (r ∷ s ∷ rows) h = rw (lt-ltb r.mass s.mass h.2.1) (rows_in_order r.mass (s ∷ rows) h.2)

  pub between_is : (m : ℕ) (rows : List Row) → Rising m rows → Linear down (column rows) (between rows f)
  unfolding between
  between_is m rows h = table_is down (column rows) (rows_in_order m rows h)

  -- 'On a row, that row.'
  pub on_a_row : (m : ℕ) (a z : List Row) (r : Row) → Rising m (a ++ (r ∷ z)) → between (a ++ (r ∷ z)) f r.mass ≡ f r
  on_a_row m a z r h = (between_is m (a ++ (r ∷ z)) h).at (column a) (column z) (point r.mass (f r)) (map-append a)
    where
      map-append : (a : List Row) → column a ++ column (r ∷ z) ≡ column (a ++ (r ∷ z))
      map-append [] = refl
      map-append (b ∷ a) = ap (λ (l : List Point). point b.mass (f b) ∷ l) (map-append a)

  pub between_within : (low high m : ℕ) (rows : List Row) → full rows ≡ true → Rising m rows → values_within low high (column rows) ≡ true → (w : ℕ) → (low ≤ between rows f w) × (between rows f w ≤ high)
  unfolding between
  between_within low high m rows e h v w = table_within down low high (column rows) (map_full rows e) (rows_in_order m rows h) v w
    where
      map_full : (rows : List Row) → full rows ≡ true → full (column rows) ≡ true
      map_full [] e = e
      map_full (r ∷ rows) e = refl
