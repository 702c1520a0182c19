-- 'A value outside its limits', read field by field: what a block within its limits holds, a row above all.
use mathlib.Core.Path.{◌≡◌}
use mathlib.Core.Bool.{Bool, true, ◌&&◌}
use mathlib.Core.List.{List, [], ◌∷◌}
use Prim.Native.Nat.{ℕ, zero, suc, ◌≤◌, ◌<◌}
use native.Mathlib.Omega.{arith}
use lib.Dec.{T, leb, leb→le}
use lib.ListN.{get_or, drop}
use mir.Facts.{and_yes}
use Rattle.rules.specs.Blocks.{Field, ok, Row, row}
use Rattle.rules.proofs.layout.Fields.{field_at, ok_at}

abbrev lower : ℕ → List Field → Bool
lower n [] = true
lower n (f ∷ fs) = leb f.high n && lower n fs

field_lower : (n : ℕ) (fs : List Field) → T (lower n fs) → (i : ℕ) → (field_at fs i).high ≤ n
field_lower n [] t i = omega arith
field_lower n (f ∷ fs) t zero = leb→le f.high n (and_yes (leb f.high n) (lower n fs) t).0
field_lower n (f ∷ fs) t (suc i) = field_lower n fs (and_yes (leb f.high n) (lower n fs) t).1 i

module _ (r : Row) (fine : ok row r ≡ true) where
  pub mass_most : r.mass ≤ 600_000_000
  mass_most = (ok_at row r fine 0).1

  pub draught_small : r.draught < 65_536
  draught_small = omega (arith, (ok_at row r fine 1).1)

  pub km_small : r.km < 65_536
  km_small = omega (arith, (ok_at row r fine 2).1)

  pub kn_most : (i : ℕ) → get_or r.kn i 0 ≤ 30_000
  kn_most i = omega (arith, (ok_at row r fine (suc (suc (suc i)))).1, field_lower 30_000 (drop 3 row.fields) tt i)

  pub kn_small : (i : ℕ) → get_or r.kn i 0 < 65_536
  kn_small i = omega (arith, kn_most i)
