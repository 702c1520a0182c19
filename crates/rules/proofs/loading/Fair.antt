-- What a reading that is judged comes to is fair: within the limits of 01's table, at its W and KG too.
use mathlib.Core.Path.{◌≡◌, refl, ap}
use mathlib.Core.Bool.{Bool, true, false, ◌&&◌}
use mathlib.Core.List.{List, [], ◌∷◌, map}
use Prim.Native.Nat.{ℕ, suc, ◌*◌, ◌≤◌}
use native.Mathlib.Omega.{arith}
use lib.Dec.{leb}
use lib.ListN.{get_or, length}
use borrow.Author.Tests.{leb-true, le-leb}
use Rattle.rules.specs.Numbers.{full}
use Rattle.rules.specs.Blocks.{Field, within, ok, Ship, Row, row, Weather}
use Rattle.rules.specs.Layout.{Reading, Rising, Limits}
use Rattle.rules.specs.Outcome.{got, test}
use Rattle.rules.specs.Loading.{tenths, displacement, corrected_kg, corrected_kg_in, entries_of, first_mass, last_mass, in_table, greatest_kg, weighed, weighed_in}
use Rattle.rules.specs.Curve.{stations, between, kn_at, loaded_at, loaded, loaded_in}
use Rattle.rules.specs.Ranges.{row_at, Fair}
use Rattle.rules.proofs.walk.Outcome.{test_inv, refused_got}
use Rattle.rules.proofs.layout.Fields.{both_true, field_at, Inside, ok_at}
use Rattle.rules.proofs.rounding.Tables.{values_within}
use Rattle.rules.proofs.loading.Rows.{column, between_within}

-- Values that are within their limits one by one.
within_one : (f : Field) (fs : List Field) (x : ℕ) (v : List ℕ) → Inside f x → within fs v ≡ true → within (f ∷ fs) (x ∷ v) ≡ true
unfolding within
within_one f fs x v i h = rw (le-leb f.low x i.0, le-leb x f.high i.1) h

within_map : (f : ℕ → Field) (g : ℕ → ℕ) → ((i : ℕ) → Inside (f i) (g i)) → (is : List ℕ) → within (map f is) (map g is) ≡ true
unfolding within
within_map f g h [] = refl
within_map f g h (i ∷ is) = within_one (f i) (map f is) (g i) (map g is) (h i) (within_map f g h is)

-- ---- a column of the rows
abbrev row_field : ℕ → Field
row_field i = field_at row.fields i

abbrev value_at : ℕ → Row → ℕ
value_at i r = get_or (row.listed r) i 0

row_at_lem : (r : Row) → ok row r ≡ true → (i : ℕ) → Inside (row_field i) (value_at i r)
unfolding ok
row_at_lem r h i = ok_at row r h i

column_within : (i m : ℕ) (rows : List Row) → Rising m rows → values_within (row_field i).low (row_field i).high (column (value_at i) rows) ≡ true
unfolding Rising
column_within i m [] h = refl
column_within i m (r ∷ rows) h = rw (le-leb (row_field i).low (value_at i r) (row_at_lem r h.0 i).0, le-leb (value_at i r) (row_field i).high (row_at_lem r h.0 i).1) (column_within i r.mass rows h.2)

module _ (m : ℕ) (rows : List Row) (rising : Rising m rows) (some : full rows ≡ true) where
  between_at : (i w : ℕ) → Inside (row_field i) (between rows (value_at i) w)
  between_at i w = between_within (value_at i) (row_field i).low (row_field i).high m rows some rising (column_within i m rows rising) w

  kn_within : (w : ℕ) → within (map (λ i. row_field (suc (suc (suc i)))) stations) (kn_at rows w) ≡ true
  unfolding kn_at
  kn_within w = within_map (λ i. row_field (suc (suc (suc i)))) (λ i. between rows (value_at (suc (suc (suc i)))) w) (λ i. between_at (suc (suc (suc i))) w) stations

-- ---- W between the first row's and the last's
first_from : (m : ℕ) (rows : List Row) → Rising m rows → full rows ≡ true → (row_field 0).low ≤ first_mass rows
unfolding Rising first_mass
first_from m [] h s = let z : ◌≡◌ {A = ℕ} 0 1 = cc in absurd (omega arith)
first_from m (r ∷ rows) h s = (row_at_lem r h.0 0).0

last_to : (m : ℕ) (rows : List Row) → Rising m rows → last_mass rows ≤ (row_field 0).high
unfolding Rising last_mass
last_to m [] h = omega arith
last_to m (r ∷ []) h = (row_at_lem r h.0 0).1
last_to m (r ∷ s ∷ rows) h = last_to r.mass (s ∷ rows) h.2

pub mass_within : (m : ℕ) (rows : List Row) → Rising m rows → full rows ≡ true → (w : ℕ) → in_table rows w ≡ true → Inside (row_field 0) w
unfolding in_table
mass_within m rows h s w e =
    let a = both_true (leb (first_mass rows) w) (leb w (last_mass rows)) e in
    (omega (arith, first_from m rows h s, leb-true (first_mass rows) w a.0), omega (arith, last_to m rows h, leb-true w (last_mass rows) a.1))

-- ---- the theorem
form_within : (unit : ℕ) (s : Ship) (rows : List Row) (c : Weather) (w kg m : ℕ) → Rising m rows → full rows ≡ true → in_table rows w ≡ true → ok row (row_at (loaded_at unit s rows c w kg)) ≡ true
unfolding ok loaded_at
form_within unit s rows c w kg m h f e =
    ap (λ (b : Bool). b && true)
    (within_one (row_field 0) (row_field 1 ∷ row_field 2 ∷ kn_fields) w (draught ∷ km ∷ kn_at rows w) (mass_within m rows h f w e)
    (within_one (row_field 1) (row_field 2 ∷ kn_fields) draught (km ∷ kn_at rows w) (between_at m rows h f 1 w)
    (within_one (row_field 2) kn_fields km (kn_at rows w) (between_at m rows h f 2 w) (kn_within m rows h f w))))
  where
    draught : ℕ
    draught = between rows (λ r. r.draught) w

    km : ℕ
    km = between rows (λ r. r.km) w

    kn_fields : List Field
    kn_fields = map (λ i. row_field (suc (suc (suc i)))) stations

passed : (b : Bool) → test b 8 0 0 ≡ got tt → b ≡ true
unfolding test
passed true h = refl
passed false h = refused_got h

-- Neither 7 nor 8.
pub weighed_inv : (unit : ℕ) (r : Reading) → weighed_in unit r ≡ got tt → (in_table r.rows (displacement (entries_of r)) ≡ true) × (corrected_kg_in unit (entries_of r) ≤ unit * greatest_kg)
unfolding weighed_in
weighed_inv unit r h =
    let kg = corrected_kg_in unit (entries_of r) in
    let a = test_inv (in_table r.rows (displacement (entries_of r))) 7 0 0 (test (leb kg (unit * greatest_kg)) 8 0 0) h in
    (a.0, leb-true kg (unit * greatest_kg) (passed (leb kg (unit * greatest_kg)) a.1))

pub some_rows : (rows : List Row) → 2 ≤ length rows → full rows ≡ true
some_rows [] h = absurd (omega arith)
some_rows (r ∷ rows) h = refl

pub fair : (r : Reading) → Limits r → weighed r ≡ got tt → Fair (loaded r)
unfolding loaded_in
fair r l h =
    let a = weighed_inv tenths r h in
    record {
      hull = l.hull;
      sky = l.loaded.sky;
      form = form_within tenths r.ship r.rows r.condition.weather (displacement (entries_of r)) (corrected_kg (entries_of r)) 0 l.rising (some_rows r.rows l.few) a.0;
      unit = refl;
      centre = a.1;
    }
