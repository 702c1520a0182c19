-- The table's straight line at W is that of the two rows around W.
use mathlib.Core.Path.{◌≡◌, ap, sym, ◌∙◌, subst}
use mathlib.Core.Bool.{true}
use mathlib.Core.List.{List, [], ◌∷◌, ◌++◌, map, map-append}
use Prim.Native.Nat.{ℕ, zero, suc, ◌-◌, ◌≤◌, ◌<◌}
use native.Mathlib.Omega.{arith}
use lib.ListN.{length, get_or, take, drop}
use lib.Seq.{drop-cons, split_at}
use Rattle.rules.specs.Loading.{tenths}
use Rattle.rules.specs.Rounding.{down, Point, point, span, gap, line}
use Rattle.rules.specs.Layout.{Rising}
use Rattle.rules.specs.Blocks as rules
use Rattle.rules.specs.Curve as curve
use Rattle.rules.proofs.rounding.Rounding.{rounded_unique}
use Rattle.rules.proofs.rounding.StraightLine.{line_rounded}
use Rattle.rules.proofs.layout.Rows.{rising_ok}
use Rattle.rules.proofs.loading.Rows.{column, between_is}
use Rattle.rounding.specs.Points.{Between}
use Rattle.book.specs.Book.{ship_of, row_of, weather_of, rows_of, loaded_of}
use Rattle.book.specs.declared.Row.{Row}
use Rattle.book.specs.declared.Ship.{Ship}
use Rattle.book.specs.declared.Weather.{Weather}
use Rattle.curve.specs.Weighing.{Whole}
use Rattle.curve.specs.Interpolation.{no_row, row_at, Around, Neighbours, between, kn_between}
use Rattle.curve.proofs.Limits.{mass_most}
use Rattle.curve.proofs.Rows.{rows_long, row_at_lem}

-- ---- two rows with W between them
pub lies_between : (a b : Row) (w : ℕ) → Neighbours a b w → (v u : ℕ) → v < 65_536 → u < 65_536 → Between (record { place = a.mass; value = v }) (record { place = b.mass; value = u }) w
lies_between a b w n v u h k = record { rise = n.rise; from = n.from; to = n.to; far = mass_most (row_of b) n.upper; first = h; second = k }

-- ---- rising rows, by number
rising_next : (m : ℕ) (rows : List rules.Row) (d : rules.Row) → Rising m rows → (i : ℕ) → suc i < length rows → (get_or rows i d).mass < (get_or rows (suc i) d).mass
unfolding Rising
rising_next m [] d h i l = absurd (omega arith)
rising_next m (r ∷ []) d h i l = absurd (omega arith)
rising_next m (r ∷ s ∷ rows) d h zero l = h.2.1
rising_next m (r ∷ s ∷ rows) d h (suc i) l = rising_next r.mass (s ∷ rows) d h.2 i (omega arith)

-- ---- the table's straight line at W is that of the two rows around W
abbrev spot : (rules.Row → ℕ) → rules.Row → Point
spot f r = point r.mass (f r)

module _ (rows : List rules.Row) (d : rules.Row) (k : ℕ) (more : suc k < length rows) (f : rules.Row → ℕ) where
  abbrev p : Point
  p = spot f (get_or rows k d)

  abbrev q : Point
  q = spot f (get_or rows (suc k) d)

  parts : column f (take k rows) ++ (p ∷ q ∷ column f (drop (suc (suc k)) rows)) ≡ column f rows
  parts =
      sym (map-append (spot f) (take k rows) (get_or rows k d ∷ get_or rows (suc k) d ∷ drop (suc (suc k)) rows))
      ∙ ap (λ (z : List rules.Row). column f (take k rows ++ (get_or rows k d ∷ z))) (sym (drop-cons rows (suc k) d more))
      ∙ ap (column f) (sym (split_at rows k d (omega arith)))

  line_of : (m w : ℕ) → Rising m rows → p.place ≤ w → w ≤ q.place → curve.between rows f w ≡ line down p q w
  line_of m w h from to =
      rounded_unique down (span p q w) (gap p q) (curve.between rows f w) (line down p q w)
      ((between_is f m rows h).amid (column f (take k rows)) (column f (drop (suc (suc k)) rows)) p q parts w from to)
      (line_rounded down p q w (rising_next m rows d h k more))

module _ (rows : List Row) (whole : Whole rows) (w i : ℕ) (around : Around rows w i) where
  fewer : i < length (rows_of rows)
  fewer = omega (arith, rows_long rows, around.last)

  row_ok : (k : ℕ) → k < length rows → rules.ok rules.row (row_of (row_at rows k)) ≡ true
  row_ok k l = subst (λ (r : rules.Row). rules.ok rules.row r ≡ true) (row_at_lem rows k) (rising_ok 0 (rows_of rows) (row_of no_row) whole.rising k (omega (arith, rows_long rows)))

  before : suc (i - 1) ≡ i
  before = omega (arith, around.first)

  first_row : get_or (rows_of rows) (i - 1) (row_of no_row) ≡ row_of (row_at rows (i - 1))
  first_row = row_at_lem rows (i - 1)

  second_row_lem : get_or (rows_of rows) (suc (i - 1)) (row_of no_row) ≡ row_of (row_at rows i)
  second_row_lem = rw before (row_at_lem rows i)

  pub neighbours : Neighbours (row_at rows (i - 1)) (row_at rows i) w
  neighbours = record {
    lower = row_ok (i - 1) (omega (arith, around.last));
    upper = row_ok i around.last;
    rise = omega (arith, rising_next 0 (rows_of rows) (row_of no_row) whole.rising (i - 1) (omega (arith, fewer, before)), ap (λ (r : rules.Row). r.mass) first_row, ap (λ (r : rules.Row). r.mass) second_row_lem);
    from = around.from;
    to = around.to;
  }

  -- The straight line between the two rows is the rules' own; so is the KN at W.
  pub between_rows : (f : rules.Row → ℕ) → curve.between (rows_of rows) f w ≡ between (row_at rows (i - 1)) (row_at rows i) f w
  between_rows f =
      line_of (rows_of rows) (row_of no_row) (i - 1) (omega (arith, fewer, before)) f 0 w whole.rising
      (omega (arith, around.from, ap (λ (r : rules.Row). r.mass) first_row))
      (omega (arith, around.to, ap (λ (r : rules.Row). r.mass) second_row_lem))
      ∙ rw (first_row, second_row_lem)

  pub kn_rows : curve.kn_at (rows_of rows) w ≡ kn_between (row_at rows (i - 1)) (row_at rows i) w
  unfolding curve.kn_at
  kn_rows = λ l. map (λ s. between_rows (λ r. get_or r.kn s 0) l) curve.stations

  -- 'd, KM and each KN.'
  pub loaded_is : (ship : Ship) (weather : Weather) (kg d m : ℕ) (kn : List ℕ) → d ≡ between (row_at rows (i - 1)) (row_at rows i) (λ r. r.draught) w → m ≡ between (row_at rows (i - 1)) (row_at rows i) (λ r. r.km) w
      → kn ≡ kn_between (row_at rows (i - 1)) (row_at rows i) w
      → loaded_of (record { ship = ship; weather = weather; w = w; kg = kg; draught = d; km = m; kn = kn }) ≡ curve.loaded_at tenths (ship_of ship) (rows_of rows) (weather_of weather) w kg
  unfolding curve.loaded_at
  loaded_is ship weather kg d m kn ed em ek = λ j. record {
    unit = tenths;
    ship = ship_of ship;
    weather = weather_of weather;
    w = w;
    kg = kg;
    draught = (ed ∙ sym (between_rows (λ r. r.draught))) j;
    km = (em ∙ sym (between_rows (λ r. r.km))) j;
    kn = (ek ∙ sym kn_rows) j;
  }
