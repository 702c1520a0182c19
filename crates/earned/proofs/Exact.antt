-- The exact values of a reading are 01's fractions before they are rounded, and lie behind the numbers that the judgement uses.
use mathlib.Core.Path.{◌≡◌, refl, ap, sym, ◌∙◌, subst}
use mathlib.Core.Bool.{Bool, true, false}
use mathlib.Core.List.{List, [], ◌∷◌, ◌++◌, map}
use Prim.Native.Nat.{ℕ, zero, suc, ◌+◌, ◌-◌, ◌*◌, ◌≤◌, ◌<◌}
use native.Mathlib.Omega.{arith}
use native.Mathlib.Nat.{mul-le-mul_right, mul-pos, max-eq_left, sub_self, mul-zero}
use native.Mathlib.Decide.{dec_le}
use lib.Dec.{leb, ltb}
use lib.ListN.{length, get_or}
use borrow.Author.Tests.{leb-true, ltb-true, ltb-false, lt-ltb, le-ltb}
use Rattle.rules.specs.Rounding.{down, line, onward, table, span}
use Rattle.rules.specs.Blocks.{Row}
use Rattle.rules.specs.Layout.{Reading, Rising, Limits}
use Rattle.rules.specs.Outcome.{got}
use Rattle.rules.specs.Loading.{tenths, total, moment, free_surface, corrected_kg, entries_of, first_mass, last_mass, in_table, weighed}
use Rattle.rules.specs.Curve.{between, stations, kn_at, loaded_at, loaded, loaded_in}
use Rattle.rules.specs.Criteria.{lw1}
use Rattle.rules.proofs.layout.Fields.{both_true}
use Rattle.rules.proofs.rounding.StraightLine.{line_rounded}
use Rattle.rules.proofs.rounding.Divisions.{kg_up, lw1_up}
use Rattle.rules.proofs.loading.Fair.{weighed_inv}
use Rattle.earned.specs.Verdicts.{Behind}
use Rattle.earned.specs.Exact.{cell, gap_from, span_from, gap_at, span_at, weight, over, column, exact, Straight, Fractions}
use Rattle.earned.proofs.Keeps.{get_or_finer}

-- ---- a value of the table is rounded down from the exact one
gap_pos : (r : Row) (rows : List Row) (w : ℕ) → r.mass ≤ w → 0 < gap_from r rows w
unfolding gap_from
gap_pos r [] w h = omega arith
gap_pos r (s ∷ rows) w h = go (ltb w s.mass) refl (gap_pos s rows w)
  where
    go : (b : Bool) → ltb w s.mass ≡ b → (s.mass ≤ w → 0 < gap_from s rows w) → 0 < elim b [ true ↦ s.mass - r.mass | false ↦ gap_from s rows w ]
    go true e i = omega (arith, ltb-true w s.mass e)
    go false e i = i (ltb-false w s.mass e)

onward_down : (f : Row → ℕ) (r : Row) (rows : List Row) (w : ℕ) → r.mass ≤ w → onward down (cell f r) (map (cell f) rows) w * gap_from r rows w ≤ span_from f r rows w
unfolding onward gap_from span_from
onward_down f r [] w h = omega arith
onward_down f r (s ∷ rows) w h = go (ltb w s.mass) refl (onward_down f s rows w)
  where
    go : (b : Bool) → ltb w s.mass ≡ b → (s.mass ≤ w → onward down (cell f s) (map (cell f) rows) w * gap_from s rows w ≤ span_from f s rows w) → (elim b [ true ↦ line down (cell f r) (cell f s) w | false ↦ onward down (cell f s) (map (cell f) rows) w ]) * (elim b [ true ↦ s.mass - r.mass | false ↦ gap_from s rows w ]) ≤ elim b [ true ↦ span (cell f r) (cell f s) w | false ↦ span_from f s rows w ]
    go true e i = (line_rounded down (cell f r) (cell f s) w (omega (arith, ltb-true w s.mass e))).under
    go false e i = i (ltb-false w s.mass e)

-- ---- the rows around W
module _ (f : Row → ℕ) (w : ℕ) where
  near : (r s : Row) (z : List Row) → w < s.mass → (span_from f r (s ∷ z) w ≡ span (cell f r) (cell f s) w) × (gap_from r (s ∷ z) w ≡ s.mass - r.mass)
  unfolding span_from gap_from
  near r s z l = (rw (lt-ltb w s.mass l, span_from), rw (lt-ltb w s.mass l, gap_from))

  far : (r s : Row) (z : List Row) → s.mass ≤ w → (span_from f r (s ∷ z) w ≡ span_from f s z w) × (gap_from r (s ∷ z) w ≡ gap_from s z w)
  unfolding span_from gap_from
  far r s z l = (rw (le-ltb w s.mass l, span_from), rw (le-ltb w s.mass l, gap_from))

  -- On a row, that row.
  last : (r : Row) → span_from f r [] w ≡ f r * gap_from r [] w
  unfolding span_from gap_from
  last r = omega arith

  on_row : (m : ℕ) (r : Row) (z : List Row) → Rising m (r ∷ z) → r.mass ≡ w → span_from f r z w ≡ f r * gap_from r z w
  unfolding Rising
  on_row m r [] h e = last r
  on_row m r (s ∷ z) h e =
      let n = near r s z (omega (arith, h.2.1)) in
      n.0 ∙ go (f r) (f s) r.mass s.mass e ∙ ap (λ (g : ℕ). f r * g) (sym n.1)
    where
      go : (a b x y : ℕ) → x ≡ w → a * (y - w) + b * (w - x) ≡ a * (y - x)
      go a b x y e = rw e (rw (sub_self w, mul-zero b) (omega arith))

  around : (m : ℕ) (r s : Row) (z : List Row) → Rising m (r ∷ s ∷ z) → w ≤ s.mass → span_from f r (s ∷ z) w * (s.mass - r.mass) ≡ span (cell f r) (cell f s) w * gap_from r (s ∷ z) w
  unfolding Rising
  around m r s z h l = elim (dec_le s.mass w) [
    | no n ↦ let k = near r s z (omega arith) in rw (k.0, k.1)
    | yes n ↦ let k = far r s z n in
        let e : s.mass ≡ w = omega arith in
        rw (k.0, k.1, on_row r.mass s z h.2 e) (go (f r) (f s) (gap_from s z w) r.mass s.mass e)
  ]
    where
      go : (a b g x y : ℕ) → y ≡ w → b * g * (y - x) ≡ (a * (y - w) + b * (w - x)) * g
      go a b g x y e = rw e (rw (sub_self w, mul-zero a) (omega arith))

  -- The rows before do not matter.
  past : (c : Row) (a z : List Row) (r : Row) (m : ℕ) → Rising m (c ∷ (a ++ (r ∷ z))) → r.mass ≤ w → (c.mass ≤ r.mass) × (span_from f c (a ++ (r ∷ z)) w ≡ span_from f r z w) × (gap_from c (a ++ (r ∷ z)) w ≡ gap_from r z w)
  unfolding Rising
  past c [] z r m h l = let k = far c r z l in (omega (arith, h.2.1), k.0, k.1)
  past c (d ∷ a) z r m h l =
      let i = past d a z r c.mass h.2 l in
      let k = far c d (a ++ (r ∷ z)) (omega arith) in
      (omega (arith, h.2.1), k.0 ∙ i.1, k.1 ∙ i.2)

  pub straight : (a z : List Row) (r s : Row) (m : ℕ) → Rising m (a ++ (r ∷ s ∷ z)) → r.mass ≤ w → w ≤ s.mass → span_at f (a ++ (r ∷ s ∷ z)) w * (s.mass - r.mass) ≡ span (cell f r) (cell f s) w * gap_at (a ++ (r ∷ s ∷ z)) w
  unfolding span_at gap_at Rising
  straight [] z r s m h l k = around m r s z h k
  straight (c ∷ a) z r s m h l k = let i = past c a (s ∷ z) r m h l in rw (i.1, i.2) (around (before c a m h) r s z (later c a m h) k)
    where
      before : (c : Row) (a : List Row) (m : ℕ) → Rising m (c ∷ (a ++ (r ∷ s ∷ z))) → ℕ
      before c [] m h = c.mass
      before c (d ∷ a) m h = before d a c.mass h.2

      later : (c : Row) (a : List Row) (m : ℕ) (h : Rising m (c ∷ (a ++ (r ∷ s ∷ z)))) → Rising (before c a m h) (r ∷ s ∷ z)
      later c [] m h = h.2
      later c (d ∷ a) m h = later d a c.mass h.2

-- ---- the exact values are 01's fractions
abbrev from : ℕ → ℕ → List ℕ
from n zero = []
from n (suc k) = n ∷ from (suc n) k

each : (f : ℕ → ℕ) (k n i j : ℕ) → i < k → n + i ≡ j → get_or (map f (from n k)) i 0 ≡ f j
each f zero n i j l e = absurd (omega arith)
each f (suc k) n zero j l e = let z : n ≡ j = omega arith in ap f z
each f (suc k) n (suc i) j l e = each f k (suc n) i j (omega arith) (omega arith)

module _ (R : Reading) (limits : Limits R) where
  on_line : (f : Row → ℕ) → Straight R f (column f R)
  unfolding column over
  on_line f a z r s e h k = go (span_at f R.rows (weight R)) (weight R) (s.mass - r.mass) (span (cell f r) (cell f s) (weight R)) (gap_at R.rows (weight R)) (subst (λ (rows : List Row). span_at f rows (weight R) * (s.mass - r.mass) ≡ span (cell f r) (cell f s) (weight R) * gap_at rows (weight R)) e (straight f (weight R) a z r s 0 (subst (Rising 0) (sym e) limits.rising) h k))
    where
      go : (n w g p d : ℕ) → n * g ≡ p * d → n * (w * 981) * g ≡ p * (w * d * 981)
      go n w g p d h = omega (arith, ap (λ (x : ℕ). x * w) h)

  pub exact_fractions : Fractions R (exact R)
  unfolding exact over
  exact_fractions = record {
    kn = λ i l. subst (Straight R (λ v. get_or v.kn i 0)) (sym (each (λ i. column (λ v. get_or v.kn i 0) R) 13 0 i i l (omega arith))) (on_line (λ v. get_or v.kn i 0));
    km = on_line (λ v. v.km);
    kg = omega arith;
    lw1 = omega arith;
  }

-- ---- a reading is judged in tenths
pub in_unit : (R : Reading) → 0 < (loaded R).unit
unfolding loaded_in loaded_at
in_unit R = omega arith

-- ---- a reading that is judged: W is not below the first row, so it is above zero
module _ (R : Reading) (limits : Limits R) (judged : weighed R ≡ got tt) where
  floats : first_mass R.rows ≤ weight R
  unfolding in_table
  floats = leb-true (first_mass R.rows) (weight R) (both_true (leb (first_mass R.rows) (weight R)) (leb (weight R) (last_mass R.rows)) (weighed_inv tenths R judged).0).0

  pub some : 0 < weight R
  unfolding first_mass Rising
  some = go R.rows limits.few limits.rising floats
    where
      go : (rows : List Row) → 2 ≤ length rows → Rising 0 rows → first_mass rows ≤ weight R → 0 < weight R
      go [] l h k = absurd (omega arith)
      go (r ∷ rows) l h k = omega (arith, h.1)

  -- ---- the denominator is one
  pub over_pos : 0 < over R
  unfolding over gap_at first_mass
  over_pos = mul-pos (mul-pos some (go R.rows floats)) (omega arith)
    where
      go : (rows : List Row) → first_mass rows ≤ weight R → 0 < gap_at rows (weight R)
      go [] h = omega arith
      go (r ∷ rows) h = gap_pos r rows (weight R) h

  table_down : (f : Row → ℕ) → over R * between R.rows f (weight R) ≤ column f R
  unfolding between table gap_at span_at first_mass over column
  table_down f = wide (between R.rows f (weight R)) (gap_at R.rows (weight R)) (span_at f R.rows (weight R)) (weight R) (go R.rows floats)
    where
      go : (rows : List Row) → first_mass rows ≤ weight R → between rows f (weight R) * gap_at rows (weight R) ≤ span_at f rows (weight R)
      go [] h = omega arith
      go (r ∷ rows) h = rw (max-eq_left h) (onward_down f r rows (weight R) h)

      wide : (v g n w : ℕ) → v * g ≤ n → w * g * 981 * v ≤ n * (w * 981)
      wide v g n w h = omega (arith, mul-le-mul_right w h)

  -- ---- what is used is rounded from the exact values: KN and KM down, KG and lw1 up
  pub exact_behind : Behind (over R) (exact R) (loaded R)
  unfolding exact loaded_in loaded_at kn_at over
  exact_behind = record {
    kn = λ i. omega (arith, ap (λ (x : ℕ). over R * x) (get_or_finer tenths (map (λ i. between R.rows (λ v. get_or v.kn i 0) (weight R)) stations) i), each (over R) (λ i. between R.rows (λ v. get_or v.kn i 0) (weight R)) (λ i. column (λ v. get_or v.kn i 0) R) (λ i. table_down (λ v. get_or v.kn i 0)) stations i);
    km = omega (arith, table_down (λ v. v.km));
    kg = omega (arith, kg_less (total moment (entries_of R) + total free_surface (entries_of R)) (corrected_kg (entries_of R)) (weight R) (gap_at R.rows (weight R)) (kg_up tenths (entries_of R) some).over);
    lw1 = omega (arith, lw1_less (5040 * R.condition.weather.sky.wind_area * R.condition.weather.sky.z) (lw1 (loaded R)) (weight R) (gap_at R.rows (weight R)) (lw1_up (loaded R) some).over);
  }
    where
      each : (D : ℕ) (f g : ℕ → ℕ) → ((n : ℕ) → D * f n ≤ g n) → (l : List ℕ) (k : ℕ) → D * get_or (map f l) k 0 ≤ get_or (map g l) k 0
      each D f g h [] k = omega arith
      each D f g h (n ∷ l) zero = h n
      each D f g h (n ∷ l) (suc k) = each D f g h l k

      kg_less : (m k w g : ℕ) → tenths * m ≤ k * w → tenths * (m * (g * 981)) ≤ w * g * 981 * k
      kg_less m k w g h = omega (arith, mul-le-mul_right g h)

      lw1_less : (a l w g : ℕ) → a ≤ l * (981 * w) → 1 * (a * g) ≤ w * g * 981 * l
      lw1_less a l w g h = omega (arith, mul-le-mul_right g h)
