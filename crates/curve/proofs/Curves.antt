-- An array that holds the curve stands for it in every search and area of document 01.
use mathlib.Core.Path.{◌≡◌, refl, ap, sym, ◌∙◌}
use mathlib.Core.List.{List}
use Prim.Native.Nat.{ℕ, zero, suc, ◌+◌, ◌*◌, ◌≤◌}
use native.Mathlib.Omega.{arith}
use lib.ListN.{get_or}
use lib.IntN.{ℤ, pos, nat_abs, neg_ℤ, sub_ℕ}
use Rattle.rules.specs.Curve.{Loaded, lever, lever_z, y, E}
use Rattle.rules.specs.Ranges.{Fair, row_at}
use Rattle.rules.specs.Blocks.{row, weather}
use Rattle.rules.proofs.layout.Fields.{ok_at}
use Rattle.rules.proofs.rounding.Signed.{eq!, sub≡}
use Rattle.curve.specs.Levers.{Sized, Holds, held, up_to, most_y}
use Rattle.curve.proofs.Sizes.{y_within, areas_within}
use Rattle.curve.proofs.Limits.{kn_small}
use Rattle.curve.proofs.Areas.{Odd, up_to_same}

-- ---- 'y(-t) = -y(t)', at 0 too, where the first KN is 0
at_zero : (unit : ℕ) (kn : List ℕ) (kg : ℕ) → get_or kn 0 0 ≡ 0 → lever unit kn kg 0 ≡ pos 0
unfolding lever
at_zero unit kn kg upright =
    let a = unit * 100000 * (0 * 50 + get_or kn 1 0 * 0) in
    rw upright (eq! (sub_ℕ a (kg * 0)) (pos 0) (omega (arith, sub≡ a (kg * 0))))

pub lever_odd : (unit : ℕ) (kn : List ℕ) (kg : ℕ) → get_or kn 0 0 ≡ 0 → Odd (lever_z unit kn kg)
unfolding lever_z
lever_odd unit kn kg upright zero = at_zero unit kn kg upright ∙ ap neg_ℤ (sym (at_zero unit kn kg upright))
lever_odd unit kn kg upright (suc t) = refl

-- ---- the array in place of the curve
pub levers_held : (c : Loaded) {ys : List ℤ} → Holds (lever c.unit c.kn c.kg) ys → Holds (λ t. y c (pos t)) ys
unfolding lever_z
levers_held c h = h

pub areas_held : (c : Loaded) {ys zs : List ℤ} → Holds (λ t. y c (pos t)) ys → Holds (up_to (held ys)) zs → Holds (up_to (y c)) zs
unfolding held
areas_held c {ys} is h = record { long = h.long; at = λ n l. h.at n l ∙ up_to_same (held ys) (y c) n (λ t m. is.at t (omega arith)) }

-- ---- what a fair ship's curve rests on
module _ (c : Loaded) (fair : Fair c) where
  pub fair_sized : Sized c.kn c.kg
  fair_sized = record { forms = kn_small (row_at c) fair.form; centre = omega (arith, fair.centre) }

  pub fair_upright : get_or c.kn 0 0 ≡ 0
  fair_upright = omega (arith, (ok_at row (row_at c) fair.form 3).1)

  pub fair_end : E c ≤ 600
  fair_end = (ok_at (weather c.weather.set) c.weather.sky fair.sky 3).1

  -- No y of it is far from zero, and no area.
  y_near : (t : ℕ) → t ≤ 600 → nat_abs (y c (pos t)) ≤ most_y
  unfolding lever_z
  y_near t h = rw fair.unit (y_within c.kn c.kg fair_sized t h)

  pub up_to_within : (n : ℕ) → n ≤ 600 → nat_abs (up_to (y c) n) ≤ n * (2 * most_y)
  up_to_within n h = areas_within (y c) n (λ t l. y_near t (omega arith))
