-- The figures of criteria 1 to 4 as code takes them: two areas from 0, of which what lies from 30° on is the difference, and the lever at the peak.
use mathlib.Core.Path.{◌≡◌, ap, sym, ◌∙◌}
use Prim.Native.Nat.{ℕ, ◌-◌, ◌*◌, ◌^◌, ◌≤◌, ◌<◌, min}
use native.Mathlib.Omega.{arith}
use native.Mathlib.Decide.{dec_le}
use lib.IntN.{ℤ, pos, nat_abs, ◌-ℤ◌, +ℤ_invr}
use lib.Signed.{mag}
use mir.Syntax.{w64}
use mir.Val.{SFits, to_z, of_z}
use mir.Facts.{to_z-of_z}
use Rattle.rules.specs.Rounding.{peak}
use Rattle.rules.specs.Curve.{Loaded, y, E, area}
use Rattle.rules.specs.Criteria.{set, area1, area2, area3, greatest_lever}
use Rattle.rules.specs.Ranges.{Fair}
use Rattle.rules.proofs.criteria.Angles.{greatest_at}
use Rattle.rules.proofs.loading.Areas.{area_empty}
use Rattle.curve.specs.Levers.{up_to}
use Rattle.curve.proofs.Areas.{leeward}
use Rattle.curve.proofs.Curves.{up_to_within}
use Rattle.curve.proofs.Machine.{back}
use Rattle.gust.proofs.Machine.{abs_minus, fits}

-- The lever at the peak, from where the set looks.
pub looked : (c : Loaded) (from : ℕ) → from ≡ (set c).from → from ≤ E c → y c (pos (peak (λ t. y c (pos t)) from (E c - from))) ≡ greatest_lever c
looked c from e h = ap (λ n. y c (pos (peak (λ t. y c (pos t)) n (E c - n)))) e ∙ sym (greatest_at c (rw (← e) h))

module _ (c : Loaded) where
  pub area1_is : {z : ℤ} {t : ℕ} → z ≡ up_to (y c) t → t ≡ min (E c) 300 → z ≡ area1 c
  unfolding area1
  area1_is p q = let e : _ ≡ min 300 (E c) = omega (arith, q) in p ∙ ap (up_to (y c)) e

  pub area3_is : {z : ℤ} {t : ℕ} → z ≡ up_to (y c) t → t ≡ min (E c) 400 → z ≡ area3 c
  unfolding area3
  area3_is p q = let e : _ ≡ min 400 (E c) = omega (arith, q) in p ∙ ap (up_to (y c)) e

  area2_is : area3 c -ℤ area1 c ≡ area2 c
  unfolding area1 area2 area3
  area2_is = elim (dec_le (E c) 300) [ yes h ↦ short h | no h ↦ long h ]
    where
      short : E c ≤ 300 → up_to (y c) (min 400 (E c)) -ℤ up_to (y c) (min 300 (E c)) ≡ area (y c) (pos 300) (pos (min 400 (E c)))
      short h =
          let a : min 300 (E c) ≡ E c = omega arith in
          let b : min 400 (E c) ≡ E c = omega arith in
          rw (a, b) (+ℤ_invr (up_to (y c) (E c)) ∙ sym (area_empty (y c) (pos 300) (pos (E c)) (omega arith)))

      long : (E c ≤ 300 → ⊥) → up_to (y c) (min 400 (E c)) -ℤ up_to (y c) (min 300 (E c)) ≡ area (y c) (pos 300) (pos (min 400 (E c)))
      long h = let a : min 300 (E c) ≡ 300 = omega arith in rw a (sym (leeward (y c) 300 (min 400 (E c)) (omega arith)))

  area2_within : Fair c → nat_abs (area3 c -ℤ area1 c) ≤ 2 * 10 ^ 16
  unfolding area1 area3
  area2_within fair =
      omega (arith, abs_minus (up_to (y c) (min 400 (E c))) (up_to (y c) (min 300 (E c))), up_to_within c fair (min 400 (E c)) (omega arith), up_to_within c fair (min 300 (E c)) (omega arith))

  -- What is left of the greater area, as the machine holds them.
  module _ (fair : Fair c) {a b : ℤ} (p : a ≡ area1 c) (q : b ≡ area3 c) (h : mag a < 2 ^ 63) (k : mag b < 2 ^ 63) where
    left : to_z w64 (of_z w64 b) -ℤ to_z w64 (of_z w64 a) ≡ area3 c -ℤ area1 c
    left = rw (back a h, back b k, p, q)

    pub left_fits : SFits w64 (to_z w64 (of_z w64 b) -ℤ to_z w64 (of_z w64 a))
    left_fits = rw left (fits _ (omega (arith, area2_within fair)))

    pub left_is : to_z w64 (of_z w64 (to_z w64 (of_z w64 b) -ℤ to_z w64 (of_z w64 a))) ≡ area2 c
    left_is = to_z-of_z left_fits ∙ left ∙ area2_is
