-- The curve at q-ths of a tenth: between two tenths it is their straight line, to windward too.
use mathlib.Core.Path.{◌≡◌, refl, ap, sym, ◌∙◌, subst}
use mathlib.Core.List.{List}
use Prim.Native.Nat.{ℕ, zero, suc, ◌+◌, ◌-◌, ◌*◌, ◌/◌, ◌%◌, ◌≤◌, ◌<◌}
use native.Mathlib.Omega.{arith}
use native.Mathlib.Nat.{mul-add-div, mul-add-mod_self_left, div-eq_of_lt, mod-eq_of_lt, mod_self, div_self, mod-lt, div-add-mod, mul-le-mul_left, mul-zero, mul-pos, sub_self, sub-zero}
use native.Mathlib.Decide.{dec_lt}
use lib.ListN.{get_or}
use lib.IntN.{ℤ, pos, negsuc, neg_ℤ, sub_ℕ, ◌+ℤ◌, ◌*ℤ◌}
use Rattle.rules.specs.Curve.{Loaded, fifty, sines, lever, lever_z, y}
use Rattle.rules.proofs.rounding.Signed.{eq!, sub≡, add≡, up_neg, dn_neg, up_mull, dn_mull}
use Rattle.earned.specs.Gust.{stepped, lever_by, y_by}

-- ---- natural numbers: D steps from station to station
-- From the station j on, up to the next and there too.
from_station : (D : ℕ) → 0 < D → (vs : List ℕ) (j m : ℕ) → m ≤ D → stepped D vs (D * j + m) ≡ get_or vs j 0 * (D - m) + get_or vs (j + 1) 0 * m
from_station D some vs j m l = elim (dec_lt m D) [ yes k ↦ inside k | no k ↦ let e : D ≡ m = omega arith in subst (λ (m : ℕ). stepped D vs (D * j + m) ≡ get_or vs j 0 * (D - m) + get_or vs (j + 1) 0 * m) e next ]
  where
    value : (x i r : ℕ) → x / D ≡ i → x % D ≡ r → stepped D vs x ≡ get_or vs i 0 * (D - r) + get_or vs (i + 1) 0 * r
    value x i r e f = rw (e, f)

    inside : m < D → stepped D vs (D * j + m) ≡ get_or vs j 0 * (D - m) + get_or vs (j + 1) 0 * m
    inside k = let z : j + 0 ≡ j = omega arith in value (D * j + m) j m (mul-add-div some j m ∙ ap (λ (i : ℕ). j + i) (div-eq_of_lt k) ∙ z) (mul-add-mod_self_left D j m ∙ mod-eq_of_lt k)

    next : stepped D vs (D * j + D) ≡ get_or vs j 0 * (D - D) + get_or vs (j + 1) 0 * D
    next = value (D * j + D) (j + 1) 0 (mul-add-div some j D ∙ ap (λ (i : ℕ). j + i) (div_self some)) (mul-add-mod_self_left D j D ∙ mod_self D) ∙ go (get_or vs j 0) (get_or vs (j + 1) 0) (get_or vs (j + 1 + 1) 0)
      where
        go : (a b c : ℕ) → b * (D - 0) + c * 0 ≡ a * (D - D) + b * D
        go a b c = rw (sub_self D, mul-zero a, sub-zero D) (omega arith)

-- k steps for each of D: between two of the D, their straight line.
pub refined : (k D p r : ℕ) → 0 < k → 0 < D → p + r ≡ k → (vs : List ℕ) (x : ℕ) → stepped (k * D) vs (k * x + r) ≡ p * stepped D vs x + r * stepped D vs (x + 1)
refined k D p r some-k some-D e vs x = go (x / D) (x % D) (mod-lt x some-D) (div-add-mod x D)
  where
    line : (a b i n : ℕ) → D ≡ i + suc n → a * (k * D - (k * i + r)) + b * (k * i + r) ≡ p * (a * (D - i) + b * i) + r * (a * (D - (i + 1)) + b * (i + 1))
    line a b i n d =
        let left : k * D - (k * i + r) ≡ p * suc n + r * n = rw (d, ← e) (omega arith) in
        let one : D - i ≡ suc n = omega arith in
        let two : D - (i + 1) ≡ n = omega arith in
        rw (left, one, two, ← e) (omega arith)

    go : (j i : ℕ) → i < D → D * j + i ≡ x → stepped (k * D) vs (k * x + r) ≡ p * stepped D vs x + r * stepped D vs (x + 1)
    go j i l z =
        let fits : k * i + r ≤ k * D = omega (arith, mul-le-mul_left k l) in
        let at : k * x + r ≡ k * D * j + (k * i + r) = rw (← z) (omega arith) in
        let next : x + 1 ≡ D * j + (i + 1) = omega arith in
        ap (stepped (k * D) vs) at
        ∙ from_station (k * D) (mul-pos some-k some-D) vs j (k * i + r) fits
        ∙ line (get_or vs j 0) (get_or vs (j + 1) 0) i (D - suc i) (omega arith)
        ∙ sym (rw (next, ← z, from_station D some-D vs j i (omega arith), from_station D some-D vs j (i + 1) (omega arith)))

-- ---- y at q-ths of a tenth
module _ (q : ℕ) (some : 0 < q) (c : Loaded) where
  -- To leeward.
  pub lee : (p r t : ℕ) → p + r ≡ q → lever_by q c (q * t + r) ≡ pos p *ℤ lever c.unit c.kn c.kg t +ℤ pos r *ℤ lever c.unit c.kn c.kg (t + 1)
  unfolding lever_by lever
  lee p r t e = rw (refined q 50 p r some (omega arith) e c.kn t, refined q 50 p r some (omega arith) e sines t) (go (fifty c.kn t) (fifty c.kn (t + 1)) (fifty sines t) (fifty sines (t + 1)))
    where
      go : (v w a b : ℕ) → sub_ℕ (c.unit * 100_000 * (p * v + r * w)) (c.kg * (p * a + r * b)) ≡ pos p *ℤ sub_ℕ (c.unit * 100_000 * v) (c.kg * a) +ℤ pos r *ℤ sub_ℕ (c.unit * 100_000 * w) (c.kg * b)
      go v w a b =
          let x = sub_ℕ (c.unit * 100_000 * v) (c.kg * a) in
          let z = sub_ℕ (c.unit * 100_000 * w) (c.kg * b) in
          eq! (sub_ℕ (c.unit * 100_000 * (p * v + r * w)) (c.kg * (p * a + r * b))) (pos p *ℤ x +ℤ pos r *ℤ z)
          (omega (arith, sub≡ (c.unit * 100_000 * (p * v + r * w)) (c.kg * (p * a + r * b)), ap (λ (k : ℕ). p * k) (sub≡ (c.unit * 100_000 * v) (c.kg * a)), ap (λ (k : ℕ). r * k) (sub≡ (c.unit * 100_000 * w) (c.kg * b)), add≡ (pos p *ℤ x) (pos r *ℤ z), up_mull p x, dn_mull p x, up_mull r z, dn_mull r z))

  -- The curve begins at zero, so that it is one with its mirror.
  module _ (upright : y c (pos 0) ≡ pos 0) where
    leeward : (t : ℕ) → y c (neg_ℤ (pos t)) ≡ neg_ℤ (lever c.unit c.kn c.kg t)
    unfolding lever_z
    leeward zero = upright ∙ sym (ap neg_ℤ upright)
    leeward (suc t) = refl

    begins : lever_by q c 0 ≡ pos 0
    unfolding lever_z
    begins = let e : q * 0 + 0 ≡ 0 = omega arith in let p : q + 0 ≡ q = omega arith in sym (ap (lever_by q c) e) ∙ lee q 0 0 p ∙ nothing (lever c.unit c.kn c.kg (0 + 1)) upright
      where
        nothing : (z : ℤ) → lever c.unit c.kn c.kg 0 ≡ pos 0 → pos q *ℤ lever c.unit c.kn c.kg 0 +ℤ pos 0 *ℤ z ≡ pos 0
        nothing z e = rw e (eq! (pos q *ℤ pos 0 +ℤ pos 0 *ℤ z) (pos 0) (omega (arith, add≡ (pos q *ℤ pos 0) (pos 0 *ℤ z), up_mull 0 z, dn_mull 0 z)))

    mirrored : (x : ℕ) → y_by q c (neg_ℤ (pos x)) ≡ neg_ℤ (lever_by q c x)
    unfolding y_by
    mirrored zero = begins ∙ sym (ap neg_ℤ begins)
    mirrored (suc x) = refl

    pub between : (p r : ℕ) → p + r ≡ q → (z : ℤ) → y_by q c (pos q *ℤ z +ℤ pos r) ≡ pos p *ℤ y c z +ℤ pos r *ℤ y c (z +ℤ pos 1)
    unfolding y_by lever_z
    between p r e (pos t) = lee p r t e
    between p r e (negsuc t) =
        let at : pos q *ℤ negsuc t +ℤ pos r ≡ neg_ℤ (pos (q * t + p)) = eq! (pos q *ℤ negsuc t +ℤ pos r) (neg_ℤ (pos (q * t + p))) (omega (arith, add≡ (pos q *ℤ negsuc t) (pos r), up_mull q (negsuc t), dn_mull q (negsuc t), up_neg (pos (q * t + p)), dn_neg (pos (q * t + p)))) in
        let next : negsuc t +ℤ pos 1 ≡ neg_ℤ (pos t) = eq! (negsuc t +ℤ pos 1) (neg_ℤ (pos t)) (omega (arith, add≡ (negsuc t) (pos 1), up_neg (pos t), dn_neg (pos t))) in
        let back : r + p ≡ q = omega arith in
        let one : t + 1 ≡ suc t = omega arith in
        ap (y_by q c) at
        ∙ mirrored (q * t + p)
        ∙ ap neg_ℤ (lee r p t back ∙ ap (λ (k : ℕ). pos r *ℤ lever c.unit c.kn c.kg t +ℤ pos p *ℤ lever c.unit c.kn c.kg k) one)
        ∙ turned (lever c.unit c.kn c.kg t) (lever c.unit c.kn c.kg (suc t))
        ∙ ap (λ (v : ℤ). pos p *ℤ neg_ℤ (lever c.unit c.kn c.kg (suc t)) +ℤ pos r *ℤ v) (sym (leeward t))
        ∙ ap (λ (v : ℤ). pos p *ℤ neg_ℤ (lever c.unit c.kn c.kg (suc t)) +ℤ pos r *ℤ y c v) (sym next)
      where
        turned : (a b : ℤ) → neg_ℤ (pos r *ℤ a +ℤ pos p *ℤ b) ≡ pos p *ℤ neg_ℤ b +ℤ pos r *ℤ neg_ℤ a
        turned a b =
            let v = pos r *ℤ a +ℤ pos p *ℤ b in
            eq! (neg_ℤ v) (pos p *ℤ neg_ℤ b +ℤ pos r *ℤ neg_ℤ a)
            (omega (arith, up_neg v, dn_neg v, add≡ (pos r *ℤ a) (pos p *ℤ b), up_mull r a, dn_mull r a, up_mull p b, dn_mull p b, add≡ (pos p *ℤ neg_ℤ b) (pos r *ℤ neg_ℤ a), up_mull p (neg_ℤ b), dn_mull p (neg_ℤ b), up_mull r (neg_ℤ a), dn_mull r (neg_ℤ a), ap (λ (k : ℕ). p * k) (up_neg b), ap (λ (k : ℕ). p * k) (dn_neg b), ap (λ (k : ℕ). r * k) (up_neg a), ap (λ (k : ℕ). r * k) (dn_neg a)))
