-- The order lemma: the lever at t falls as KG rises and rises with KN; so areas and the greatest lever follow, and a level is reached no later.
use mathlib.Core.Path.{ap}
use mathlib.Core.Bool.{Bool, true, false}
use mathlib.Core.List.{List}
use Prim.Native.Nat.{ℕ, zero, suc, ◌+◌, ◌-◌, ◌*◌, ◌/◌, ◌%◌, ◌≤◌, ◌<◌}
use native.Mathlib.Omega.{arith}
use native.Mathlib.Nat.{mul-le-mul_left, mul-le-mul_right, le_of_mul-le-mul_left}
use native.Mathlib.Decide.{dec_le}
use lib.ListN.{get_or}
use lib.IntN.{ℤ, pos, sub_ℕ, nat_abs, ◌+ℤ◌, ◌-ℤ◌}
use lib.Signed.{lt_z}
use Rattle.rules.specs.Rounding.{peak, sum_z}
use Rattle.rules.specs.Loading.{millimetres}
use Rattle.rules.specs.Curve.{fifty, sines, lever, lever_z, area}
use Rattle.rules.specs.Criteria.{reaches}
use Rattle.rules.proofs.rounding.Signed.{Le, add≡, sub≡}
use Rattle.rules.proofs.rounding.Searches.{Peak, peak_is, Reaches, reaches_is}
use Rattle.earned.specs.Order.{NoLess, Hull, Better, curve, Follows}

-- ---- sums and differences keep the order, and so does a level that is reached
module _ (m n : ℕ) where
  pub difference : (a b a' b' : ℕ) → m * a ≤ n * a' → n * b' ≤ m * b → NoLess m n (sub_ℕ a b) (sub_ℕ a' b')
  difference a b a' b' h k = omega (arith, ap (λ (x : ℕ). m * x) (sub≡ a b), ap (λ (x : ℕ). n * x) (sub≡ a' b'))

  sum : (a b c d : ℤ) → NoLess m n a b → NoLess m n c d → NoLess m n (a +ℤ c) (b +ℤ d)
  sum a b c d h k = omega (arith, ap (λ (x : ℕ). m * x) (add≡ a c), ap (λ (x : ℕ). n * x) (add≡ b d))

  pub reached : 0 < n → (l l' : ℕ) (a b : ℤ) → n * l' ≤ m * l → NoLess m n a b → Le (pos l) a → Le (pos l') b
  reached i l l' a b h k p = le_of_mul-le-mul_left {k = n} (omega (arith, mul-le-mul_left m p)) i

  -- ---- the lever
  fifty_rises : (vs ws : List ℕ) → ((i : ℕ) → m * get_or vs i 0 ≤ n * get_or ws i 0) → (t : ℕ) → m * fifty vs t ≤ n * fifty ws t
  fifty_rises vs ws h t = go (get_or vs (t / 50) 0) (get_or vs (t / 50 + 1) 0) (get_or ws (t / 50) 0) (get_or ws (t / 50 + 1) 0) (50 - t % 50) (t % 50) (h (t / 50)) (h (t / 50 + 1))
    where
      go : (a b a' b' u v : ℕ) → m * a ≤ n * a' → m * b ≤ n * b' → m * (a * u + b * v) ≤ n * (a' * u + b' * v)
      go a b a' b' u v p q = omega (arith, mul-le-mul_right u p, mul-le-mul_right v q)

  lever_order : (h h' : Hull) → Better m n h h' → (t : ℕ) → NoLess m n (lever millimetres h.kn h.kg t) (lever millimetres h'.kn h'.kg t)
  unfolding lever
  lever_order h h' b t = difference (100000 * fifty h.kn t) (h.kg * fifty sines t) (100000 * fifty h'.kn t) (h'.kg * fifty sines t) (wide (fifty h.kn t) (fifty h'.kn t) (fifty_rises h.kn h'.kn (λ i. omega (arith, b.kn i)) t)) (falls (fifty sines t))
    where
      wide : (a b : ℕ) → m * a ≤ n * b → m * (100000 * a) ≤ n * (100000 * b)
      wide a b p = omega arith

      falls : (s : ℕ) → n * (h'.kg * s) ≤ m * (h.kg * s)
      falls s = omega (arith, mul-le-mul_right s b.kg)

-- ---- what follows for any two curves of which the second is nowhere less
module _ (m n : ℕ) (f g : ℤ → ℤ) (above : (t : ℕ) → NoLess m n (f (pos t)) (g (pos t))) where
  terms : (k t : ℕ) → NoLess m n (sum_z (λ z. f z +ℤ f (z +ℤ pos 1)) k (pos t)) (sum_z (λ z. g z +ℤ g (z +ℤ pos 1)) k (pos t))
  unfolding sum_z
  terms zero t = omega arith
  terms (suc k) t = sum m n (f (pos t) +ℤ f (pos (t + 1))) (g (pos t) +ℤ g (pos (t + 1))) (sum_z (λ z. f z +ℤ f (z +ℤ pos 1)) k (pos (t + 1))) (sum_z (λ z. g z +ℤ g (z +ℤ pos 1)) k (pos (t + 1))) (sum m n (f (pos t)) (g (pos t)) (f (pos (t + 1))) (g (pos (t + 1))) (above t) (above (t + 1))) (terms k (t + 1))

  area_order : (p q : ℕ) → NoLess m n (area f (pos p) (pos q)) (area g (pos p) (pos q))
  unfolding area
  area_order p q = go (lt_z (pos p) (pos q))
    where
      go : (b : Bool) → NoLess m n (elim b [ true ↦ sum_z (λ t. f t +ℤ f (t +ℤ pos 1)) (nat_abs (pos q -ℤ pos p)) (pos p) | false ↦ pos 0 ]) (elim b [ true ↦ sum_z (λ t. g t +ℤ g (t +ℤ pos 1)) (nat_abs (pos q -ℤ pos p)) (pos p) | false ↦ pos 0 ])
      go true = terms (nat_abs (pos q -ℤ pos p)) p
      go false = omega arith

  greatest_order : (t k : ℕ) → NoLess m n (f (pos (peak (λ j. f (pos j)) t k))) (g (pos (peak (λ j. g (pos j)) t k)))
  greatest_order t k = go (peak (λ j. f (pos j)) t k) (peak (λ j. g (pos j)) t k) (peak_is (λ j. f (pos j)) t k) (peak_is (λ j. g (pos j)) t k)
    where
      go : (r s : ℕ) → Peak (λ j. f (pos j)) t k r → Peak (λ j. g (pos j)) t k s → NoLess m n (f (pos r)) (g (pos s))
      go r s a b = omega (arith, above r, mul-le-mul_left n (b.most r a.low a.high))

  no_later : 0 < n → (l l' : ℕ) → n * l' ≤ m * l → (t e : ℕ) → reaches g (pos l') t e ≤ reaches f (pos l) t e
  no_later i l l' h t e = go (reaches f (pos l) t e) (reaches g (pos l') t e) (reaches_is f (pos l) t e) (reaches_is g (pos l') t e)
    where
      go : (r s : ℕ) → Reaches f (pos l) t e r → Reaches g (pos l') t e s → s ≤ r
      go r s a b = elim (dec_le s r) [
        | yes q ↦ q
        | no q ↦ absurd (omega (arith, reached m n i l l' (f (pos r)) (g (pos r)) h (above r) (a.hit (omega (arith, a.low, b.high))), b.before r a.low (omega arith)))
      ]

-- ---- the order lemma
pub order : (m n : ℕ) → 0 < n → (h h' : Hull) → Better m n h h' → Follows m n (curve h) (curve h')
unfolding lever_z
order m n some h h' better =
    let above = lever_order m n h h' better in
    record { levers = above; areas = area_order m n (curve h) (curve h') above; greatest = greatest_order m n (curve h) (curve h') above; level = no_later m n (curve h) (curve h') above some }
