-- Criterion 5: with KN as used, the first greatest lever lies no earlier where KG is no greater. So no pass of it is owed to the rounding of KG.
use mathlib.Core.Path.{◌≡◌, ap, subst, fun_ext}
use mathlib.Core.Bool.{Bool, true, false, ◌&&◌}
use Prim.Native.Nat.{ℕ, zero, suc, ◌+◌, ◌-◌, ◌*◌, ◌/◌, ◌%◌, ◌≤◌, ◌<◌}
use native.Mathlib.Omega.{arith}
use native.Mathlib.Nat.{mul-le-mul_left, le_refl, le_trans}
use native.Mathlib.Decide.{dec_le, ℕ_discrete}
use lib.Dec.{T, leb, leb→le}
use lib.ListN.{get_or}
use lib.IntN.{ℤ, pos, sub_ℕ}
use borrow.Author.Tests.{leb-true, le-leb}
use Rattle.rules.specs.Rounding.{peak}
use Rattle.rules.specs.Blocks.{Sky, Weather, weather, ok_weather, ok, within}
use Rattle.rules.specs.Loading.{millimetres}
use Rattle.rules.specs.Curve.{Loaded, fifty, sines, lever, lever_z}
use Rattle.rules.specs.Criteria.{Criteria, set, angle_of_greatest, passes5}
use Rattle.rules.proofs.rounding.Signed.{up, dn, sub≡}
use Rattle.rules.proofs.layout.Fields.{both_true, Limited, limited}
use Rattle.rules.proofs.rounding.Searches.{Peak, peak_is}
use Rattle.earned.specs.Order.{Hull, Better}
use Rattle.earned.specs.Verdicts.{used, Behind, passes_fifth}
use Rattle.earned.proofs.Keeps.{get_or_finer, lever_used, curve_used}

-- ---- the straight-line sine curve does not fall up to 60 degrees: by computing
abbrev rises : (ℕ → ℕ) → ℕ → Bool
rises f zero = true
rises f (suc n) = leb (f n) (f (suc n)) && rises f n

step : (f : ℕ → ℕ) (n : ℕ) → T (rises f n) → (t : ℕ) → t < n → f t ≤ f (suc t)
step f zero h t l = absurd (omega arith)
step f (suc n) h t l = go (leb (f n) (f (suc n))) (leb→le (f n) (f (suc n))) h (λ k. step f n k t)
  where
    go : (b : Bool) → (T b → f n ≤ f (suc n)) → T (b && rises f n) → (T (rises f n) → t < n → f t ≤ f (suc t)) → f t ≤ f (suc t)
    go true r k before = elim (ℕ_discrete n t) [ yes e ↦ subst (λ (m : ℕ). f m ≤ f (suc m)) e (r tt) | no e ↦ before k (omega arith) ]
    go false r k before = absurd k

steps : (f : ℕ → ℕ) (n : ℕ) → T (rises f n) → (j d : ℕ) → j + d ≤ n → f j ≤ f (j + d)
steps f n h j zero l = let e : j ≡ j + 0 = omega arith in subst (λ (m : ℕ). f j ≤ f m) e (le_refl (f j))
steps f n h j (suc d) l = let e : suc (j + d) ≡ j + suc d = omega arith in subst (λ (m : ℕ). f j ≤ f m) e (le_trans (steps f n h j d (omega arith)) (step f n h (j + d) (omega arith)))

sine_rises : (j k : ℕ) → j ≤ k → k ≤ 600 → fifty sines j ≤ fifty sines k
sine_rises j k l m = let e : j + (k - j) ≡ k = omega arith in subst (λ (x : ℕ). fifty sines j ≤ fifty sines x) e (steps (fifty sines) 600 tt j (k - j) (omega arith))

-- ---- n g - m f is at k no less than at j
abbrev Gains : ℕ → ℕ → (ℕ → ℤ) → (ℕ → ℤ) → ℕ → ℕ → Type 0
Gains m n f g j k = n * up (g j) + m * dn (f j) + (n * dn (g k) + m * up (f k)) ≤ n * up (g k) + m * dn (f k) + (n * dn (g j) + m * up (f j))

-- A curve that gains the more the further out has its first greatest value no earlier.
no_earlier : (m n : ℕ) → 0 < m → (f g : ℕ → ℤ) (t k : ℕ) → ((i j : ℕ) → i ≤ j → j ≤ t + k → Gains m n f g i j) → peak f t k ≤ peak g t k
no_earlier m n some f g t k h = go (peak f t k) (peak g t k) (peak_is f t k) (peak_is g t k)
  where
    go : (r s : ℕ) → Peak f t k r → Peak g t k s → r ≤ s
    go r s a b = elim (dec_le r s) [
      | yes i ↦ i
      | no i ↦ absurd (omega (arith, some, mul-le-mul_left m (a.before s b.low (omega arith)), mul-le-mul_left n (b.most r a.low a.high), h s r (omega arith) a.high))
    ]

times : (k a b : ℕ) → k * up (sub_ℕ a b) + k * b ≡ k * a + k * dn (sub_ℕ a b)
times k a b = omega (arith, ap (λ (x : ℕ). k * x) (sub≡ a b))

module _ (m n : ℕ) (h h' : Hull) (better : Better m n h h') (same : (i : ℕ) → m * get_or h.kn i 0 ≡ n * get_or h'.kn i 0) where
  fifty_same : (t : ℕ) → m * fifty h.kn t ≡ n * fifty h'.kn t
  fifty_same t = go (get_or h.kn (t / 50) 0) (get_or h.kn (t / 50 + 1) 0) (get_or h'.kn (t / 50) 0) (get_or h'.kn (t / 50 + 1) 0) (50 - t % 50) (t % 50) (same (t / 50)) (same (t / 50 + 1))
    where
      go : (a b a' b' u v : ℕ) → m * a ≡ n * a' → m * b ≡ n * b' → m * (a * u + b * v) ≡ n * (a' * u + b' * v)
      go a b a' b' u v p q = omega (arith, ap (λ (x : ℕ). x * u) p, ap (λ (x : ℕ). x * v) q)

  -- (m kg - n kg') s ≤ (m kg - n kg') u
  more : (s u : ℕ) → s ≤ u → m * (h.kg * s) + n * (h'.kg * u) ≤ m * (h.kg * u) + n * (h'.kg * s)
  more s u p = let e : m * h.kg ≡ n * h'.kg + (m * h.kg - n * h'.kg) = omega (arith, better.kg) in omega (arith, mul-le-mul_left (m * h.kg - n * h'.kg) p, ap (λ (x : ℕ). x * s) e, ap (λ (x : ℕ). x * u) e)

  gains : (j k : ℕ) → j ≤ k → k ≤ 600 → Gains m n (lever millimetres h.kn h.kg) (lever millimetres h'.kn h'.kg) j k
  unfolding lever
  gains j k l x = go (100000 * fifty h.kn j) (100000 * fifty h'.kn j) (100000 * fifty h.kn k) (100000 * fifty h'.kn k) (h.kg * fifty sines j) (h'.kg * fifty sines j) (h.kg * fifty sines k) (h'.kg * fifty sines k) (wide (fifty h.kn j) (fifty h'.kn j) (fifty_same j)) (wide (fifty h.kn k) (fifty h'.kn k) (fifty_same k)) (more (fifty sines j) (fifty sines k) (sine_rises j k l x))
    where
      wide : (a b : ℕ) → m * a ≡ n * b → m * (100000 * a) ≡ n * (100000 * b)
      wide a b p = omega arith

      go : (a a' b b' s s' u u' : ℕ) → m * a ≡ n * a' → m * b ≡ n * b' → m * s + n * u' ≤ m * u + n * s' → n * up (sub_ℕ a' s') + m * dn (sub_ℕ a s) + (n * dn (sub_ℕ b' u') + m * up (sub_ℕ b u)) ≤ n * up (sub_ℕ b' u') + m * dn (sub_ℕ b u) + (n * dn (sub_ℕ a' s') + m * up (sub_ℕ a s))
      go a a' b b' s s' u u' p q r = omega (arith, times n a' s', times m a s, times n b' u', times m b u)

  pub angle_order : 0 < m → (e : ℕ) → e ≤ 600 → peak (lever millimetres h.kn h.kg) 0 e ≤ peak (lever millimetres h'.kn h'.kg) 0 e
  angle_order some e l = no_earlier m n some (lever millimetres h.kn h.kg) (lever millimetres h'.kn h'.kg) 0 e (λ j k p q. gains j k p (omega arith))

  -- So a pass of 5 is kept, over any set.
  pub fifth_keeps : 0 < m → (s : Criteria) (c : Sky) → c.flooding ≤ 600 → passes_fifth s c h ≡ true → passes_fifth s c h' ≡ true
  unfolding passes_fifth lever_z
  fifth_keeps some s c l p =
      let e = c.flooding in
      le-leb s.angle (peak (lever millimetres h'.kn h'.kg) 0 e) (omega (arith, leb-true s.angle (peak (lever millimetres h.kn h.kg) 0 e) p, angle_order some e l))

-- ---- the flooding angle is at most 60 degrees
pub flooding_to : (w : Weather) → ok_weather w ≡ true → w.sky.flooding ≤ 600
unfolding ok Limited
flooding_to w h = let L = weather w.set in (limited L.fields (L.listed w.sky) (both_true (within L.fields (L.listed w.sky)) (L.further w.sky) h).0).2.2.2.1

-- The judgement's verdict is that of the hull used: the angle of the greatest lever is.
pub fifth_over_unit : (c : Loaded) → passes_fifth (set c) c.weather.sky (used c) ≡ passes5 c
unfolding passes_fifth passes5 angle_of_greatest
fifth_over_unit c = ap (λ (f : ℤ → ℤ). leb (set c).angle (peak (λ t. f (pos t)) 0 c.weather.sky.flooding)) (curve_used c)

-- The angle of the greatest lever is that of the hull used.
pub angle_used : (c : Loaded) → peak (lever millimetres (used c).kn c.kg) 0 c.weather.sky.flooding ≡ peak (lever c.unit c.kn c.kg) 0 c.weather.sky.flooding
angle_used c = ap (λ (f : ℕ → ℤ). peak f 0 c.weather.sky.flooding) (fun_ext (lever_used c))

pub fifth : (D : ℕ) → 0 < D → (h : Hull) (c : Loaded) → ok_weather c.weather ≡ true → Behind D h c → ((i : ℕ) → get_or h.kn i 0 ≡ D * get_or c.kn i 0) → passes5 c ≡ true → passes_fifth (set c) c.weather.sky h ≡ true
unfolding passes5 angle_of_greatest passes_fifth lever_z
fifth D some h c ok behind same p =
    let e = c.weather.sky.flooding in
    le-leb (set c).angle (peak (lever millimetres h.kn h.kg) 0 e) (omega (arith, leb-true (set c).angle (peak (lever c.unit c.kn c.kg) 0 e) p, angle_used c, angle_order D c.unit (used c) h behind alike some e (flooding_to c.weather ok)))
  where
    alike : (i : ℕ) → D * get_or (used c).kn i 0 ≡ c.unit * get_or h.kn i 0
    alike i = rw (get_or_finer c.unit c.kn i, same i) (turn (get_or c.kn i 0))
      where
        turn : (a : ℕ) → D * (c.unit * a) ≡ c.unit * (D * a)
        turn a = omega arith
