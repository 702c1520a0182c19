-- Areas on a grid: a net area is a sum over its steps, which can be cut anywhere, and the sum over a finer grid is the same, q² times.
use mathlib.Core.Path.{◌≡◌, refl, ap, sym, ◌∙◌, subst}
use mathlib.Core.Bool.{Bool, true, false}
use Prim.Native.Nat.{ℕ, zero, suc, ◌+◌, ◌*◌, ◌<◌}
use native.Mathlib.Omega.{arith}
use native.Mathlib.Nat.{mul-zero}
use lib.IntN.{ℤ, pos, negsuc, nat_abs, ◌+ℤ◌, ◌-ℤ◌, ◌*ℤ◌}
use lib.Signed.{lt_z}
use Rattle.rules.specs.Rounding.{sum_z}
use Rattle.rules.specs.Curve.{area}
use Rattle.rules.proofs.rounding.Signed.{up, dn, Le, eq!, not_below, add≡, diff≡, up_mull, dn_mull}

-- The two levers at the ends of a step.
abbrev pub pair : (ℤ → ℤ) → ℤ → ℤ
pair f x = f x +ℤ f (x +ℤ pos 1)

-- What a curve has over a level.
abbrev pub over : (ℤ → ℤ) → ℕ → ℤ → ℤ
over f l x = f x -ℤ pos l

-- ---- cutting a sum
shift : (t : ℤ) (a b k : ℕ) → a + b ≡ k → t +ℤ pos a +ℤ pos b ≡ t +ℤ pos k
shift t a b k e = eq! (t +ℤ pos a +ℤ pos b) (t +ℤ pos k) (omega (arith, add≡ t (pos a), add≡ (t +ℤ pos a) (pos b), add≡ t (pos k)))

module _ (g : ℤ → ℤ) where
  pub cut : (m n k : ℕ) (t : ℤ) → m + n ≡ k → sum_z g k t ≡ sum_z g m t +ℤ sum_z g n (t +ℤ pos m)
  unfolding sum_z
  cut zero n k t e =
      let z : k ≡ n = omega arith in
      let s : t ≡ t +ℤ pos 0 = eq! t (t +ℤ pos 0) (omega (arith, add≡ t (pos 0))) in
      rw z (ap (sum_z g n) s ∙ plain (sum_z g n (t +ℤ pos 0)))
    where
      plain : (z : ℤ) → z ≡ pos 0 +ℤ z
      plain z = eq! z (pos 0 +ℤ z) (omega (arith, add≡ (pos 0) z))
  cut (suc m) n zero t e = absurd (omega arith)
  cut (suc m) n (suc k) t e = ap (λ (z : ℤ). g t +ℤ z) (cut m n k (t +ℤ pos 1) (omega arith) ∙ ap (λ (s : ℤ). sum_z g m (t +ℤ pos 1) +ℤ sum_z g n s) (shift t 1 m (suc m) (omega arith))) ∙ regroup (g t) (sum_z g m (t +ℤ pos 1)) (sum_z g n (t +ℤ pos (suc m)))
    where
      regroup : (a b c : ℤ) → a +ℤ (b +ℤ c) ≡ a +ℤ b +ℤ c
      regroup a b c = eq! (a +ℤ (b +ℤ c)) (a +ℤ b +ℤ c) (omega (arith, add≡ b c, add≡ a (b +ℤ c), add≡ a b, add≡ (a +ℤ b) c))

  -- A sum of what is nowhere below zero.
  pub not_negative : (n : ℕ) (t : ℤ) → ((k : ℕ) → k < n → Le (pos 0) (g (t +ℤ pos k))) → Le (pos 0) (sum_z g n t)
  unfolding sum_z
  not_negative zero t h = omega arith
  not_negative (suc n) t h =
      let here = subst (λ (z : ℤ). Le (pos 0) (g z)) (eq! (t +ℤ pos 0) t (omega (arith, add≡ t (pos 0)))) (h 0 (omega arith)) in
      let rest = not_negative n (t +ℤ pos 1) (λ k l. subst (λ (z : ℤ). Le (pos 0) (g z)) (sym (shift t 1 k (suc k) (omega arith))) (h (suc k) (omega arith))) in
      omega (arith, add≡ (g t) (sum_z g n (t +ℤ pos 1)))

  pub not_positive : (n : ℕ) (t : ℤ) → ((k : ℕ) → k < n → Le (g (t +ℤ pos k)) (pos 0)) → Le (sum_z g n t) (pos 0)
  unfolding sum_z
  not_positive zero t h = omega arith
  not_positive (suc n) t h =
      let here = subst (λ (z : ℤ). Le (g z) (pos 0)) (eq! (t +ℤ pos 0) t (omega (arith, add≡ t (pos 0)))) (h 0 (omega arith)) in
      let rest = not_positive n (t +ℤ pos 1) (λ k l. subst (λ (z : ℤ). Le (g z) (pos 0)) (sym (shift t 1 k (suc k) (omega arith))) (h (suc k) (omega arith))) in
      omega (arith, add≡ (g t) (sum_z g n (t +ℤ pos 1)))

-- ---- a net area is a sum
module _ (f : ℤ → ℤ) where
  counted : (n : ℕ) (p q : ℤ) → q ≡ p +ℤ pos n → area f p q ≡ sum_z (pair f) n p
  unfolding area sum_z
  counted n p q e = go (lt_z p q) refl n (omega (arith, add≡ p (pos n), ap up e, ap dn e))
    where
      steps : (z : ℤ) (n : ℕ) → up z ≡ n + dn z → nat_abs z ≡ n
      steps (pos k) n h = omega arith
      steps (negsuc k) n h = absurd (omega arith)

      go : (b : Bool) → lt_z p q ≡ b → (n : ℕ) → up q + dn p ≡ up p + n + dn q → elim b [ true ↦ sum_z (pair f) (nat_abs (q -ℤ p)) p | false ↦ pos 0 ] ≡ sum_z (pair f) n p
      go true t n h = ap (λ (k : ℕ). sum_z (pair f) k p) (steps (q -ℤ p) n (omega (arith, diff≡ q p)))
      go false t zero h = refl
      go false t (suc n) h = absurd (omega (arith, not_below p q t))

  levelled : (l n : ℕ) (t : ℤ) → sum_z (pair f) n t ≡ sum_z (pair (over f l)) n t +ℤ pos (2 * l * n)
  unfolding sum_z
  levelled l zero t = eq! (pos 0) (pos 0 +ℤ pos (2 * l * 0)) (omega arith)
  levelled l (suc n) t = ap (λ (z : ℤ). f t +ℤ f (t +ℤ pos 1) +ℤ z) (levelled l n (t +ℤ pos 1)) ∙ go (f t) (f (t +ℤ pos 1)) (sum_z (pair (over f l)) n (t +ℤ pos 1))
    where
      go : (a b s : ℤ) → a +ℤ b +ℤ (s +ℤ pos (2 * l * n)) ≡ a -ℤ pos l +ℤ (b -ℤ pos l) +ℤ s +ℤ pos (2 * l * suc n)
      go a b s =
          let v = s +ℤ pos (2 * l * n) in
          let c = a -ℤ pos l in
          let d = b -ℤ pos l in
          eq! (a +ℤ b +ℤ v) (c +ℤ d +ℤ s +ℤ pos (2 * l * suc n)) (omega (arith, add≡ s (pos (2 * l * n)), add≡ a b, add≡ (a +ℤ b) v, diff≡ a (pos l), diff≡ b (pos l), add≡ c d, add≡ (c +ℤ d) s, add≡ (c +ℤ d +ℤ s) (pos (2 * l * suc n))))

  pub net_is : (l n : ℕ) (p q : ℤ) → q ≡ p +ℤ pos n → area f p q -ℤ pos 2 *ℤ pos l *ℤ (q -ℤ p) ≡ sum_z (pair (over f l)) n p
  net_is l n p q e = ap (λ (z : ℤ). z -ℤ pos 2 *ℤ pos l *ℤ (q -ℤ p)) (counted n p q e ∙ levelled l n p) ∙ ap (λ (z : ℤ). sum_z (pair (over f l)) n p +ℤ pos (2 * l * n) -ℤ pos 2 *ℤ pos l *ℤ z) width ∙ go (sum_z (pair (over f l)) n p)
    where
      width : q -ℤ p ≡ pos n
      width = eq! (q -ℤ p) (pos n) (omega (arith, diff≡ q p, add≡ p (pos n), ap up e, ap dn e))

      go : (s : ℤ) → s +ℤ pos (2 * l * n) -ℤ pos (2 * l * n) ≡ s
      go s = eq! (s +ℤ pos (2 * l * n) -ℤ pos (2 * l * n)) s (omega (arith, add≡ s (pos (2 * l * n)), diff≡ (s +ℤ pos (2 * l * n)) (pos (2 * l * n))))

-- ---- q steps for each of another grid, with the straight line between
pub linear : (j k : ℕ) (x z : ℤ) → up (pos j *ℤ x +ℤ pos k *ℤ z) + (j * dn x + k * dn z) ≡ j * up x + k * up z + dn (pos j *ℤ x +ℤ pos k *ℤ z)
linear j k x z = omega (arith, add≡ (pos j *ℤ x) (pos k *ℤ z), up_mull j x, dn_mull j x, up_mull k z, dn_mull k z)

abbrev pub Between : ℕ → (ℤ → ℤ) → (ℤ → ℤ) → Type 0
Between q fine f = (p r : ℕ) → p + r ≡ q → (z : ℤ) → fine (pos q *ℤ z +ℤ pos r) ≡ pos p *ℤ f z +ℤ pos r *ℤ f (z +ℤ pos 1)

-- Over a level too.
pub between_over : (q l : ℕ) (fine f : ℤ → ℤ) → Between q fine f → Between q (over fine (q * l)) (over f l)
between_over q l fine f h p r e z = ap (λ (v : ℤ). v -ℤ pos (q * l)) (h p r e z) ∙ go (f z) (f (z +ℤ pos 1))
  where
    go : (a b : ℤ) → pos p *ℤ a +ℤ pos r *ℤ b -ℤ pos (q * l) ≡ pos p *ℤ (a -ℤ pos l) +ℤ pos r *ℤ (b -ℤ pos l)
    go a b =
        let v = pos p *ℤ a +ℤ pos r *ℤ b in
        let x = a -ℤ pos l in
        let y = b -ℤ pos l in
        eq! (v -ℤ pos (q * l)) (pos p *ℤ x +ℤ pos r *ℤ y) (omega (arith, diff≡ v (pos (q * l)), linear p r a b, linear p r x y, ap (λ (k : ℕ). p * k) (diff≡ a (pos l)), ap (λ (k : ℕ). r * k) (diff≡ b (pos l)), ap (λ (k : ℕ). k * l) e))

module _ (q : ℕ) (fine f : ℤ → ℤ) (between : Between q fine f) where
  -- The first r of the q steps.
  pub part : (r p : ℕ) → p + r ≡ q → (z : ℤ) → sum_z (pair fine) r (pos q *ℤ z) ≡ pos (r * (2 * p + r)) *ℤ f z +ℤ pos (r * r) *ℤ f (z +ℤ pos 1)
  unfolding sum_z
  part zero p e z = none (f z) (f (z +ℤ pos 1))
    where
      none : (a b : ℤ) → pos 0 ≡ pos (0 * (2 * p + 0)) *ℤ a +ℤ pos (0 * 0) *ℤ b
      none a b = eq! (pos 0) (pos (0 * (2 * p + 0)) *ℤ a +ℤ pos (0 * 0) *ℤ b) (omega (arith, linear (0 * (2 * p + 0)) (0 * 0) a b))
  part (suc r) p e z = cut (pair fine) r 1 (suc r) (pos q *ℤ z) (omega arith) ∙ go (sum_z (pair fine) r (pos q *ℤ z)) (fine (pos q *ℤ z +ℤ pos r)) (fine (pos q *ℤ z +ℤ pos r +ℤ pos 1)) (f z) (f (z +ℤ pos 1)) (part r (suc p) (omega arith) z) (between (suc p) r (omega arith) z) (ap fine (shift (pos q *ℤ z) r 1 (suc r) (omega arith)) ∙ between p (suc r) e z)
    where
      go : (n x x' a b : ℤ) → n ≡ pos (r * (2 * suc p + r)) *ℤ a +ℤ pos (r * r) *ℤ b → x ≡ pos (suc p) *ℤ a +ℤ pos r *ℤ b → x' ≡ pos p *ℤ a +ℤ pos (suc r) *ℤ b → n +ℤ (x +ℤ x' +ℤ pos 0) ≡ pos (suc r * (2 * p + suc r)) *ℤ a +ℤ pos (suc r * suc r) *ℤ b
      go n x x' a b en ex ex' =
          eq! (n +ℤ (x +ℤ x' +ℤ pos 0)) (pos (suc r * (2 * p + suc r)) *ℤ a +ℤ pos (suc r * suc r) *ℤ b)
          (omega (arith, ap up en, ap dn en, ap up ex, ap dn ex, ap up ex', ap dn ex', linear (r * (2 * suc p + r)) (r * r) a b, linear (suc p) r a b, linear p (suc r) a b, linear (suc r * (2 * p + suc r)) (suc r * suc r) a b, add≡ x x', add≡ (x +ℤ x') (pos 0), add≡ n (x +ℤ x' +ℤ pos 0)))

  -- All of them, and so of each step.
  pub whole : (n : ℕ) (z : ℤ) → sum_z (pair fine) (q * n) (pos q *ℤ z) ≡ pos (q * q) *ℤ sum_z (pair f) n z
  unfolding sum_z
  whole zero z = let e : 0 ≡ q * q * 0 = omega arith in ap (λ (k : ℕ). sum_z (pair fine) k (pos q *ℤ z)) (mul-zero q) ∙ ap pos e
  whole (suc n) z = cut (pair fine) q (q * n) (q * suc n) (pos q *ℤ z) (omega arith) ∙ go (sum_z (pair fine) q (pos q *ℤ z)) (sum_z (pair fine) (q * n) (pos q *ℤ z +ℤ pos q)) (f z) (f (z +ℤ pos 1)) (sum_z (pair f) n (z +ℤ pos 1)) (part q 0 (omega arith) z) (ap (sum_z (pair fine) (q * n)) next ∙ whole n (z +ℤ pos 1))
    where
      next : pos q *ℤ z +ℤ pos q ≡ pos q *ℤ (z +ℤ pos 1)
      next = eq! (pos q *ℤ z +ℤ pos q) (pos q *ℤ (z +ℤ pos 1)) (omega (arith, add≡ (pos q *ℤ z) (pos q), up_mull q z, dn_mull q z, up_mull q (z +ℤ pos 1), dn_mull q (z +ℤ pos 1), ap (λ (k : ℕ). q * k) (add≡ z (pos 1))))

      go : (x s a b n : ℤ) → x ≡ pos (q * (2 * 0 + q)) *ℤ a +ℤ pos (q * q) *ℤ b → s ≡ pos (q * q) *ℤ n → x +ℤ s ≡ pos (q * q) *ℤ (a +ℤ b +ℤ n)
      go x s a b n ex es =
          eq! (x +ℤ s) (pos (q * q) *ℤ (a +ℤ b +ℤ n))
          (omega (arith, ap up ex, ap dn ex, ap up es, ap dn es, linear (q * (2 * 0 + q)) (q * q) a b, up_mull (q * q) n, dn_mull (q * q) n, add≡ x s, up_mull (q * q) (a +ℤ b +ℤ n), dn_mull (q * q) (a +ℤ b +ℤ n), ap (λ (k : ℕ). q * q * k) (add≡ (a +ℤ b) n), ap (λ (k : ℕ). q * q * k) (add≡ a b)))
