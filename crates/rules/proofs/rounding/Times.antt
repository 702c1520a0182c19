-- What multiplication by one number keeps: sums, tests, the searches along a curve, and a quotient rounded up.
use mathlib.Core.Path.{◌≡◌, refl, ap, sym, ◌∙◌, fun_ext}
use mathlib.Core.Bool.{Bool, true, false}
use Prim.Native.Nat.{ℕ, zero, suc, ◌-◌, ◌*◌, ◌<◌}
use native.Mathlib.Omega.{arith}
use native.Mathlib.Nat.{mul-le-mul_left, mul-lt-mul_of_pos_left, mul-zero}
use lib.Dec.{leb, ltb}
use lib.IntN.{ℤ, pos, neg_ℤ, sub_ℕ, nat_abs, ◌+ℤ◌, ◌-ℤ◌, ◌*ℤ◌}
use lib.Signed.{le_z, lt_z}
use Rattle.rules.specs.Rounding.{ceil_z, first_in, peak, sum_z}
use Rattle.rules.specs.Curve.{area}
use Rattle.rules.specs.Criteria.{reaches}
use Rattle.rules.specs.Roll.{stays}
use Rattle.rules.proofs.rounding.Signed.{Le, Lt, eq!, below, not_below, at_least, not_at_least, le_true, le_false, sub≡, add≡, up_neg, dn_neg, up_mull, dn_mull, up_mulr, dn_mulr}
use Rattle.rules.proofs.rounding.Rounding.{CeilingZ, ceil_z_is, ceiling_z_unique}
use Rattle.rules.proofs.rounding.Searches.{Peak, peak_is, peak_unique}

module _ (n : ℕ) where
  abbrev pub times : ℤ → ℤ
  times z = pos n *ℤ z

  pub times_sub : (a b : ℕ) → sub_ℕ (n * a) (n * b) ≡ times (sub_ℕ a b)
  times_sub a b = eq! (sub_ℕ (n * a) (n * b)) (times (sub_ℕ a b)) (omega (arith, sub≡ (n * a) (n * b), ap (λ (x : ℕ). n * x) (sub≡ a b), up_mull n (sub_ℕ a b), dn_mull n (sub_ℕ a b)))

  pub times_neg : (a : ℤ) → neg_ℤ (times a) ≡ times (neg_ℤ a)
  times_neg a = eq! (neg_ℤ (times a)) (times (neg_ℤ a)) (omega (arith, up_neg (times a), dn_neg (times a), up_mull n a, dn_mull n a, up_mull n (neg_ℤ a), dn_mull n (neg_ℤ a), ap (λ (x : ℕ). n * x) (up_neg a), ap (λ (x : ℕ). n * x) (dn_neg a)))

  times_add : (a b : ℤ) → times a +ℤ times b ≡ times (a +ℤ b)
  times_add a b = eq! (times a +ℤ times b) (times (a +ℤ b)) (omega (arith, add≡ (times a) (times b), ap (λ (x : ℕ). n * x) (add≡ a b), up_mull n a, dn_mull n a, up_mull n b, dn_mull n b, up_mull n (a +ℤ b), dn_mull n (a +ℤ b)))

  pub times_diff : (a b : ℤ) → times a -ℤ times b ≡ times (a -ℤ b)
  times_diff a b = ap (λ (z : ℤ). times a +ℤ z) (times_neg b) ∙ times_add a (neg_ℤ b)

  pub times_zero : pos 0 ≡ times (pos 0)
  times_zero = ap pos (sym (mul-zero n))

  -- ---- sums and areas
  sum_times : (f : ℤ → ℤ) (m : ℕ) (t : ℤ) → sum_z (λ t. times (f t)) m t ≡ times (sum_z f m t)
  unfolding sum_z
  sum_times f zero t = times_zero
  sum_times f (suc m) t = ap (λ (z : ℤ). times (f t) +ℤ z) (sum_times f m (t +ℤ pos 1)) ∙ times_add (f t) (sum_z f m (t +ℤ pos 1))

  pub area_times : (f : ℤ → ℤ) (p q : ℤ) → area (λ t. times (f t)) p q ≡ times (area f p q)
  unfolding area
  area_times f p q = go (lt_z p q)
    where
      go : (b : Bool) → elim b [ true ↦ sum_z (λ t. times (f t) +ℤ times (f (t +ℤ pos 1))) (nat_abs (q -ℤ p)) p | false ↦ pos 0 ] ≡ times (elim b [ true ↦ sum_z (λ t. f t +ℤ f (t +ℤ pos 1)) (nat_abs (q -ℤ p)) p | false ↦ pos 0 ])
      go true = ap (λ (g : ℤ → ℤ). sum_z g (nat_abs (q -ℤ p)) p) (fun_ext (λ t. times_add (f t) (f (t +ℤ pos 1)))) ∙ sum_times (λ t. f t +ℤ f (t +ℤ pos 1)) (nat_abs (q -ℤ p)) p
      go false = times_zero

  -- ---- tests and searches, by a number above 0
  module _ (some : 0 < n) where
    up_times : (a b : ℤ) → Le a b → Le (times a) (times b)
    up_times a b h = omega (arith, mul-le-mul_left n h, up_mull n a, dn_mull n a, up_mull n b, dn_mull n b)

    over_times : (a b : ℤ) → Lt a b → Lt (times a) (times b)
    over_times a b h = omega (arith, mul-lt-mul_of_pos_left h some, up_mull n a, dn_mull n a, up_mull n b, dn_mull n b)

    pub le_times : (a b : ℤ) → le_z (times a) (times b) ≡ le_z a b
    le_times a b = go (le_z a b) refl
      where
        go : (t : Bool) → le_z a b ≡ t → le_z (times a) (times b) ≡ t
        go true h = le_true (times a) (times b) (up_times a b (at_least a b h))
        go false h = le_false (times a) (times b) (over_times b a (not_at_least a b h))

    lt_times : (a b : ℤ) → lt_z (times a) (times b) ≡ lt_z a b
    lt_times a b = go (lt_z a b) (lt_z (times a) (times b)) refl refl
      where
        go : (t v : Bool) → lt_z a b ≡ t → lt_z (times a) (times b) ≡ v → lt_z (times a) (times b) ≡ t
        go true true h k = k
        go true false h k = absurd (omega (arith, not_below (times a) (times b) k, over_times a b (below a b h)))
        go false true h k = absurd (omega (arith, below (times a) (times b) k, up_times b a (not_below a b h)))
        go false false h k = k

    pub leb_times : (a b : ℕ) → leb (n * a) (n * b) ≡ leb a b
    leb_times a b = le_times (pos a) (pos b)

    pub ltb_times : (a b : ℕ) → ltb (n * a) (n * b) ≡ ltb a b
    ltb_times a b = lt_times (pos a) (pos b)

    pub peak_times : (f : ℕ → ℤ) (t m : ℕ) → peak (λ t. times (f t)) t m ≡ peak f t m
    peak_times f t m = peak_unique (λ t. times (f t)) t m (peak (λ t. times (f t)) t m) (peak f t m) (peak_is (λ t. times (f t)) t m) (go (peak f t m) (peak_is f t m))
      where
        go : (r : ℕ) → Peak f t m r → Peak (λ t. times (f t)) t m r
        go r i = record { low = i.low; high = i.high; most = λ k a b. up_times (f k) (f r) (i.most k a b); before = λ k a b. over_times (f k) (f r) (i.before k a b) }

    pub reaches_times : (f : ℤ → ℤ) (level : ℤ) (t e : ℕ) → reaches (λ t. times (f t)) (times level) t e ≡ reaches f level t e
    unfolding reaches
    reaches_times f level t e = ap (λ (g : ℕ → Bool). first_in g t e) (fun_ext (λ j. le_times level (f (pos j))))

    pub stays_times : (f : ℤ → ℤ) (level : ℤ) (t e : ℕ) → stays (λ t. times (f t)) (times level) t e ≡ stays f level t e
    unfolding stays
    stays_times f level t e = ap (λ (g : ℕ → Bool). first_in g t e - 1) (fun_ext (λ j. lt_times (f (pos j)) level))

    -- A quotient of two numbers that are both n times as great is rounded to the same.
    pub ceil_times : (a : ℤ) (d : ℕ) → 0 < d → ceil_z (times a) (n * d) ≡ ceil_z a d
    ceil_times a d h = ceiling_z_unique (ceil_z_is (times a) (n * d) (omega (arith, mul-lt-mul_of_pos_left h some))) (go (ceil_z a d) (ceil_z_is a d h))
      where
        go : (z : ℤ) → CeilingZ a d z → CeilingZ (times a) (n * d) z
        go z i = record {
          over = omega (arith, mul-le-mul_left n i.over, up_mull n a, dn_mull n a, up_mulr z d, dn_mulr z d, up_mulr z (n * d), dn_mulr z (n * d), ap (λ (x : ℕ). n * x) (up_mulr z d), ap (λ (x : ℕ). n * x) (dn_mulr z d));
          near = omega (arith, mul-lt-mul_of_pos_left i.near some, up_mull n a, dn_mull n a, up_mulr z (n * d), dn_mulr z (n * d), ap (λ (x : ℕ). n * x) (up_mulr z d), ap (λ (x : ℕ). n * x) (dn_mulr z d), add≡ (times a) (pos (n * d)), ap (λ (x : ℕ). n * x) (add≡ a (pos d)));
        }
