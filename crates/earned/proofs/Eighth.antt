-- Criterion 8 with nothing rounded between the tenths: b - a is the net, less the piece up to the exact start, plus the piece after e. Where y is nowhere below -lw2, neither piece favours the ship.
use mathlib.Core.Path.{◌≡◌, refl, ap, sym, ◌∙◌, subst}
use mathlib.Core.Bool.{Bool, true, false}
use Prim.Native.Nat.{ℕ, zero, suc, ◌+◌, ◌-◌, ◌*◌, ◌/◌, ◌%◌, ◌≤◌, ◌<◌}
use native.Mathlib.Omega.{arith}
use native.Mathlib.Nat.{mul-le-mul_left, le_of_mul-le-mul_left, mod-lt, div-add-mod}
use native.Mathlib.Decide.{dec_le}
use lib.IntN.{ℤ, pos, negsuc, nat_abs, neg_ℤ, +ℤ_comm, ◌+ℤ◌, ◌-ℤ◌, ◌*ℤ◌}
use lib.Signed.{le_z}
use Rattle.rules.specs.Rounding.{sum_z}
use Rattle.rules.specs.Curve.{Loaded, lever, lever_z, y}
use Rattle.rules.specs.Criteria.{lw1, lw2, units, phi0}
use Rattle.rules.specs.Roll.{k, p, r, phi1, start, e, net, not_judged, no_gust, passes8}
use Rattle.rules.specs.Report.{verdict, pass, unjudged, fail, verdict8}
use Rattle.rules.proofs.rounding.Signed.{up, dn, Le, Lt, eq!, at_least, abs_pos, add≡, diff≡, up_neg, dn_neg, up_mull, dn_mull}
use Rattle.rules.proofs.rounding.Divisions.{lw2_up}
use Rattle.rules.proofs.criteria.Ranges.{judged, phi1_from}
use Rattle.rules.proofs.criteria.Angles.{gust, u_is, e_is}
use Rattle.earned.specs.Gust.{lever_by, y_by, units_by, phi0_by, start_by, e_by, net_by, gusts, NowhereBelow}
use Rattle.earned.proofs.Steps.{lee, between}
use Rattle.earned.proofs.Grid.{over, cut, not_negative, not_positive, net_is, linear, Between, between_over, whole}
use Rattle.earned.proofs.Finer.{heel_is, heel_to, start_before, end_beyond}

-- ---- 'Start = phi0 if y(phi0) = lw1, else phi0 - 1; less phi1', as bounds
start_to : (c : Loaded) → up (start c) + phi1 c ≤ phi0 c + dn (start c)
unfolding start
start_to c = go (le_z (y c (pos (phi0 c))) (units c.unit (lw1 c)))
  where
    go : (b : Bool) → let z : ℤ = elim b [ true ↦ pos (phi0 c) -ℤ pos (phi1 c) | false ↦ pos (phi0 c) -ℤ pos 1 -ℤ pos (phi1 c) ] in up z + phi1 c ≤ phi0 c + dn z
    go true = omega (arith, diff≡ (pos (phi0 c)) (pos (phi1 c)))
    go false = omega (arith, diff≡ (pos (phi0 c)) (pos 1), diff≡ (pos (phi0 c) -ℤ pos 1) (pos (phi1 c)))

-- ---- the pieces
module _ (q : ℕ) (some : 0 < q) (c : Loaded) (upright : y c (pos 0) ≡ pos 0) where
  abbrev level : ℕ
  level = c.unit * 5_000_000 * lw2 c

  pub straight : Between q (over (y_by q c) (q * level)) (over (y c) level)
  straight = between_over q level (y_by q c) (y c) (between q some c upright)

  -- b - a is the net, less the piece from the start used, i parts wide, and with the piece from the e used, j parts wide.
  pub pieces : (roll i j n : ℕ) → start_by q roll c ≡ pos q *ℤ start c +ℤ pos i → e_by q c ≡ q * e c + j → pos (e c) ≡ start c +ℤ pos n → i ≤ q * n → net_by q roll c +ℤ sum_z (gusts q c) i (pos q *ℤ start c) ≡ pos (q * q) *ℤ net c +ℤ sum_z (gusts q c) j (pos (q * e c))
  unfolding net_by net
  pieces roll i j n at_start at-end wide inside =
      let f = gusts q c in
      let t = pos q *ℤ start c in
      let m = q * n + j - i in
      let to_end : pos (e_by q c) ≡ t +ℤ pos i +ℤ pos m = eq! (pos (e_by q c)) (t +ℤ pos i +ℤ pos m) (omega (arith, add≡ t (pos i), add≡ (t +ℤ pos i) (pos m), up_mull q (start c), dn_mull q (start c), width)) in
      let whole-end : t +ℤ pos (q * n) ≡ pos (q * e c) = eq! (t +ℤ pos (q * n)) (pos (q * e c)) (omega (arith, add≡ t (pos (q * n)), up_mull q (start c), dn_mull q (start c), width)) in
      let exact : net_by q roll c ≡ sum_z f m (t +ℤ pos i) = net_is (y_by q c) (q * level) m (start_by q roll c) (pos (e_by q c)) (to_end ∙ ap (λ (z : ℤ). z +ℤ pos m) (sym at_start)) ∙ ap (sum_z f m) at_start in
      let used : sum_z f (q * n) t ≡ pos (q * q) *ℤ net c = whole q (over (y_by q c) (q * level)) (over (y c) level) straight n (start c) ∙ ap (λ (z : ℤ). pos (q * q) *ℤ z) (sym (net_is (y c) level n (start c) (pos (e c)) wide)) in
      ap (λ (z : ℤ). z +ℤ sum_z f i t) exact
      ∙ +ℤ_comm (sum_z f m (t +ℤ pos i)) (sum_z f i t)
      ∙ sym (cut f i m (q * n + j) t (omega arith))
      ∙ cut f (q * n) j (q * n + j) t refl
      ∙ ap (λ (z : ℤ). z +ℤ sum_z f j (t +ℤ pos (q * n))) used
      ∙ ap (λ (z : ℤ). pos (q * q) *ℤ net c +ℤ sum_z f j z) whole-end
    where
      width : q * e c + q * dn (start c) ≡ q * up (start c) + q * n
      width = omega (arith, ap (λ (k : ℕ). q * k) (ap up wide), ap (λ (k : ℕ). q * k) (add≡ (start c) (pos n)), ap (λ (k : ℕ). q * k) (ap dn wide))

  -- Both ends of a step.
  ends : (x x' : ℤ) → Le (pos (q * level)) x → Le (pos (q * level)) x' → Le (pos 0) (x -ℤ pos (q * level) +ℤ (x' -ℤ pos (q * level)))
  ends x x' h k = omega (arith, diff≡ x (pos (q * level)), diff≡ x' (pos (q * level)), add≡ (x -ℤ pos (q * level)) (x' -ℤ pos (q * level)))

  ends_low : (x x' : ℤ) → Le x (pos (q * level)) → Le x' (pos (q * level)) → Le (x -ℤ pos (q * level) +ℤ (x' -ℤ pos (q * level))) (pos 0)
  ends_low x x' h k = omega (arith, diff≡ x (pos (q * level)), diff≡ x' (pos (q * level)), add≡ (x -ℤ pos (q * level)) (x' -ℤ pos (q * level)))

  -- Where the curve stays at or above lw2, the sum is not below zero.
  after : (j : ℕ) → ((k : ℕ) → k ≤ j → Le (units_by q c.unit (lw2 c)) (y_by q c (pos (q * e c + k)))) → Le (pos 0) (sum_z (gusts q c) j (pos (q * e c)))
  after j up_there = not_negative (gusts q c) j (pos (q * e c)) (λ k l. ends (y_by q c (pos (q * e c + k))) (y_by q c (pos (q * e c + k + 1))) (up_there k (omega arith)) (next k l))
    where
      next : (k : ℕ) → k < j → Le (units_by q c.unit (lw2 c)) (y_by q c (pos (q * e c + k + 1)))
      next k l = let z : q * e c + suc k ≡ q * e c + k + 1 = omega arith in subst (λ (x : ℕ). Le (units_by q c.unit (lw2 c)) (y_by q c (pos x))) z (up_there (suc k) l)

  -- So the piece after e never counts against the ship.
  pub end_piece : no_gust c ≡ false → (j : ℕ) × (e_by q c ≡ q * e c + j) × Le (pos 0) (sum_z (gusts q c) j (pos (q * e c)))
  end_piece gusty = let b = end_beyond q some c upright gusty in (b.0, b.1, after b.0 b.2)

  -- Where y lies nowhere below -lw2, from the start to phi0 it lies nowhere above lw2.
  module _ (gusty : no_gust c ≡ false) (high : NowhereBelow c) where
    calm : (x : ℤ) → Le (pos q *ℤ start c) x → Lt x (pos (phi0_by q c)) → Le (y_by q c x) (units_by q c.unit (lw2 c))
    unfolding y_by lever_z
    calm (pos x) from to = omega (arith, (heel_is q some c upright (gust c gusty).0).before x (omega arith) (omega arith), mul-le-mul_left q (mul-le-mul_left (c.unit * 5_000_000) (let l : lw1 c ≤ lw2 c = omega (arith, (lw2_up c).over) in l)))
    calm (negsuc x) from to = omega (arith, up_neg (lever_by q c (suc x)), dn_neg (lever_by q c (suc x)), go (suc x / q) (suc x % q) (mod-lt (suc x) some) (div-add-mod (suc x) q))
      where
        -- t is within the reach of the windward side.
        near : (t : ℕ) → q * (up (start c) + t) ≤ q * dn (start c) → dn (y c (pos t)) ≤ level + up (y c (pos t))
        near t l =
            let above : Le (neg_ℤ (units c.unit (lw2 c))) (y c (pos t)) = high t (omega (arith, up_neg (pos t), dn_neg (pos t), le_of_mul-le-mul_left {k = q} l some)) in
            omega (arith, up_neg (units c.unit (lw2 c)), dn_neg (units c.unit (lw2 c)))

        line : (p r : ℕ) (a b : ℤ) → p + r ≡ q → dn a ≤ level + up a → (0 < r → dn b ≤ level + up b) → dn (pos p *ℤ a +ℤ pos r *ℤ b) ≤ q * level + up (pos p *ℤ a +ℤ pos r *ℤ b)
        line p zero a b z h k = omega (arith, linear p 0 a b, mul-le-mul_left p h, ap (λ (n : ℕ). n * level) z)
        line p (suc r) a b z h k = omega (arith, linear p (suc r) a b, mul-le-mul_left p h, mul-le-mul_left (suc r) (k (omega arith)), ap (λ (n : ℕ). n * level) z)

        go : (t r : ℕ) → r < q → q * t + r ≡ suc x → dn (lever_by q c (suc x)) ≤ q * level + up (lever_by q c (suc x))
        go t r l z =
            let all : q - r + r ≡ q = omega arith in
            let width = omega_width t r z in
            subst (λ (v : ℤ). dn v ≤ q * level + up v) (sym (lee q some c (q - r) r t all) ∙ ap (lever_by q c) z)
            (line (q - r) r (lever c.unit c.kn c.kg t) (lever c.unit c.kn c.kg (t + 1)) all (near t (omega arith)) (λ more. near (t + 1) (next t (omega arith))))
          where
            omega_width : (t r : ℕ) → q * t + r ≡ suc x → q * up (start c) + q * t + r ≤ q * dn (start c)
            omega_width t r z = omega (arith, up_mull q (start c), dn_mull q (start c))

            next : (t : ℕ) → q * (up (start c) + t) < q * dn (start c) → q * (up (start c) + (t + 1)) ≤ q * dn (start c)
            next t l = elim (dec_le (up (start c) + (t + 1)) (dn (start c))) [ yes k ↦ mul-le-mul_left q k | no k ↦ absurd (omega (arith, mul-le-mul_left q (let m : dn (start c) ≤ up (start c) + t = omega arith in m))) ]

-- ---- a pass
passed : (c : Loaded) → verdict8 c ≡ pass → (not_judged c ≡ false) × (no_gust c ≡ false) × (passes8 c ≡ true)
unfolding verdict8
passed c = go (not_judged c) (no_gust c) (passes8 c)
  where
    go : (a b d : Bool) → elim a [ true ↦ unjudged | false ↦ elim b [ true ↦ fail | false ↦ verdict d ] ] ≡ pass → (a ≡ false) × (b ≡ false) × (d ≡ true)
    go true b d h = let z : ◌≡◌ {A = ℕ} 0 1 = cc in absurd (omega arith)
    go false true d h = let z : ◌≡◌ {A = ℕ} 0 1 = cc in absurd (omega arith)
    go false false true h = (refl, refl, refl)
    go false false false h = let z : ◌≡◌ {A = ℕ} 0 1 = cc in absurd (omega arith)

module _ (q : ℕ) (some : 0 < q) (c : Loaded) (upright : y c (pos 0) ≡ pos 0) (verdict_is : verdict8 c ≡ pass) (high : NowhereBelow c) where
  gusty : no_gust c ≡ false
  gusty = (passed c verdict_is).1

  rolls : 64 ≤ phi1 c
  rolls = phi1_from c (judged c (passed c verdict_is).0)

  net_from : Le (pos 0) (net c)
  unfolding passes8
  net_from = at_least (pos 0) (net c) (passed c verdict_is).2

  before_end : Lt (start c) (pos (e c))
  before_end = omega (arith, start_to c, rolls, (u_is c).low, (e_is c gusty).low)

  abbrev n : ℕ
  n = nat_abs (pos (e c) -ℤ start c)

  wide : pos (e c) ≡ start c +ℤ pos n
  wide = let d = abs_pos (pos (e c) -ℤ start c) (omega (arith, diff≡ (pos (e c)) (start c), before_end)) in eq! (pos (e c)) (start c +ℤ pos n) (omega (arith, add≡ (start c) (pos n), diff≡ (pos (e c)) (start c)))

  -- For a roll that is no greater than the one used.
  pub eighth : (roll : ℕ) → 0 < roll → roll ≤ q * phi1 c → Le (pos 0) (net_by q roll c)
  unfolding start_by
  eighth roll rolling no_more = go (phi0_by q c + q * dn (start c) - (roll + q * up (start c))) (omega (arith, start_before q some c upright (gust c gusty).0)) (end_beyond q some c upright gusty)
    where
      go : (i : ℕ) → i + (roll + q * up (start c)) ≡ phi0_by q c + q * dn (start c) → ((j : ℕ) × (e_by q c ≡ q * e c + j) × ((k : ℕ) → k ≤ j → Le (units_by q c.unit (lw2 c)) (y_by q c (pos (q * e c + k))))) → Le (pos 0) (net_by q roll c)
      go i at (j, end, up_there) = sum (net_by q roll c) (sum_z (gusts q c) i t) (net c) (sum_z (gusts q c) j (pos (q * e c))) (pieces q some c upright roll i j n at_start end wide inside) low (after q some c upright j up_there) net_from
        where
          t : ℤ
          t = pos q *ℤ start c

          at_start : pos (phi0_by q c) -ℤ pos roll ≡ pos q *ℤ start c +ℤ pos i
          at_start = eq! (pos (phi0_by q c) -ℤ pos roll) (pos q *ℤ start c +ℤ pos i) (omega (arith, diff≡ (pos (phi0_by q c)) (pos roll), add≡ (pos q *ℤ start c) (pos i), up_mull q (start c), dn_mull q (start c)))

          inside : i ≤ q * n
          inside = omega (arith, heel_to q some c upright (gust c gusty).0, mul-le-mul_left q (u_is c).low, mul-le-mul_left q (e_is c gusty).low, ap (λ (k : ℕ). q * k) (ap up wide), ap (λ (k : ℕ). q * k) (ap dn wide), ap (λ (k : ℕ). q * k) (add≡ (start c) (pos n)))

          -- Up to the start: not above zero.
          low : Le (sum_z (gusts q c) i (pos q *ℤ start c)) (pos 0)
          low = not_positive (gusts q c) i (pos q *ℤ start c) (λ k l. ends_low q some c upright (y_by q c (pos q *ℤ start c +ℤ pos k)) (y_by q c (pos q *ℤ start c +ℤ pos k +ℤ pos 1)) (at_step (pos q *ℤ start c +ℤ pos k) k (omega (arith, add≡ (pos q *ℤ start c) (pos k))) (omega arith)) (at_step (pos q *ℤ start c +ℤ pos k +ℤ pos 1) (k + 1) (omega (arith, add≡ (pos q *ℤ start c) (pos k), add≡ (pos q *ℤ start c +ℤ pos k) (pos 1))) (omega arith)))
            where
              at_step : (x : ℤ) (k : ℕ) → up x + dn (pos q *ℤ start c) ≡ up (pos q *ℤ start c) + k + dn x → k ≤ i → Le (y_by q c x) (units_by q c.unit (lw2 c))
              at_step x k z l = calm q some c upright gusty high x (omega arith) (omega (arith, up_mull q (start c), dn_mull q (start c)))

          sum : (x a m b : ℤ) → x +ℤ a ≡ pos (q * q) *ℤ m +ℤ b → Le a (pos 0) → Le (pos 0) b → Le (pos 0) m → Le (pos 0) x
          sum x a m b h low after k = omega (arith, ap up h, ap dn h, add≡ x a, add≡ (pos (q * q) *ℤ m) b, up_mull (q * q) m, dn_mull (q * q) m, mul-le-mul_left (q * q) k)
