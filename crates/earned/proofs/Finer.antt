-- Where phi0, u and e lie at q-ths of a tenth: phi0 within the tenth before the one used, u too, and e no earlier than the one used.
use mathlib.Core.Path.{◌≡◌, refl, ap, sym, ◌∙◌, subst}
use mathlib.Core.Bool.{false}
use Prim.Native.Nat.{ℕ, zero, suc, ◌+◌, ◌-◌, ◌*◌, ◌/◌, ◌%◌, ◌≤◌, ◌<◌}
use native.Mathlib.Omega.{arith}
use native.Mathlib.Nat.{mod-lt, div-add-mod, mul-le-mul_left, le_of_mul-le-mul_left}
use native.Mathlib.Decide.{dec_le, ℕ_discrete}
use lib.IntN.{ℤ, pos, ℤ_discrete, ◌+ℤ◌, ◌-ℤ◌, ◌*ℤ◌}
use Rattle.rules.specs.Curve.{Loaded, y, E}
use Rattle.rules.specs.Criteria.{lw1, lw2, units, phi0}
use Rattle.rules.specs.Roll.{phi1, start, farthest, u, e, no_gust}
use Rattle.rules.proofs.rounding.Signed.{up, dn, Le, Lt, eq!, diff≡}
use Rattle.rules.proofs.rounding.Searches.{Reaches, reaches_is, Stays, stays_is}
use Rattle.rules.proofs.rounding.Divisions.{lw2_up}
use Rattle.rules.proofs.criteria.Angles as angles
use Rattle.rules.proofs.criteria.Angles.{phi0_is, start_at, u_is, gust, e_is}
use Rattle.earned.specs.Gust.{y_by, units_by, phi0_by, u_by, e_by}
use Rattle.earned.proofs.Steps.{between}
use Rattle.earned.proofs.Grid.{linear}

-- ---- a straight line against a level
module _ (p r q l : ℕ) (all : p + r ≡ q) (a b : ℤ) where
  -- Below it at the first end, and not above it at the other.
  line_below : 0 < p → Lt a (pos l) → (0 < r → Le b (pos l)) → Lt (pos p *ℤ a +ℤ pos r *ℤ b) (pos (q * l))
  line_below some h k = go r refl
    where
      go : (n : ℕ) → r ≡ n → Lt (pos p *ℤ a +ℤ pos r *ℤ b) (pos (q * l))
      go zero e = let z : p ≡ q = omega arith in omega (arith, linear p r a b, mul-le-mul_left p h, ap (λ (k : ℕ). k * up b) e, ap (λ (k : ℕ). k * dn b) e, ap (λ (k : ℕ). k * l) z)
      go (suc n) e = omega (arith, linear p r a b, mul-le-mul_left p h, mul-le-mul_left r (k (omega arith)), ap (λ (k : ℕ). k * l) all)

  -- Not below it at either end.
  line_above : Le (pos l) a → (0 < r → Le (pos l) b) → Le (pos (q * l)) (pos p *ℤ a +ℤ pos r *ℤ b)
  line_above h k = go r refl
    where
      go : (n : ℕ) → r ≡ n → Le (pos (q * l)) (pos p *ℤ a +ℤ pos r *ℤ b)
      go zero e = let z : p ≡ q = omega arith in omega (arith, linear p r a b, mul-le-mul_left p h, ap (λ (k : ℕ). k * up b) e, ap (λ (k : ℕ). k * dn b) e, ap (λ (k : ℕ). k * l) z)
      go (suc n) e = omega (arith, linear p r a b, mul-le-mul_left p h, mul-le-mul_left r (k (omega arith)), ap (λ (k : ℕ). k * l) all)

  -- Below it at the first end, and not below it on the way.
  line_rising : (p' r' : ℕ) → p' + r' ≡ q → r' ≤ r → Lt a (pos l) → Le (pos l) b → Le (pos (q * l)) (pos p' *ℤ a +ℤ pos r' *ℤ b) → Le (pos (q * l)) (pos p *ℤ a +ℤ pos r *ℤ b)
  line_rising p' r' all' more h k o =
      let e : r ≡ r' + (r - r') = omega arith in
      let f : p' ≡ p + (r - r') = omega arith in
      omega (arith, linear p r a b, linear p' r' a b, mul-le-mul_left (r - r') h, mul-le-mul_left (r - r') k, ap (λ (n : ℕ). n * up b) e, ap (λ (n : ℕ). n * dn b) e, ap (λ (n : ℕ). n * up a) f, ap (λ (n : ℕ). n * dn a) f)

module _ (q : ℕ) (some : 0 < q) (c : Loaded) (upright : y c (pos 0) ≡ pos 0) where
  -- ---- the curve at x q-ths, against a level: by the tenths around it
  abbrev tenth : ℕ → ℕ
  tenth x = x / q

  pub at : (x t r : ℕ) → q * t + r ≡ x → r ≤ q → y_by q c (pos x) ≡ pos (q - r) *ℤ y c (pos t) +ℤ pos r *ℤ y c (pos (t + 1))
  at x t r e l = let f : q - r + r ≡ q = omega arith in sym (ap (λ (k : ℕ). y_by q c (pos k)) e) ∙ between q some c upright (q - r) r f (pos t)

  under : (l x t r : ℕ) → q * t + r ≡ x → r < q → Lt (y c (pos t)) (pos l) → (0 < r → Le (y c (pos (t + 1))) (pos l)) → Lt (y_by q c (pos x)) (pos (q * l))
  under l x t r e k h i = let f : q - r + r ≡ q = omega arith in subst (λ (z : ℤ). Lt z (pos (q * l))) (sym (at x t r e (omega arith))) (line_below (q - r) r q l f (y c (pos t)) (y c (pos (t + 1))) (omega arith) h i)

  above : (l x t r : ℕ) → q * t + r ≡ x → r ≤ q → Le (pos l) (y c (pos t)) → (0 < r → Le (pos l) (y c (pos (t + 1)))) → Le (pos (q * l)) (y_by q c (pos x))
  above l x t r e k h i = let f : q - r + r ≡ q = omega arith in subst (λ (z : ℤ). Le (pos (q * l)) z) (sym (at x t r e k)) (line_above (q - r) r q l f (y c (pos t)) (y c (pos (t + 1))) h i)

  -- Where every tenth before n is below a level, and n not above it, all before n is below it.
  before : (l n : ℕ) → ((t : ℕ) → t < n → Lt (y c (pos t)) (pos l)) → Le (y c (pos n)) (pos l) → (x : ℕ) → x < q * n → Lt (y_by q c (pos x)) (pos (q * l))
  before l n h last x k = go (x / q) (x % q) (mod-lt x some) (div-add-mod x q)
    where
      next : (t : ℕ) → t < n → Le (y c (pos (t + 1))) (pos l)
      next t i = elim (ℕ_discrete n (t + 1)) [ yes e ↦ subst (λ (k : ℕ). Le (y c (pos k)) (pos l)) e last | no e ↦ omega (arith, h (t + 1) (omega arith)) ]

      go : (t r : ℕ) → r < q → q * t + r ≡ x → Lt (y_by q c (pos x)) (pos (q * l))
      go t r i e = elim (dec_le n t) [
        | yes m ↦ absurd (omega (arith, mul-le-mul_left q m))
        | no m ↦ let less : t < n = omega arith in under l x t r e i (h t less) (λ some-r. next t less)
      ]

  up_to : (l n : ℕ) → ((t : ℕ) → t ≤ n → Lt (y c (pos t)) (pos l)) → (x : ℕ) → x ≤ q * n → Lt (y_by q c (pos x)) (pos (q * l))
  up_to l n h x k = elim (ℕ_discrete (q * n) x) [
    | yes e ↦ under l x n 0 (omega arith) some (h n (omega arith)) (λ none. absurd (omega arith))
    | no e ↦ before l n (λ t m. h t (omega arith)) (omega (arith, h n (omega arith))) x (omega arith)
  ]

  -- ---- phi0
  module _ (reached : phi0 c ≤ E c) where
    pub heel_is : Reaches (y_by q c) (units_by q c.unit (lw1 c)) 0 (q * E c) (phi0_by q c)
    unfolding phi0_by
    heel_is = reaches_is (y_by q c) (units_by q c.unit (lw1 c)) 0 (q * E c)

    pub heel_to : phi0_by q c ≤ q * phi0 c
    heel_to = elim (dec_le (phi0_by q c) (q * phi0 c)) [
      | yes k ↦ k
      | no k ↦ absurd (omega (arith, heel_is.before (q * phi0 c) (omega arith) (omega arith), above (c.unit * 5_000_000 * lw1 c) (q * phi0 c) (phi0 c) 0 (omega arith) (omega arith) ((phi0_is c).hit reached) (λ none. absurd (omega arith))))
    ]

    pub heel_hit : Le (units_by q c.unit (lw1 c)) (y_by q c (pos (phi0_by q c)))
    heel_hit = heel_is.hit (omega (arith, heel_to, mul-le-mul_left q reached))

    -- Later than the tenth before the one used.
    pub heel_from : (m : ℕ) → phi0 c ≡ suc m → q * m < phi0_by q c
    heel_from m e = elim (dec_le (phi0_by q c) (q * m)) [
      | no k ↦ omega arith
      | yes k ↦ absurd (omega (arith, heel_hit, up_to (c.unit * 5_000_000 * lw1 c) m (λ t i. (phi0_is c).before t (omega arith) (omega arith)) (phi0_by q c) k))
    ]

    -- So it lies within the tenth that ends at the one used.
    pub heel_within : q * phi0 c < phi0_by q c + q
    heel_within = go (phi0 c) refl
      where
        go : (n : ℕ) → phi0 c ≡ n → q * n < phi0_by q c + q
        go zero z = omega arith
        go (suc m) z = omega (arith, heel_from m z)

    -- On a tenth, that tenth.
    pub heel_whole : y c (pos (phi0 c)) ≡ units c.unit (lw1 c) → phi0_by q c ≡ q * phi0 c
    heel_whole e = elim (dec_le (q * phi0 c) (phi0_by q c)) [
      | yes k ↦ omega (arith, heel_to)
      | no k ↦ absurd (omega (arith, heel_hit, before (c.unit * 5_000_000 * lw1 c) (phi0 c) (λ t i. (phi0_is c).before t (omega arith) i) (omega (arith, ap up e, ap dn e)) (phi0_by q c) (omega arith)))
    ]

    -- So the start used is no further to leeward than phi0 less phi1.
    pub start_before : q * up (start c) + q * phi1 c ≤ phi0_by q c + q * dn (start c)
    start_before = go (ℤ_discrete (y c (pos (phi0 c))) (units c.unit (lw1 c))) (phi0 c) refl
      where
        from_heel : (a : ℕ) → start c ≡ pos a -ℤ pos (phi1 c) → q * a ≤ phi0_by q c → q * up (start c) + q * phi1 c ≤ phi0_by q c + q * dn (start c)
        from_heel a z h = rw z (omega (arith, ap (λ (k : ℕ). q * k) (diff≡ (pos a) (pos (phi1 c)))))

        one_before : (n m : ℕ) → n ≡ suc m → pos n -ℤ pos 1 ≡ pos m
        one_before n m z = eq! (pos n -ℤ pos 1) (pos m) (omega (arith, diff≡ (pos n) (pos 1)))

        go : Dec (y c (pos (phi0 c)) ≡ units c.unit (lw1 c)) → (n : ℕ) → phi0 c ≡ n → q * up (start c) + q * phi1 c ≤ phi0_by q c + q * dn (start c)
        go (yes k) n z = from_heel (phi0 c) (start_at c k) (omega (arith, heel_whole k))
        go (no k) zero z =
            let here : y c (pos (phi0 c)) ≡ pos 0 = ap (λ (t : ℕ). y c (pos t)) z ∙ upright in
            absurd (k (eq! (y c (pos (phi0 c))) (units c.unit (lw1 c)) (omega (arith, ap up here, ap dn here, (phi0_is c).hit reached))))
        go (no k) (suc m) z = from_heel m (angles.start_before c reached k ∙ ap (λ (s : ℤ). s -ℤ pos (phi1 c)) (one_before (phi0 c) m z)) (omega (arith, heel_from m z))

  module _ (gusty : no_gust c ≡ false) where
    -- ---- u
    under_gust : (t : ℕ) → t < u c → Lt (y c (pos t)) (units c.unit (lw2 c))
    under_gust t l = elim (dec_le (phi0 c) t) [
      | yes k ↦ (u_is c).before t k l
      | no k ↦ omega (arith, (phi0_is c).before t (omega arith) (omega arith), mul-le-mul_left (c.unit * 5_000_000) (let l : lw1 c ≤ lw2 c = omega (arith, (lw2_up c).over) in l))
    ]

    rise_is : Reaches (y_by q c) (units_by q c.unit (lw2 c)) (phi0_by q c) (q * farthest c) (u_by q c)
    unfolding u_by
    rise_is = reaches_is (y_by q c) (units_by q c.unit (lw2 c)) (phi0_by q c) (q * farthest c)

    rise_to : u_by q c ≤ q * u c
    rise_to = elim (dec_le (u_by q c) (q * u c)) [
      | yes k ↦ k
      | no k ↦ absurd (omega (arith, rise_is.before (q * u c) (omega (arith, heel_to (gust c gusty).0, mul-le-mul_left q (u_is c).low)) (omega arith), above (c.unit * 5_000_000 * lw2 c) (q * u c) (u c) 0 (omega arith) (omega arith) ((u_is c).hit (gust c gusty).1) (λ none. absurd (omega arith))))
    ]

    rise_in : u_by q c ≤ q * farthest c
    rise_in = omega (arith, rise_to, mul-le-mul_left q (gust c gusty).1)

    rise_from : (m : ℕ) → u c ≡ suc m → q * m < u_by q c
    rise_from m z = elim (dec_le (u_by q c) (q * m)) [
      | no k ↦ omega arith
      | yes k ↦ absurd (omega (arith, rise_is.hit rise_in, up_to (c.unit * 5_000_000 * lw2 c) m (λ t i. under_gust t (omega arith)) (u_by q c) k))
    ]

    -- ---- e
    pub end_is : Stays (y_by q c) (units_by q c.unit (lw2 c)) (u_by q c) (q * farthest c) (e_by q c)
    unfolding e_by
    end_is = stays_is (y_by q c) (units_by q c.unit (lw2 c)) (u_by q c) (q * farthest c) rise_in (rise_is.hit rise_in)

    -- From u on, up to the tenth used, the curve stays at or above lw2: between the tenths too, and on the way up to the tenth at u.
    up_there : (x : ℕ) → u_by q c ≤ x → x ≤ q * e c → Le (units_by q c.unit (lw2 c)) (y_by q c (pos x))
    up_there x from to = elim (dec_le (q * u c) x) [
      | yes k ↦ along (x / q) (x % q) (mod-lt x some) (div-add-mod x q) k
      | no k ↦ rising (u c) refl (omega arith)
    ]
      where
        level : ℕ
        level = c.unit * 5_000_000 * lw2 c

        high : (t : ℕ) → u c ≤ t → t ≤ e c → Le (pos level) (y c (pos t))
        high = (e_is c gusty).all

        along : (t r : ℕ) → r < q → q * t + r ≡ x → q * u c ≤ x → Le (pos (q * level)) (y_by q c (pos x))
        along t r l z k = above level x t r z (omega arith) (high t low (bound t (omega arith))) (λ some-r. high (t + 1) (omega (arith, low)) (bound (t + 1) (more some-r)))
          where
            low : u c ≤ t
            low = elim (dec_le (u c) t) [ yes i ↦ i | no i ↦ absurd (omega (arith, mul-le-mul_left q (let j : suc t ≤ u c = omega arith in j))) ]

            bound : (t : ℕ) → q * t ≤ q * e c → t ≤ e c
            bound t h = le_of_mul-le-mul_left {k = q} h some

            more : 0 < r → q * (t + 1) ≤ q * e c
            more some-r = elim (dec_le (t + 1) (e c)) [ yes i ↦ mul-le-mul_left q i | no i ↦ absurd (omega (arith, mul-le-mul_left q (let j : e c ≤ t = omega arith in j))) ]

        rising : (n : ℕ) → u c ≡ n → x < q * n → Le (pos (q * level)) (y_by q c (pos x))
        rising zero z k = absurd (omega arith)
        rising (suc m) z k =
            let later = rise_from m z in
            let i = u_by q c - q * m in
            let r = x - q * m in
            let a = y c (pos m) in
            let b = y c (pos (m + 1)) in
            let at-u : q * m + i ≡ u_by q c = omega arith in
            let at_x : q * m + r ≡ x = omega arith in
            let next : u c ≡ m + 1 = omega arith in
            let hit = subst (λ (v : ℤ). Le (pos (q * level)) v) (at (u_by q c) m i at-u (omega arith)) (rise_is.hit rise_in) in
            subst (λ (v : ℤ). Le (pos (q * level)) v) (sym (at x m r at_x (omega arith))) (line_rising (q - r) r q level (omega arith) a b (q - i) i (omega arith) (omega arith) (under_gust m (omega arith)) (subst (λ (t : ℕ). Le (pos level) (y c (pos t))) next ((u_is c).hit (gust c gusty).1)) hit)

    end_from : q * e c ≤ e_by q c
    end_from = elim (dec_le (q * e c) (e_by q c)) [
      | yes k ↦ k
      | no k ↦ absurd (omega (arith, end_is.next (omega (arith, mul-le-mul_left q (e_is c gusty).high)), up_there (suc (e_by q c)) (omega (arith, end_is.low)) (omega arith)))
    ]

    -- So e lies j parts beyond the one used, and up to there the curve is at or above lw2.
    pub end_beyond : (j : ℕ) × (e_by q c ≡ q * e c + j) × ((k : ℕ) → k ≤ j → Le (units_by q c.unit (lw2 c)) (y_by q c (pos (q * e c + k))))
    end_beyond = (e_by q c - q * e c, omega (arith, end_from), λ k l. end_is.all (q * e c + k) (omega (arith, rise_to, mul-le-mul_left q (e_is c gusty).low)) (omega (arith, end_from)))
