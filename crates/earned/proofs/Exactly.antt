-- There are parts of a tenth fine enough: the curve has lw1 at phi0 exactly, and lw2 at e, or e is min(E, 500). So b - a is one of the figures that the theorem of criterion 8 speaks of.
use mathlib.Core.Path.{◌≡◌, refl, ap, sym, ◌∙◌, subst}
use mathlib.Core.Bool.{false}
use Prim.Native.Nat.{ℕ, zero, suc, ◌+◌, ◌-◌, ◌*◌, ◌≤◌, ◌<◌}
use native.Mathlib.Omega.{arith}
use native.Mathlib.Nat.{mul-le-mul_left, mul-pos}
use native.Mathlib.Decide.{dec_le, ℕ_discrete}
use lib.IntN.{ℤ, pos, +ℤ_comm, ◌+ℤ◌, ◌*ℤ◌}
use Rattle.rules.specs.Curve.{Loaded, y, E}
use Rattle.rules.specs.Criteria.{lw1, lw2, units, phi0}
use Rattle.rules.specs.Roll.{farthest, e, no_gust}
use Rattle.rules.proofs.rounding.Signed.{up, dn, Le, Lt, eq! }
use Rattle.rules.proofs.criteria.Angles.{phi0_is, gust, e_is}
use Rattle.earned.specs.Gust.{y_by, units_by, phi0_by, e_by, Exactly}
use Rattle.earned.proofs.Grid.{linear}
use Rattle.earned.proofs.Finer.{at, heel_is, heel_hit, heel_from, heel_whole, end_is, end_beyond}

-- ---- a straight line through a level, from i of q parts to i + d: it goes on by d steps of b - a
line_on : (p i d : ℕ) (a b : ℤ) → let x = pos (p + d) *ℤ a +ℤ pos i *ℤ b in let x' = pos p *ℤ a +ℤ pos (i + d) *ℤ b in up x' + dn x + (d * up a + d * dn b) ≡ up x + dn x' + (d * up b + d * dn a)
line_on p i d a b = omega (arith, linear (p + d) i a b, linear p (i + d) a b)

module _ (q : ℕ) (some : 0 < q) (c : Loaded) (upright : y c (pos 0) ≡ pos 0) (reached : phi0 c ≤ E c) where
  -- ---- phi0: where the line between its tenth and the one before has lw1
  module _ (m i p : ℕ) (tenth : phi0 c ≡ suc m) (all : p + i ≡ q) (meets : pos p *ℤ y c (pos m) +ℤ pos i *ℤ y c (pos (m + 1)) ≡ units_by q c.unit (lw1 c)) where
    abbrev a : ℤ
    a = y c (pos m)

    abbrev b : ℤ
    b = y c (pos (m + 1))

    rises : Lt a b
    rises = let next : phi0 c ≡ m + 1 = omega arith in omega (arith, (phi0_is c).before m (omega arith) (omega arith), subst (λ (t : ℕ). Le (units c.unit (lw1 c)) (y c (pos t))) next ((phi0_is c).hit reached))

    here : y_by q c (pos (q * m + i)) ≡ units_by q c.unit (lw1 c)
    here = let z : q - i ≡ p = omega arith in at q some c upright (q * m + i) m i refl (omega arith) ∙ ap (λ (k : ℕ). pos k *ℤ a +ℤ pos i *ℤ b) z ∙ meets

    no_later : phi0_by q c ≤ q * m + i
    no_later = elim (dec_le (phi0_by q c) (q * m + i)) [
      | yes k ↦ k
      | no k ↦ absurd (omega (arith, (heel_is q some c upright reached).before (q * m + i) (omega arith) (omega arith), ap up here, ap dn here))
    ]

    pub heel_at : phi0_by q c ≡ q * m + i
    heel_at = elim (dec_le (q * m + i) (phi0_by q c)) [
      | yes k ↦ omega (arith, no_later)
      | no k ↦ absurd (earlier (omega arith))
    ]
      where
        earlier : phi0_by q c < q * m + i → ⊥
        earlier k =
            let from = heel_from q some c upright reached m tenth in
            let i' = phi0_by q c - q * m in
            let d = i - i' in
            let parts : q - i' ≡ p + d = omega arith in
            let sum : i' + d ≡ i = omega arith in
            let there : y_by q c (pos (phi0_by q c)) ≡ pos (p + d) *ℤ a +ℤ pos i' *ℤ b = at q some c upright (phi0_by q c) m i' (omega arith) (omega arith) ∙ ap (λ (k : ℕ). pos k *ℤ a +ℤ pos i' *ℤ b) parts in
            let meets' : pos p *ℤ a +ℤ pos (i' + d) *ℤ b ≡ units_by q c.unit (lw1 c) = ap (λ (k : ℕ). pos p *ℤ a +ℤ pos k *ℤ b) sum ∙ meets in
            go d (omega arith) (pos (p + d) *ℤ a +ℤ pos i' *ℤ b) (pos p *ℤ a +ℤ pos (i' + d) *ℤ b) (line_on p i' d a b) (subst (λ (z : ℤ). Le (units_by q c.unit (lw1 c)) z) there (heel_hit q some c upright reached)) meets'
          where
            go : (d : ℕ) → 0 < d → (x x' : ℤ) → up x' + dn x + (d * up a + d * dn b) ≡ up x + dn x' + (d * up b + d * dn a) → Le (units_by q c.unit (lw1 c)) x → x' ≡ units_by q c.unit (lw1 c) → ⊥
            go d l x x' h k w = omega (arith, mul-le-mul_left d rises, ap up w, ap dn w)

    pub heel_meets : y_by q c (pos (phi0_by q c)) ≡ units_by q c.unit (lw1 c)
    heel_meets = ap (λ (x : ℕ). y_by q c (pos x)) heel_at ∙ here

module _ (q : ℕ) (some : 0 < q) (c : Loaded) (upright : y c (pos 0) ≡ pos 0) (gusty : no_gust c ≡ false) where
  -- ---- e: min(E, 500), or where the line between its tenth and the next has lw2
  pub end_far : e c ≡ farthest c → e_by q c ≡ q * farthest c
  end_far far = let b = end_beyond q some c upright gusty in omega (arith, (end_is q some c upright gusty).high, b.1, ap (λ (k : ℕ). q * k) far)

  module _ (j p : ℕ) (near : e c < farthest c) (all : p + j ≡ q) (more : 0 < p) (meets : pos p *ℤ y c (pos (e c)) +ℤ pos j *ℤ y c (pos (e c + 1)) ≡ units_by q c.unit (lw2 c)) where
    abbrev a' : ℤ
    a' = y c (pos (e c))

    abbrev b' : ℤ
    b' = y c (pos (e c + 1))

    falls : Lt b' a'
    falls = let next : suc (e c) ≡ e c + 1 = omega arith in omega (arith, (e_is c gusty).all (e c) (e_is c gusty).low (omega arith), subst (λ (t : ℕ). Lt (y c (pos t)) (units c.unit (lw2 c))) next ((e_is c gusty).next near))

    there : (x i r : ℕ) → q * e c + i ≡ x → r + i ≡ q → y_by q c (pos x) ≡ pos r *ℤ a' +ℤ pos i *ℤ b'
    there x i r z w = let v : q - i ≡ r = omega arith in at q some c upright x (e c) i z (omega arith) ∙ ap (λ (k : ℕ). pos k *ℤ a' +ℤ pos i *ℤ b') v

    pub end_at : e_by q c ≡ q * e c + j
    end_at = go (end_beyond q some c upright gusty)
      where
        inside : q * e c + q ≤ q * farthest c
        inside = omega (arith, mul-le-mul_left q near)

        short : (i d : ℕ) → suc i + d ≡ j → e_by q c ≡ q * e c + i → ⊥
        short i d z w =
            let on : pos p *ℤ a' +ℤ pos (suc i + d) *ℤ b' ≡ units_by q c.unit (lw2 c) = ap (λ (k : ℕ). pos p *ℤ a' +ℤ pos k *ℤ b') z ∙ meets in
            lower (pos (p + d) *ℤ a' +ℤ pos (suc i) *ℤ b') (pos p *ℤ a' +ℤ pos (suc i + d) *ℤ b') (line_on p (suc i) d a' b') on (subst (λ (v : ℤ). Lt v (units_by q c.unit (lw2 c))) (there (suc (e_by q c)) (suc i) (p + d) (omega arith) (omega arith)) ((end_is q some c upright gusty).next (omega (arith, inside))))
          where
            lower : (x x' : ℤ) → up x' + dn x + (d * up a' + d * dn b') ≡ up x + dn x' + (d * up b' + d * dn a') → x' ≡ units_by q c.unit (lw2 c) → Lt x (units_by q c.unit (lw2 c)) → ⊥
            lower x x' h on k = omega (arith, mul-le-mul_left d falls, ap up on, ap dn on)

        long : (r : ℕ) → r + 1 ≡ p → Le (units_by q c.unit (lw2 c)) (y_by q c (pos (q * e c + (j + 1)))) → ⊥
        long r z k =
            let on : pos (r + 1) *ℤ a' +ℤ pos j *ℤ b' ≡ units_by q c.unit (lw2 c) = ap (λ (k : ℕ). pos k *ℤ a' +ℤ pos j *ℤ b') z ∙ meets in
            lower (pos (r + 1) *ℤ a' +ℤ pos j *ℤ b') (pos r *ℤ a' +ℤ pos (j + 1) *ℤ b') (line_on r j 1 a' b') on (subst (λ (v : ℤ). Le (units_by q c.unit (lw2 c)) v) (there (q * e c + (j + 1)) (j + 1) r refl (omega arith)) k)
          where
            lower : (x x' : ℤ) → up x' + dn x + (1 * up a' + 1 * dn b') ≡ up x + dn x' + (1 * up b' + 1 * dn a') → x ≡ units_by q c.unit (lw2 c) → Le (units_by q c.unit (lw2 c)) x' → ⊥
            lower x x' h on k = omega (arith, falls, ap up on, ap dn on)

        go : ((i : ℕ) × (e_by q c ≡ q * e c + i) × ((k : ℕ) → k ≤ i → Le (units_by q c.unit (lw2 c)) (y_by q c (pos (q * e c + k))))) → e_by q c ≡ q * e c + j
        go (i, w, h) = elim (ℕ_discrete i j) [
          | yes z ↦ w ∙ ap (λ (k : ℕ). q * e c + k) z
          | no z ↦ elim (dec_le i j) [ yes k ↦ absurd (short i (j - suc i) (omega arith) w) | no k ↦ absurd (long (p - 1) (omega arith) (h (j + 1) (omega arith))) ]
        ]

    pub end_meets : y_by q c (pos (e_by q c)) ≡ units_by q c.unit (lw2 c)
    end_meets = ap (λ (x : ℕ). y_by q c (pos x)) end_at ∙ there (q * e c + j) j p refl all ∙ meets

-- ---- parts that are fine enough
-- A line from x below a level to w above it has the level after x of x + w parts.
through : (x w K l : ℕ) (a b : ℤ) → up a + x ≡ l + dn a → up b ≡ l + w + dn b → pos (w * K) *ℤ a +ℤ pos (x * K) *ℤ b ≡ pos ((x + w) * K * l)
through x w K l a b h k = eq! (pos (w * K) *ℤ a +ℤ pos (x * K) *ℤ b) (pos ((x + w) * K * l)) (omega (arith, linear (w * K) (x * K) a b, ap (λ (n : ℕ). w * K * n) h, ap (λ (n : ℕ). x * K * n) k))

-- So many parts, and any multiple of them, will do.
abbrev Enough : (ℕ → Type 0) → Type 0
Enough P = (D : ℕ) × (0 < D) × ((K q : ℕ) → 0 < K → D * K ≡ q → P q)

times : (D K q : ℕ) → 0 < D → 0 < K → D * K ≡ q → 0 < q
times D K q h k e = omega (arith, mul-pos h k)

module _ (c : Loaded) (upright : y c (pos 0) ≡ pos 0) (reached : phi0 c ≤ E c) where
  heel_parts : Enough (λ q. y_by q c (pos (phi0_by q c)) ≡ units_by q c.unit (lw1 c))
  heel_parts = go (phi0 c) refl
    where
      level : ℕ
      level = c.unit * 5_000_000 * lw1 c

      go : (n : ℕ) → phi0 c ≡ n → Enough (λ q. y_by q c (pos (phi0_by q c)) ≡ units_by q c.unit (lw1 c))
      go zero z = (1, omega arith, λ K q more h. whole q (times 1 K q (omega arith) more h))
        where
          here : y c (pos (phi0 c)) ≡ pos 0
          here = ap (λ (t : ℕ). y c (pos t)) z ∙ upright

          none : level ≡ 0
          none = omega (arith, ap up here, ap dn here, (phi0_is c).hit reached)

          whole : (q : ℕ) → 0 < q → y_by q c (pos (phi0_by q c)) ≡ units_by q c.unit (lw1 c)
          whole q some = ap (λ (x : ℕ). y_by q c (pos x)) (heel_whole q some c upright reached (here ∙ ap pos (sym none))) ∙ at q some c upright (q * phi0 c) (phi0 c) 0 (omega arith) (omega arith) ∙ nothing (y c (pos (phi0 c))) (y c (pos (phi0 c + 1))) here
            where
              nothing : (a b : ℤ) → a ≡ pos 0 → pos (q - 0) *ℤ a +ℤ pos 0 *ℤ b ≡ pos (q * level)
              nothing a b h = rw (none, h) (eq! (pos (q - 0) *ℤ pos 0 +ℤ pos 0 *ℤ b) (pos (q * 0)) (omega (arith, linear (q - 0) 0 (pos 0) b)))
      go (suc m) z =
          let a = y c (pos m) in
          let b = y c (pos (m + 1)) in
          let next : phi0 c ≡ m + 1 = omega arith in
          let below = (phi0_is c).before m (omega arith) (omega arith) in
          let above = subst (λ (t : ℕ). Le (units c.unit (lw1 c)) (y c (pos t))) next ((phi0_is c).hit reached) in
          let x = level + dn a - up a in
          let w = up b - (level + dn b) in
          (x + w, omega arith, λ K q more h. heel_meets q (times (x + w) K q (omega arith) more h) c upright reached m (x * K) (w * K) z (omega arith) (through x w K level a b (omega arith) (omega arith) ∙ ap (λ (n : ℕ). pos (n * level)) h))

  pub heel_enough : (Q : ℕ) × (0 < Q) × ((k : ℕ) → 0 < k → y_by (k * Q) c (pos (phi0_by (k * Q) c)) ≡ units_by (k * Q) c.unit (lw1 c))
  heel_enough = let a = heel_parts in (a.0, a.1, λ k some. a.2 k (k * a.0) some (omega arith))

module _ (c : Loaded) (upright : y c (pos 0) ≡ pos 0) (gusty : no_gust c ≡ false) where
  end_parts : Enough (λ q. e_by q c < q * farthest c → y_by q c (pos (e_by q c)) ≡ units_by q c.unit (lw2 c))
  end_parts = elim (ℕ_discrete (e c) (farthest c)) [
    | yes z ↦ (1, omega arith, λ K q more h k. absurd (omega (arith, end_far q (times 1 K q (omega arith) more h) c upright gusty z)))
    | no z ↦ near (omega (arith, (e_is c gusty).high))
  ]
    where
      level : ℕ
      level = c.unit * 5_000_000 * lw2 c

      near : e c < farthest c → Enough (λ q. e_by q c < q * farthest c → y_by q c (pos (e_by q c)) ≡ units_by q c.unit (lw2 c))
      near l =
          let a = y c (pos (e c)) in
          let b = y c (pos (e c + 1)) in
          let next : suc (e c) ≡ e c + 1 = omega arith in
          let above = (e_is c gusty).all (e c) (e_is c gusty).low (omega arith) in
          let below = subst (λ (t : ℕ). Lt (y c (pos t)) (units c.unit (lw2 c))) next ((e_is c gusty).next l) in
          let x = level + dn b - up b in
          let w = up a - (level + dn a) in
          (x + w, omega arith, λ K q more h k. end_meets q (times (x + w) K q (omega arith) more h) c upright gusty (w * K) (x * K) l (omega arith) (mul-pos (let some-x : 0 < x = omega arith in some-x) more) (+ℤ_comm (pos (x * K) *ℤ a) (pos (w * K) *ℤ b) ∙ through x w K level b a (omega arith) (omega arith) ∙ ap (λ (n : ℕ). pos (n * level)) h))

  pub fine_enough : (Q : ℕ) × (0 < Q) × ((k : ℕ) → 0 < k → Exactly (k * Q) c)
  fine_enough =
      let a = heel_parts c upright (gust c gusty).0 in
      let b = end_parts in (
        a.0 * b.0,
        mul-pos a.1 b.1,
        λ k some. record {
          heel = a.2 (b.0 * k) (k * (a.0 * b.0)) (mul-pos b.1 some) (omega arith);
          end = b.2 (a.0 * k) (k * (a.0 * b.0)) (mul-pos a.1 some) (omega arith);
        },
      )
