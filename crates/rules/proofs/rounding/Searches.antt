-- What the searches find, and that nothing else fits: the first, the greatest, the first place of the greatest value; where a level is reached and up to where it holds.
use mathlib.Core.Path.{◌≡◌, refl, sym, subst}
use mathlib.Core.Bool.{Bool, true, false}
use Prim.Native.Nat.{ℕ, zero, suc, ◌+◌, ◌-◌, ◌≤◌, ◌<◌, max}
use native.Mathlib.Omega.{arith}
use native.Mathlib.Decide.{ℕ_discrete, dec_le}
use lib.IntN.{ℤ, pos}
use lib.Signed.{le_z, lt_z}
use Rattle.rules.specs.Rounding.{first, first_in, greatest, peak}
use Rattle.rules.specs.Criteria.{reaches}
use Rattle.rules.specs.Roll.{stays}
use Rattle.rules.proofs.rounding.Signed.{Le, Lt, below, not_below, at_least, not_at_least}

never : (b : Bool) → b ≡ true → b ≡ false → ⊥
never b e f = let z : ◌≡◌ {A = ℕ} 0 1 = cc in omega arith

-- Two numbers, neither of which can be below the other.
same : {P : ℕ → Type 0} → ((r s : ℕ) → P r → P s → r < s → ⊥) → (r s : ℕ) → P r → P s → r ≡ s
same h r s a b = elim (ℕ_discrete r s) [
  | yes e ↦ e
  | no e ↦ elim (dec_le r s) [ yes l ↦ absurd (h r s a b (omega arith)) | no l ↦ absurd (h s r b a (omega arith)) ]
]

-- ---- the first
-- r is the first from t on, and before the stop, that passes; the stop where none does.
pub record First (p : ℕ → Bool) (t stop r : ℕ) : Type 0 where
  pub low : t ≤ r
  pub high : r ≤ stop
  pub hit : r < stop → p r ≡ true
  pub before : (k : ℕ) → t ≤ k → k < r → p k ≡ false

pub first_is : (p : ℕ → Bool) (n t : ℕ) → First p t (t + n) (first p n t)
unfolding first
first_is p zero t = record { low = omega arith; high = omega arith; hit = λ h. absurd (omega arith); before = λ k a b. absurd (omega arith) }
first_is p (suc n) t = go (p t) refl (first_is p n (suc t))
  where
    at_or_past : {P : Type 0} (k : ℕ) → t ≤ k → (t ≡ k → P) → (suc t ≤ k → P) → P
    at_or_past k a f g = elim (ℕ_discrete t k) [ yes e ↦ f e | no e ↦ g (omega arith) ]

    go : (b : Bool) → p t ≡ b → First p (suc t) (suc t + n) (first p n (suc t)) → First p t (t + suc n) (elim b [ true ↦ t | false ↦ first p n (suc t) ])
    go true e i = record { low = omega arith; high = omega arith; hit = λ h. e; before = λ k a b. absurd (omega arith) }
    go false e i = record {
      low = omega (arith, i.low);
      high = omega (arith, i.high);
      hit = λ h. i.hit (omega arith);
      before = λ k a b. at_or_past k a (λ q. subst (λ (m : ℕ). p m ≡ false) q e) (λ l. i.before k l b);
    }

pub first_unique : (p : ℕ → Bool) (t stop r s : ℕ) → First p t stop r → First p t stop s → r ≡ s
first_unique p t stop = same {P = First p t stop} (λ r s a b l. never (p r) (a.hit (omega (arith, b.high))) (b.before r a.low l))

-- The stop is past e, and past nothing where t is already.
pub first_in_is : (p : ℕ → Bool) (t e : ℕ) → First p t (max t (suc e)) (first_in p t e)
unfolding first_in
first_in_is p t e = let z : t + (suc e - t) ≡ max t (suc e) = omega arith in subst (λ (stop : ℕ). First p t stop (first_in p t e)) z (first_is p (suc e - t) t)

-- ---- the greatest
-- r is the greatest up to n that passes; 0 where none does.
pub record Greatest (p : ℕ → Bool) (n r : ℕ) : Type 0 where
  pub high : r ≤ n
  pub hit : 0 < r → p r ≡ true
  pub after : (k : ℕ) → r < k → k ≤ n → p k ≡ false

pub greatest_is : (p : ℕ → Bool) (n : ℕ) → Greatest p n (greatest p n)
unfolding greatest
greatest_is p zero = record { high = omega arith; hit = λ h. absurd (omega arith); after = λ k a b. absurd (omega arith) }
greatest_is p (suc n) = go (p (suc n)) refl (greatest_is p n)
  where
    top_or_less : {P : Type 0} (k : ℕ) → k ≤ suc n → (suc n ≡ k → P) → (k ≤ n → P) → P
    top_or_less k a f g = elim (ℕ_discrete (suc n) k) [ yes e ↦ f e | no e ↦ g (omega arith) ]

    go : (b : Bool) → p (suc n) ≡ b → Greatest p n (greatest p n) → Greatest p (suc n) (elim b [ true ↦ suc n | false ↦ greatest p n ])
    go true e i = record { high = omega arith; hit = λ h. e; after = λ k a b. absurd (omega arith) }
    go false e i = record {
      high = omega (arith, i.high);
      hit = i.hit;
      after = λ k a b. top_or_less k b (λ q. subst (λ (m : ℕ). p m ≡ false) q e) (λ l. i.after k a l);
    }

pub greatest_unique : (p : ℕ → Bool) (n r s : ℕ) → Greatest p n r → Greatest p n s → r ≡ s
greatest_unique p n = same {P = Greatest p n} (λ r s a b l. never (p s) (b.hit (omega arith)) (a.after s l b.high))

-- ---- the first place of the greatest value
-- r is the first of t, .., t + n at which f is greatest: before it f is less, so it is not the last of equal ones.
pub record Peak (f : ℕ → ℤ) (t n r : ℕ) : Type 0 where
  pub low : t ≤ r
  pub high : r ≤ t + n
  pub most : (k : ℕ) → t ≤ k → k ≤ t + n → Le (f k) (f r)
  pub before : (k : ℕ) → t ≤ k → k < r → Lt (f k) (f r)

pub peak_is : (f : ℕ → ℤ) (t n : ℕ) → Peak f t n (peak f t n)
unfolding peak
peak_is f t zero = record { low = omega arith; high = omega arith; most = λ k a b. subst (λ (m : ℕ). Le (f k) (f m)) (let e : k ≡ t = omega arith in e) (omega arith); before = λ k a b. absurd (omega arith) }
peak_is f t (suc n) = go (peak f t n) (lt_z (f (peak f t n)) (f (t + suc n))) refl (peak_is f t n)
  where
    last_or_less : {P : Type 0} (k : ℕ) → k ≤ t + suc n → (t + suc n ≡ k → P) → (k ≤ t + n → P) → P
    last_or_less k a g h = elim (ℕ_discrete (t + suc n) k) [ yes e ↦ g e | no e ↦ h (omega arith) ]

    go : (m : ℕ) (b : Bool) → lt_z (f m) (f (t + suc n)) ≡ b → Peak f t n m → Peak f t (suc n) (elim b [ true ↦ t + suc n | false ↦ m ])
    go m true e i = record {
      low = omega arith;
      high = omega arith;
      most = λ k a b. last_or_less k b (λ q. subst (λ (x : ℕ). Le (f x) (f (t + suc n))) q (omega arith)) (λ l. omega (arith, i.most k a l, below (f m) (f (t + suc n)) e));
      before = λ k a b. omega (arith, i.most k a (omega arith), below (f m) (f (t + suc n)) e);
    }
    go m false e i = record {
      low = i.low;
      high = omega (arith, i.high);
      most = λ k a b. last_or_less k b (λ q. subst (λ (x : ℕ). Le (f x) (f m)) q (not_below (f m) (f (t + suc n)) e)) (λ l. i.most k a l);
      before = i.before;
    }

pub peak_unique : (f : ℕ → ℤ) (t n r s : ℕ) → Peak f t n r → Peak f t n s → r ≡ s
peak_unique f t n = same {P = Peak f t n} (λ r s a b l. omega (arith, b.before r a.low l, a.most s b.low b.high))

-- ---- the curve against a level
module _ (f : ℤ → ℤ) (level : ℤ) where
  -- r is the first of t, .., e with f at least the level; past e where there is none.
  pub record Reaches (t e r : ℕ) : Type 0 where
    pub low : t ≤ r
    pub high : r ≤ max t (suc e)
    pub hit : r ≤ e → Le level (f (pos r))
    pub before : (k : ℕ) → t ≤ k → k < r → Lt (f (pos k)) level

  pub reaches_is : (t e : ℕ) → Reaches t e (reaches f level t e)
  unfolding reaches
  reaches_is t e =
      let i = first_in_is (λ k. le_z level (f (pos k))) t e in
      record {
        low = i.low;
        high = i.high;
        hit = λ h. at_least level (f (pos (reaches f level t e))) (i.hit (omega arith));
        before = λ k a b. not_at_least level (f (pos k)) (i.before k a b);
      }

  pub reaches_unique : (t e r s : ℕ) → Reaches t e r → Reaches t e s → r ≡ s
  reaches_unique t e = same {P = Reaches t e} (λ r s a b l. omega (arith, a.hit (omega (arith, a.low, b.high)), b.before r a.low l))

  -- 'The last tenth of a degree up to which GZ stays at or above', from t on, not beyond e.
  pub record Stays (t e r : ℕ) : Type 0 where
    pub low : t ≤ r
    pub high : r ≤ e
    pub all : (k : ℕ) → t ≤ k → k ≤ r → Le level (f (pos k))
    pub next : r < e → Lt (f (pos (suc r))) level

  pub stays_is : (t e : ℕ) → t ≤ e → Le level (f (pos t)) → Stays t e (stays f level t e)
  unfolding stays
  stays_is t e h l = go (first_in (λ k. lt_z (f (pos k)) level) t e) (first_in_is (λ k. lt_z (f (pos k)) level) t e)
    where
      later : (r : ℕ) → First (λ k. lt_z (f (pos k)) level) t (max t (suc e)) r → t < r
      later r i = elim (ℕ_discrete t r) [
        | yes q ↦ let m : Lt (f (pos r)) level = below (f (pos r)) level (i.hit (omega arith)) in absurd (omega (arith, subst (λ (k : ℕ). Lt (f (pos k)) level) (sym q) m))
        | no q ↦ omega (arith, i.low)
      ]

      go : (r : ℕ) → First (λ k. lt_z (f (pos k)) level) t (max t (suc e)) r → Stays t e (r - 1)
      go r i =
          let m = later r i in
          let n : r ≡ suc (r - 1) = omega arith in
          record {
            low = omega arith;
            high = omega (arith, i.high);
            all = λ k a b. not_below (f (pos k)) level (i.before k a (omega arith));
            next = λ a. subst (λ (k : ℕ). Lt (f (pos k)) level) n (below (f (pos r)) level (i.hit (omega arith)));
          }

  pub stays_unique : (t e r s : ℕ) → Stays t e r → Stays t e s → r ≡ s
  stays_unique t e = same {P = Stays t e} (λ r s a b l. omega (arith, a.next (omega (arith, b.high)), b.all (suc r) (omega (arith, a.low)) l))
