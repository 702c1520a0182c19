-- The searches of document 01, one step at a time, as a loop takes them.
use mathlib.Core.Path.{◌≡◌, refl, sym, ◌∙◌, ap}
use mathlib.Core.Bool.{Bool, true, false}
use Prim.Native.Nat.{ℕ, suc, ◌+◌, ◌-◌, ◌≤◌, ◌<◌}
use native.Mathlib.Omega.{arith}
use lib.IntN.{ℤ, pos}
use lib.Signed.{le_z, lt_z}
use Rattle.std.specs.Prelude.{Some, None}
use borrow.Author.Tests.{le-leb, lt-leb, leb-true, leb-false}
use Rattle.std.specs.Prelude.{cond}
use Rattle.std.proofs.lemmas.Option.{none-some}
use lib.Dec.{leb}
use Rattle.rules.specs.Rounding.{first, first_in, peak}
use Rattle.rules.specs.Criteria.{reaches}
use Rattle.rules.specs.Roll.{stays}
use Rattle.curve.specs.Heeled.{not_past}

-- ---- 'the first t with the greatest y'
choice : ℕ → ℕ → Bool → ℕ
choice s m b = elim b [ true ↦ s | false ↦ m ]

module _ (f : ℕ → ℤ) (a : ℕ) where
  pub peak_starts : a ≡ peak f a (a + 1 - (a + 1))
  unfolding peak
  peak_starts = let e : a + 1 - (a + 1) ≡ 0 = omega arith in rw e

  one_more : (n s m : ℕ) → s ≡ a + suc n → m ≡ peak f a n → peak f a (suc n) ≡ choice s m (lt_z (f m) (f s))
  unfolding peak choice
  one_more n s m p q = rw (p, q)

  module _ (t m : ℕ) (from : a + 1 ≤ t) (so_far : m ≡ peak f a (t - (a + 1))) where
    next_peak : peak f a (t + 1 - (a + 1)) ≡ choice t m (lt_z (f m) (f t))
    next_peak = let n : t + 1 - (a + 1) ≡ suc (t - (a + 1)) = omega arith in rw n (one_more (t - (a + 1)) t m (omega arith) so_far)

    pub peak_moves : lt_z (f m) (f t) ≡ true → t ≡ peak f a (t + 1 - (a + 1))
    unfolding choice
    peak_moves e = sym (next_peak ∙ ap (choice t m) e)

    pub peak_keeps : lt_z (f m) (f t) ≡ false → m ≡ peak f a (t + 1 - (a + 1))
    unfolding choice
    peak_keeps e = sym (next_peak ∙ ap (choice t m) e)

-- ---- 'the first t from t₀ to e with'
module _ (p : ℕ → Bool) (t e : ℕ) where
  next : Bool → ℕ
  next b = elim b [ true ↦ t | false ↦ first p (e - t) (suc t) ]

  turn : t ≤ e → first_in p t e ≡ next (p t)
  unfolding first_in first next
  turn h = let n : suc e - t ≡ suc (e - t) = omega arith in rw n

  pub found : t ≤ e → p t ≡ true → first_in p t e ≡ t
  unfolding next
  found h k = turn h ∙ ap next k

  pub passed : t ≤ e → p t ≡ false → first_in p t e ≡ first_in p (t + 1) e
  unfolding first_in next
  passed h k =
      let m : e - t ≡ suc e - (t + 1) = omega arith in
      let s : suc t ≡ t + 1 = omega arith in
      turn h ∙ ap next k ∙ rw (m, s)

  pub none_left : e < t → first_in p t e ≡ t
  unfolding first_in first
  none_left h = let n : suc e - t ≡ 0 = omega arith in rw n

module _ (f : ℤ → ℤ) (level : ℤ) (t e : ℕ) where
  -- ---- '.. with y >= lw1'
  pub reaches_here : t ≤ e → le_z level (f (pos t)) ≡ true → t ≡ reaches f level t e
  unfolding reaches
  reaches_here h k = sym (found (λ k. le_z level (f (pos k))) t e h k)

  pub reaches_later : t ≤ e → le_z level (f (pos t)) ≡ false → reaches f level t e ≡ reaches f level (t + 1) e
  unfolding reaches
  reaches_later h k = passed (λ k. le_z level (f (pos k))) t e h k

  pub reaches_none : e < t → t ≡ reaches f level t e
  unfolding reaches
  reaches_none h = sym (none_left (λ k. le_z level (f (pos k))) t e h)

  pub found_at : t ≤ e → t ≡ reaches f level t e → Some t ≡ not_past e (reaches f level t e)
  found_at h k = rw (← k, le-leb t e h)

  pub found_none : e < t → None ≡ not_past e (reaches f level t e)
  found_none h = rw (← reaches_none h, lt-leb t e h)

  -- ---- 'the last tenth up to which GZ stays at or above lw2'
  pub stays_on : t ≤ e → lt_z (f (pos t)) level ≡ false → stays f level t e ≡ stays f level (t + 1) e
  unfolding stays
  stays_on h k = ap (λ (n : ℕ). n - 1) (passed (λ k. lt_z (f (pos k)) level) t e h k)

  pub stays_to : t < e → lt_z (f (pos (t + 1))) level ≡ true → t ≡ stays f level (t + 1) e
  unfolding stays
  stays_to h k = let s : t ≡ t + 1 - 1 = omega arith in s ∙ ap (λ (n : ℕ). n - 1) (sym (found (λ k. lt_z (f (pos k)) level) (t + 1) e (omega arith) k))

  pub stays_all : e ≤ t → t ≡ stays f level (t + 1) e
  unfolding stays
  stays_all h = let s : t ≡ t + 1 - 1 = omega arith in s ∙ ap (λ (n : ℕ). n - 1) (sym (none_left (λ k. lt_z (f (pos k)) level) (t + 1) e (omega arith)))

-- ---- what an answer says of the first tenth that the rules find
pub some_within : (to n t : ℕ) → Some t ≡ not_past to n → (t ≡ n) × (n ≤ to)
some_within to n t = go (leb n to) refl
  where
    go : (b : Bool) → leb n to ≡ b → Some t ≡ cond b (Some n) None → (t ≡ n) × (n ≤ to)
    go true e p = (cc, leb-true n to e)
    go false e p = absurd (none-some t (sym p))

pub none_past : (to n : ℕ) → None ≡ not_past to n → to < n
none_past to n = go (leb n to) refl
  where
    go : (b : Bool) → leb n to ≡ b → None ≡ cond b (Some n) None → to < n
    go true e p = absurd (none-some n p)
    go false e p = leb-false n to e
