-- Typing slips, station by station: a row is smooth exactly where none of its inner values is bent, and of two smooth rows that differ in one value alone, these differ by at most 400, or at 60 degrees by at most 800.
use mathlib.Core.Path.{◌≡◌, refl, ap, sym, ◌∙◌}
use mathlib.Core.Logic.{◌≢◌, ◌⊎◌, inl, inr, ⊎_elim}
use mathlib.Core.Bool.{Bool, true, false, ◌&&◌}
use mathlib.Core.List.{List, [], ◌∷◌}
use Prim.Native.Nat.{ℕ, zero, suc, ◌+◌, ◌-◌, ◌*◌, ◌≤◌, ◌<◌}
use native.Mathlib.Omega.{arith}
use lib.ListN.{length, get_or, set, length-set}
use lib.Seq.{get_or-set_same, get_or-set_other}
use borrow.Author.Tests.{leb-true, leb-false}
use Rattle.rules.specs.Blocks.{Row, not_too_high, not_too_low, unbent, smooth}
use Rattle.rules.specs.Layout.{Rising, NoSlips}
use Rattle.rules.specs.Mistyped.{FarApart, kn_value, Bent, FarOff, nth_row}
use Rattle.rules.proofs.layout.Fields.{both_true}
use Rattle.rules.proofs.layout.Rows.{nth_smooth}

pub unless_true : (c : Bool) → ¬ (c ≡ true) → c ≡ false
unless_true true h = absurd (h refl)
unless_true false h = refl

both_false : (c d : Bool) → (c && d) ≡ false → (c ≡ false) ⊎ (d ≡ false)
both_false true d e = inr e
both_false false d e = inl refl

-- The sum first, so that both cases know what they are of.
pub by_cases : {A B C : Type 0} → A ⊎ B → (A → C) → (B → C) → C
by_cases s f g = ⊎_elim f g s

-- ---- three values
-- The middle one against its neighbours, either way.
abbrev pub Near : ℕ → ℕ → ℕ → Type 0
Near a x b = (2 * x ≤ a + b + 400) × (a + b ≤ 2 * x + 400)

near : (a x b : ℕ) → unbent a x b ≡ true → Near a x b
near a x b e = let h : (not_too_high a x b ≡ true) × (not_too_low a x b ≡ true) = both_true _ _ e in omega (arith, leb-true)

far : (a x b : ℕ) → unbent a x b ≡ false → FarApart 400 (2 * x) (a + b)
far a x b e = by_cases (both_false (not_too_high a x b) (not_too_low a x b) e) (λ p. inr (omega (arith, leb-false))) (λ q. inl (omega (arith, leb-false)))

pub unbent_near : (a x b : ℕ) → Near a x b → unbent a x b ≡ true
unbent_near a x b h = go (unbent a x b) refl
  where
    go : (c : Bool) → unbent a x b ≡ c → unbent a x b ≡ true
    go true e = e
    go false e = absurd (by_cases (far a x b e) (λ f. omega arith) (λ f. omega arith))

pub unbent_far : (a x b : ℕ) → FarApart 400 (2 * x) (a + b) → unbent a x b ≡ false
unbent_far a x b f = unless_true (unbent a x b) (λ e. let n = near a x b e in by_cases f (λ g. omega arith) (λ g. omega arith))

-- ---- station by station
near_at : (kn : List ℕ) (i : ℕ) → smooth kn ≡ true → suc (suc i) < length kn → Near (get_or kn i 0) (get_or kn (suc i) 0) (get_or kn (suc (suc i)) 0)
unfolding smooth
near_at [] i e h = absurd (omega arith)
near_at (a ∷ []) i e h = absurd (omega arith)
near_at (a ∷ x ∷ []) i e h = absurd (omega arith)
near_at (a ∷ x ∷ b ∷ s) zero e h = near a x b (both_true (unbent a x b) (smooth (x ∷ b ∷ s)) e).0
near_at (a ∷ x ∷ b ∷ s) (suc i) e h = near_at (x ∷ b ∷ s) i (both_true (unbent a x b) (smooth (x ∷ b ∷ s)) e).1 (omega arith)

-- Three values side by side of which the middle one is bent.
abbrev SomeBent : List ℕ → Type 0
SomeBent kn = (i : ℕ) × (suc (suc i) < length kn) × FarApart 400 (2 * get_or kn (suc i) 0) (get_or kn i 0 + get_or kn (suc (suc i)) 0)

far_at : (kn : List ℕ) → smooth kn ≡ false → SomeBent kn
unfolding smooth
far_at [] e = absurd (let z : ◌≡◌ {A = ℕ} 0 1 = cc in omega arith)
far_at (a ∷ []) e = absurd (let z : ◌≡◌ {A = ℕ} 0 1 = cc in omega arith)
far_at (a ∷ x ∷ []) e = absurd (let z : ◌≡◌ {A = ℕ} 0 1 = cc in omega arith)
far_at (a ∷ x ∷ b ∷ s) e = go (far_at (x ∷ b ∷ s)) (unbent a x b) refl e
  where
    go : (smooth (x ∷ b ∷ s) ≡ false → SomeBent (x ∷ b ∷ s)) → (c : Bool) → unbent a x b ≡ c → (c && smooth (x ∷ b ∷ s)) ≡ false → SomeBent (a ∷ x ∷ b ∷ s)
    go H true p e = let y = H e in (suc y.0, omega (arith, y.1), y.2)
    go H false p e = (0, omega arith, far a x b p)

-- ---- by the number of the station, from 1 to the last but one
before : (i : ℕ) → suc i - 1 ≡ i
before i = omega arith

behind : (i : ℕ) → suc i + 1 ≡ suc (suc i)
behind i = omega arith

module _ (kn : List ℕ) where
  near_station : smooth kn ≡ true → (i : ℕ) → 1 ≤ i → i + 1 < length kn → Near (kn_value kn (i - 1)) (kn_value kn i) (kn_value kn (i + 1))
  near_station e zero a h = absurd (omega arith)
  near_station e (suc i) a h = rw (before i, behind i) (near_at kn i e (omega arith))

  pub never_bent : smooth kn ≡ true → (i : ℕ) → 1 ≤ i → i + 1 < length kn → ¬ Bent kn i
  never_bent e i a h b = let n = near_station e i a h in by_cases b (λ g. omega arith) (λ g. omega arith)

  pub bent_at : smooth kn ≡ false → (i : ℕ) × (1 ≤ i) × (i + 1 < length kn) × Bent kn i
  bent_at e = let x = far_at kn e in (suc x.0, omega arith, omega (arith, x.1), go x.0 x.2)
    where
      go : (i : ℕ) → FarApart 400 (2 * get_or kn (suc i) 0) (get_or kn i 0 + get_or kn (suc (suc i)) 0) → Bent kn (suc i)
      go i f = rw (before i, behind i) f

  pub bent_not_smooth : (i : ℕ) → 1 ≤ i → i + 1 < length kn → Bent kn i → smooth kn ≡ false
  bent_not_smooth i a h b = unless_true (smooth kn) (λ e. never_bent e i a h b)

-- ---- one value typed anew
module _ (kn : List ℕ) (i x : ℕ) (n : length kn ≡ 13) (e : smooth kn ≡ true) (e' : smooth (set kn i x) ≡ true) where
  anew : i < length kn → kn_value (set kn i x) i ≡ x
  anew h = get_or-set_same kn i x 0 h

  other : (j : ℕ) → j ≢ i → kn_value (set kn i x) j ≡ kn_value kn j
  other j h = get_or-set_other kn i j x 0 h

  -- Tested itself, in both rows.
  inner : 1 ≤ i → i ≤ 11 → ¬ FarApart 400 (kn_value kn i) x
  inner a b = go (kn_value kn (i - 1)) (kn_value kn i) (kn_value kn (i + 1)) (near_station kn e i a (omega arith)) (rw (anew (omega arith), other (i - 1) (omega arith), other (i + 1) (omega arith)) at (near_station (set kn i x) e' i a (simp length-set (omega arith))))
    where
      go : (u v w : ℕ) → Near u v w → Near u x w → ¬ FarApart 400 v x
      go u v w p q f = by_cases f (λ g. omega arith) (λ g. omega arith)

  -- A neighbour of the one before it, j, in both.
  outer : (j : ℕ) → j + 1 ≡ i → 1 ≤ j → i < length kn → ¬ FarApart 800 (kn_value kn i) x
  outer j q a h = go (kn_value kn (j - 1)) (kn_value kn j) (kn_value kn i) (rw q at (near_station kn e j a (omega arith))) (rw (q, anew h, other (j - 1) (omega arith), other j (omega arith)) at (near_station (set kn i x) e' j a (simp length-set (omega arith))))
    where
      go : (u v w : ℕ) → Near u v w → Near u v x → ¬ FarApart 800 w x
      go u v w p q f = by_cases f (λ g. omega arith) (λ g. omega arith)

  pub not_both_smooth : ¬ FarOff i (kn_value kn i) x
  not_both_smooth f = by_cases f.1 (λ g. inner f.0 g.0 g.1) (λ g. outer 11 (omega (arith, g.0)) (omega arith) (omega (arith, g.0)) g.1)

-- ---- the rows of a table
pub no_slip : (rows : List Row) → Rising 0 rows → NoSlips rows → (k i : ℕ) → k < length rows → 1 ≤ i → i ≤ 11 → ¬ Bent (nth_row rows k).kn i
no_slip rows R S k i h a b = let x = nth_smooth rows R S k h in never_bent (nth_row rows k).kn x.1 i a (omega (arith, x.0))

pub no_two : (rows rows' : List Row) → Rising 0 rows → NoSlips rows → Rising 0 rows' → NoSlips rows' → (k k' i x : ℕ) → k < length rows → k' < length rows' → (nth_row rows' k').kn ≡ set (nth_row rows k).kn i x → ¬ FarOff i (kn_value (nth_row rows k).kn i) x
no_two rows rows' R S R' S' k k' i x h h' e =
    let p = nth_smooth rows R S k h in
    let q = nth_smooth rows' R' S' k' h' in
    not_both_smooth (nth_row rows k).kn i x p.0 p.1 (ap smooth (sym e) ∙ q.1)
