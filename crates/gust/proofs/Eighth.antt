-- Criterion 8, way by way: where there is no phi0 or no u, and where there is a net area.
use mathlib.Core.Path.{◌≡◌, refl, sym}
use mathlib.Core.Bool.{Bool, true, false}
use Prim.Native.Nat.{ℕ, ◌≤◌, ◌<◌}
use native.Mathlib.Omega.{arith}
use lib.Dec.{leb}
use lib.IntN.{ℤ}
use borrow.Author.Tests.{lt-ltb, le-ltb, leb-true, leb-false}
use Rattle.std.specs.Prelude.{None, Some, cond}
use Rattle.rules.specs.Curve.{Loaded, E}
use Rattle.rules.specs.Criteria.{phi0}
use Rattle.rules.specs.Roll.{phi1, farthest, u, net, not_judged, no_gust}
use Rattle.curve.specs.Heeled.{not_past}
use Rattle.roll.specs.Rolls.{roll_of}
use Rattle.gust.specs.Gusts.{withstood_of}

-- ---- what a search that may find none says
distinct : {A : Type 0} {n : A} → Some n ≡ None → ⊥
distinct e = let z : ◌≡◌ {A = ℕ} 0 1 = cc in omega arith

pub past : (to t : ℕ) → not_past to t ≡ None → to < t
past to t = go (leb t to) refl
  where
    go : (b : Bool) → leb t to ≡ b → cond b (Some t) None ≡ None → to < t
    go true h e = absurd (distinct e)
    go false h e = leb-false t to h

pub within : (to t n : ℕ) → not_past to t ≡ Some n → (n ≡ t) × (t ≤ to)
within to t n = go (leb t to) refl
  where
    go : (b : Bool) → leb t to ≡ b → cond b (Some t) None ≡ Some n → (n ≡ t) × (t ≤ to)
    go true h e = (cc, leb-true t to h)
    go false h e = absurd (distinct (sym e))

module _ (c : Loaded) where
  -- 'Otherwise fail if phi0 is none.'
  pub no_heel : E c < phi0 c → no_gust c ≡ true
  unfolding no_gust
  no_heel h = simp (lt-ltb (E c) (phi0 c) h)

  -- 'u .. none: fail.'
  pub never_met : phi0 c ≤ E c → farthest c < u c → no_gust c ≡ true
  unfolding no_gust
  never_met h l = simp (le-ltb (E c) (phi0 c) h, lt-ltb (farthest c) (u c) l)

  pub met : phi0 c ≤ E c → u c ≤ farthest c → no_gust c ≡ false
  unfolding no_gust
  met h l = simp (le-ltb (E c) (phi0 c) h, le-ltb (farthest c) (u c) l)

  -- ---- what the roll says
  pub no_roll : roll_of c ≡ None → not_judged c ≡ true
  unfolding roll_of
  no_roll = go (not_judged c)
    where
      go : (off : Bool) → cond off None (Some (phi1 c)) ≡ None → off ≡ true
      go true h = refl
      go false h = absurd (distinct h)

  pub rolls : (m : ℕ) → roll_of c ≡ Some m → (not_judged c ≡ false) × (m ≡ phi1 c)
  unfolding roll_of
  rolls m = go (not_judged c)
    where
      go : (off : Bool) → cond off None (Some (phi1 c)) ≡ Some m → (off ≡ false) × (m ≡ phi1 c)
      go true h = absurd (distinct (sym h))
      go false h = (refl, cc)

  -- ---- what the net area says
  pub fails : withstood_of c ≡ None → no_gust c ≡ true
  unfolding withstood_of
  fails = go (no_gust c)
    where
      go : (none : Bool) → cond none None (Some (net c)) ≡ None → none ≡ true
      go true h = refl
      go false h = absurd (distinct h)

  pub nets : (n : ℤ) → withstood_of c ≡ Some n → (no_gust c ≡ false) × (n ≡ net c)
  unfolding withstood_of
  nets n = go (no_gust c)
    where
      go : (none : Bool) → cond none None (Some (net c)) ≡ Some n → (none ≡ false) × (n ≡ net c)
      go true h = absurd (distinct (sym h))
      go false h = (refl, cc)
