-- The angles of the criteria are what 01's words say of them, and so nothing else: the greatest lever's, phi0, u and e.
use mathlib.Core.Path.{◌≡◌, refl, ap, ◌∙◌}
use mathlib.Core.Bool.{Bool, true, false}
use Prim.Native.Nat.{ℕ, ◌-◌, ◌≤◌, ◌<◌}
use native.Mathlib.Omega.{arith}
use lib.Dec.{ltb}
use lib.IntN.{ℤ, pos, ◌-ℤ◌}
use lib.Signed.{le_z}
use borrow.Author.Tests.{ltb-false, lt-ltb, le-ltb}
use Rattle.rules.specs.Rounding.{peak}
use Rattle.rules.specs.Blocks.{timber}
use Rattle.rules.specs.Curve.{Loaded, y, E}
use Rattle.rules.specs.Criteria.{set, greatest_lever, angle_of_greatest, lw1, lw2, units, phi0}
use Rattle.rules.specs.Roll.{phi1, start, farthest, u, e, no_gust}
use Rattle.rules.proofs.rounding.Signed.{up, dn, Le, eq!, at_least, not_at_least}
use Rattle.rules.proofs.rounding.Searches.{Peak, peak_is, Reaches, reaches_is, Stays, stays_is}
use Rattle.rules.proofs.criteria.Ranges.{neither}

-- 'The first t in 0..E with the greatest y.'
pub angle_is : (c : Loaded) → Peak (λ t. y c (pos t)) 0 (E c) (angle_of_greatest c)
unfolding angle_of_greatest
angle_is c = peak_is (λ t. y c (pos t)) 0 (E c)

-- 'Greatest y from 300 to E .. If E < 300: .. figure 0'; from 0 in the timber set: over any set, from where it looks.
pub greatest_at : (c : Loaded) → (set c).from ≤ E c → greatest_lever c ≡ y c (pos (peak (λ t. y c (pos t)) (set c).from (E c - (set c).from)))
unfolding greatest_lever
greatest_at c h = ap (λ (b : Bool). elim b [ true ↦ pos 0 | false ↦ y c (pos (peak (λ t. y c (pos t)) (set c).from (E c - (set c).from))) ]) (le-ltb (E c) (set c).from h)

pub greatest_is : (c : Loaded) → (set c).from ≤ E c → (t : ℕ) × Peak (λ t. y c (pos t)) (set c).from (E c - (set c).from) t × (greatest_lever c ≡ y c (pos t))
greatest_is c h = (peak (λ t. y c (pos t)) (set c).from (E c - (set c).from), peak_is (λ t. y c (pos t)) (set c).from (E c - (set c).from), greatest_at c h)

pub greatest_none : (c : Loaded) → E c < (set c).from → greatest_lever c ≡ pos 0
unfolding greatest_lever
greatest_none c h = ap (λ (b : Bool). elim b [ true ↦ pos 0 | false ↦ y c (pos (peak (λ t. y c (pos t)) (set c).from (E c - (set c).from))) ]) (lt-ltb (E c) (set c).from h)

-- Where the angle of the greatest lever is not before that, it is the lever there; so always with timber on deck.
pub lever_at_angle : (c : Loaded) → (set c).from ≤ angle_of_greatest c → greatest_lever c ≡ y c (pos (angle_of_greatest c))
lever_at_angle c h =
    let a = angle_is c in
    let g = greatest_is c (omega (arith, a.high)) in
    let p = g.1 in
    g.2
    ∙ eq! (y c (pos g.0)) (y c (pos (angle_of_greatest c))) (omega (arith, a.most g.0 (omega arith) (omega (arith, p.high, a.high)), p.most (angle_of_greatest c) h (omega (arith, a.high))))

pub timber_lever : (c : Loaded) → c.weather.set ≡ timber → greatest_lever c ≡ y c (pos (angle_of_greatest c))
timber_lever c s = lever_at_angle c (let zero : (set c).from ≡ 0 = rw s in omega arith)

-- 'phi0 = first t in 0..E with y >= lw1.'
pub phi0_is : (c : Loaded) → Reaches (y c) (units c.unit (lw1 c)) 0 (E c) (phi0 c)
unfolding phi0
phi0_is c = reaches_is (y c) (units c.unit (lw1 c)) 0 (E c)

module _ (a b v w : ℤ) where
  at_level : a ≡ b → elim (le_z a b) [ true ↦ v | false ↦ w ] ≡ v
  at_level h = go (le_z a b) refl
    where
      go : (t : Bool) → le_z a b ≡ t → elim t [ true ↦ v | false ↦ w ] ≡ v
      go true e = refl
      go false e = absurd (omega (arith, not_at_least a b e, ap up h, ap dn h))

  above_level : Le b a → (a ≡ b → ⊥) → elim (le_z a b) [ true ↦ v | false ↦ w ] ≡ w
  above_level l n = go (le_z a b) refl
    where
      go : (t : Bool) → le_z a b ≡ t → elim t [ true ↦ v | false ↦ w ] ≡ w
      go true e = absurd (n (eq! a b (omega (arith, at_least a b e))))
      go false e = refl

-- 'Start = phi0 if y(phi0) = lw1, else phi0 - 1; less phi1.'
pub start_before : (c : Loaded) → phi0 c ≤ E c → (y c (pos (phi0 c)) ≡ units c.unit (lw1 c) → ⊥) → start c ≡ pos (phi0 c) -ℤ pos 1 -ℤ pos (phi1 c)
unfolding start
start_before c h n = above_level (y c (pos (phi0 c))) (units c.unit (lw1 c)) (pos (phi0 c) -ℤ pos (phi1 c)) (pos (phi0 c) -ℤ pos 1 -ℤ pos (phi1 c)) ((phi0_is c).hit h) n

pub start_at : (c : Loaded) → y c (pos (phi0 c)) ≡ units c.unit (lw1 c) → start c ≡ pos (phi0 c) -ℤ pos (phi1 c)
unfolding start
start_at c h = at_level (y c (pos (phi0 c))) (units c.unit (lw1 c)) (pos (phi0 c) -ℤ pos (phi1 c)) (pos (phi0 c) -ℤ pos 1 -ℤ pos (phi1 c)) h

-- 'u = first t from phi0 to min(E, 500) with y >= lw2.'
pub u_is : (c : Loaded) → Reaches (y c) (units c.unit (lw2 c)) (phi0 c) (farthest c) (u c)
unfolding u
u_is c = reaches_is (y c) (units c.unit (lw2 c)) (phi0 c) (farthest c)

-- Where there is a gust to judge, phi0 is within the curve and u within reach.
pub gust : (c : Loaded) → no_gust c ≡ false → (phi0 c ≤ E c) × (u c ≤ farthest c)
unfolding no_gust
gust c h =
    let n = neither (ltb (E c) (phi0 c)) (ltb (farthest c) (u c)) h in
    (ltb-false (E c) (phi0 c) n.0, ltb-false (farthest c) (u c) n.1)

-- 'e = the last tenth of a degree up to which GZ stays at or above lw2 from u on, not beyond min(E, 500).'
pub e_is : (c : Loaded) → no_gust c ≡ false → Stays (y c) (units c.unit (lw2 c)) (u c) (farthest c) (e c)
unfolding e
e_is c h = stays_is (y c) (units c.unit (lw2 c)) (u c) (farthest c) (gust c h).1 ((u_is c).hit (gust c h).1)
