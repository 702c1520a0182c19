-- Every area of document 01 from the areas that begin at 0: areas add up, and 'y(-t) = -y(t)' mirrors the windward side.
use mathlib.Core.Path.{◌≡◌, ap, sym, ◌∙◌}
use Prim.Native.Nat.{ℕ, zero, suc, ◌+◌, ◌≤◌}
use native.Mathlib.Omega.{arith}
use lib.IntN.{ℤ, pos, negsuc, neg_ℤ, ◌+ℤ◌, ◌-ℤ◌, +ℤ_assoc, +ℤ_comm, +ℤ_idl, +ℤ_idr}
use Rattle.rules.specs.Curve.{area}
use Rattle.rules.proofs.rounding.Signed.{up, dn, Le, Lt, eq!, add≡, diff≡, up_neg, dn_neg}
use Rattle.rules.proofs.loading.Areas.{area_empty, area_step}
use Rattle.curve.specs.Levers.{up_to}

-- A curve that is its own mirror.
abbrev pub Odd : (ℤ → ℤ) → Type 0
Odd f = (t : ℕ) → f (neg_ℤ (pos t)) ≡ neg_ℤ (f (pos t))

-- The other part of a sum.
other : (x y z : ℤ) → x ≡ y +ℤ z → z ≡ x -ℤ y
other x y z e = eq! z (x -ℤ y) (omega (arith, ap up e, ap dn e, add≡ y z, diff≡ x y))

-- The mirror of two levers and of the area before them.
mirrors : (u v x : ℤ) → neg_ℤ u +ℤ neg_ℤ v +ℤ neg_ℤ x ≡ neg_ℤ (x +ℤ (v +ℤ u))
mirrors u v x =
    eq! (neg_ℤ u +ℤ neg_ℤ v +ℤ neg_ℤ x) (neg_ℤ (x +ℤ (v +ℤ u)))
    (omega (arith, add≡ (neg_ℤ u +ℤ neg_ℤ v) (neg_ℤ x), add≡ (neg_ℤ u) (neg_ℤ v), up_neg u, dn_neg u, up_neg v, dn_neg v, up_neg x, dn_neg x, up_neg (x +ℤ (v +ℤ u)), dn_neg (x +ℤ (v +ℤ u)), add≡ x (v +ℤ u), add≡ v u))

module _ (f : ℤ → ℤ) where
  -- ---- areas add up
  adds : (n : ℕ) (p q r : ℤ) → p +ℤ pos n ≡ r → Le r q → area f p q ≡ area f p r +ℤ area f r q
  adds zero p q r e h =
      let z : p ≡ r = sym (+ℤ_idr p) ∙ e in
      ap (λ (x : ℤ). area f x q) z ∙ sym (+ℤ_idl (area f r q)) ∙ ap (λ (x : ℤ). x +ℤ area f r q) (sym (area_empty f p r (omega (arith, ap up z, ap dn z))))
  adds (suc n) p q r e h =
      let l : Lt p r = omega (arith, ap up e, ap dn e, add≡ p (pos (suc n))) in
      let k : 1 + n ≡ suc n = omega arith in
      let next : p +ℤ pos 1 +ℤ pos n ≡ r = +ℤ_assoc p (pos 1) (pos n) ∙ ap (λ (m : ℕ). p +ℤ pos m) k ∙ e in
      let s = f p +ℤ f (p +ℤ pos 1) in
      area_step f p q (omega arith)
      ∙ ap (λ (x : ℤ). s +ℤ x) (adds n (p +ℤ pos 1) q r next h)
      ∙ sym (+ℤ_assoc s (area f (p +ℤ pos 1) r) (area f r q))
      ∙ ap (λ (x : ℤ). x +ℤ area f r q) (sym (area_step f p r l))

  -- ---- areas from 0, tenth by tenth
  pub up_to_none : up_to f 0 ≡ pos 0
  up_to_none = area_empty f (pos 0) (pos 0) (omega arith)

  tenth : (n : ℕ) → area f (pos n) (pos (n + 1)) ≡ f (pos n) +ℤ f (pos (n + 1))
  tenth n = area_step f (pos n) (pos (n + 1)) (omega arith) ∙ rw (area_empty f (pos (n + 1)) (pos (n + 1)) (omega arith), +ℤ_idr)

  pub up_to_more : (n : ℕ) → up_to f (n + 1) ≡ up_to f n +ℤ (f (pos n) +ℤ f (pos (n + 1)))
  up_to_more n = let e : 0 + n ≡ n = omega arith in adds n (pos 0) (pos (n + 1)) (pos n) (ap pos e) (omega arith) ∙ ap (λ (x : ℤ). up_to f n +ℤ x) (tenth n)

  -- ---- to leeward, and from windward
  pub leeward : (a e : ℕ) → a ≤ e → area f (pos a) (pos e) ≡ up_to f e -ℤ up_to f a
  leeward a e h = let z : 0 + a ≡ a = omega arith in other (up_to f e) (up_to f a) (area f (pos a) (pos e)) (adds a (pos 0) (pos e) (pos a) (ap pos z) (omega arith))

  mirrored : Odd f → (a : ℕ) → area f (neg_ℤ (pos a)) (pos 0) ≡ neg_ℤ (up_to f a)
  mirrored odd zero = up_to_none ∙ ap neg_ℤ (sym up_to_none)
  mirrored odd (suc a) =
      let k : a + 1 ≡ suc a = omega arith in
      let s : negsuc a +ℤ pos 1 ≡ neg_ℤ (pos a) = eq! (negsuc a +ℤ pos 1) (neg_ℤ (pos a)) (omega (arith, add≡ (negsuc a) (pos 1), up_neg (pos a), dn_neg (pos a))) in
      area_step f (negsuc a) (pos 0) (omega arith) ∙ rw (s, mirrored odd a, odd a, odd (suc a), ← k, up_to_more a) (mirrors (f (pos (a + 1))) (f (pos a)) (up_to f a))

  pub windward : Odd f → (a e : ℕ) → area f (neg_ℤ (pos a)) (pos e) ≡ up_to f e -ℤ up_to f a
  windward odd a e =
      let z : neg_ℤ (pos a) +ℤ pos a ≡ pos 0 = eq! (neg_ℤ (pos a) +ℤ pos a) (pos 0) (omega (arith, add≡ (neg_ℤ (pos a)) (pos a), up_neg (pos a), dn_neg (pos a))) in
      adds a (neg_ℤ (pos a)) (pos e) (pos 0) z (omega arith) ∙ ap (λ (x : ℤ). x +ℤ up_to f e) (mirrored odd a) ∙ +ℤ_comm (neg_ℤ (up_to f a)) (up_to f e)

-- ---- curves that agree have the same areas
pub up_to_same : (f h : ℤ → ℤ) (n : ℕ) → ((t : ℕ) → t ≤ n → f (pos t) ≡ h (pos t)) → up_to f n ≡ up_to h n
up_to_same f h zero same = up_to_none f ∙ sym (up_to_none h)
up_to_same f h (suc n) same =
    let e : suc n ≡ n + 1 = omega arith in
    rw e (rw (up_to_more f n, up_to_more h n, up_to_same f h n (λ t l. same t (omega arith)), same n (omega arith), same (n + 1) (omega arith)))
