-- 'Area from p to q: sum of y(t) + y(t+1) for t from p to q-1; 0 if q <= p': the two equations that settle it.
use mathlib.Core.Path.{◌≡◌, refl, ap, sym, ◌∙◌}
use mathlib.Core.Bool.{Bool, true, false}
use Prim.Native.Nat.{ℕ, suc, ◌+◌}
use native.Mathlib.Omega.{arith}
use lib.IntN.{ℤ, pos, nat_abs, ◌+ℤ◌, ◌-ℤ◌}
use lib.Signed.{lt_z}
use Rattle.rules.specs.Rounding.{sum_z}
use Rattle.rules.specs.Curve.{area}
use Rattle.rules.proofs.rounding.Signed.{up, dn, Le, Lt, below, not_below, abs_pos, add≡, diff≡}

module _ (f : ℤ → ℤ) where
  -- The two levers at the ends of a tenth.
  abbrev pair : ℤ → ℤ
  pair t = f t +ℤ f (t +ℤ pos 1)

  pub area_empty : (p q : ℤ) → Le q p → area f p q ≡ pos 0
  unfolding area
  area_empty p q h = go (lt_z p q) refl
    where
      go : (b : Bool) → lt_z p q ≡ b → elim b [ true ↦ sum_z pair (nat_abs (q -ℤ p)) p | false ↦ pos 0 ] ≡ pos 0
      go true e = absurd (omega (arith, below p q e))
      go false e = refl

  -- How many tenths lie between.
  apart : (p q : ℤ) → Le p q → nat_abs (q -ℤ p) + (dn q + up p) ≡ up q + dn p
  apart p q h = omega (arith, abs_pos (q -ℤ p) (omega (arith, diff≡ q p)), diff≡ q p)

  -- Where it is a sum, it is one of so many terms; and of none where q is p.
  counted : (p q : ℤ) → Le p q → area f p q ≡ sum_z pair (nat_abs (q -ℤ p)) p
  unfolding area sum_z
  counted p q h = go (lt_z p q) refl
    where
      go : (b : Bool) → lt_z p q ≡ b → elim b [ true ↦ sum_z pair (nat_abs (q -ℤ p)) p | false ↦ pos 0 ] ≡ sum_z pair (nat_abs (q -ℤ p)) p
      go true e = refl
      go false e = let z : 0 ≡ nat_abs (q -ℤ p) = omega (arith, apart p q h, not_below p q e) in ap (λ (n : ℕ). sum_z pair n p) z

  pub area_step : (p q : ℤ) → Lt p q → area f p q ≡ f p +ℤ f (p +ℤ pos 1) +ℤ area f (p +ℤ pos 1) q
  unfolding sum_z
  area_step p q h =
      let l : Le p q = omega arith in
      let k : Le (p +ℤ pos 1) q = omega (arith, add≡ p (pos 1)) in
      let z : nat_abs (q -ℤ p) ≡ suc (nat_abs (q -ℤ (p +ℤ pos 1))) = omega (arith, apart p q l, apart (p +ℤ pos 1) q k, add≡ p (pos 1)) in
      counted p q l ∙ ap (λ (n : ℕ). sum_z pair n p) z ∙ ap (λ (s : ℤ). f p +ℤ f (p +ℤ pos 1) +ℤ s) (sym (counted (p +ℤ pos 1) q k))
