-- Linear facts over ℤ by `omega`: each whole number is `up - dn`, one of them 0, and each operation has one equation between naturals.
use mathlib.Core.Path.{◌≡◌, refl, ap, sym, ◌∙◌, subst}
use mathlib.Core.Bool.{Bool, true, false, cond, not}
use Prim.Native.Nat.{ℕ, zero, suc, ◌+◌, ◌-◌, ◌*◌, ◌≤◌, ◌<◌}
use native.Mathlib.Omega.{arith}
use native.Mathlib.Nat.{mul-zero, zero-mul}
use native.Mathlib.Decide.{dec_lt}
use lib.Dec.{T, ltb, leb→le, le→leb, ltb→lt, nltb→le}
use lib.IntN.{ℤ, pos, negsuc, neg_ℤ, sub_ℕ, nat_abs, ◌+ℤ◌, ◌-ℤ◌, ◌*ℤ◌}
use lib.Signed.{le_z, lt_z, lt_z_no, mag}

abbrev pub up : ℤ → ℕ
up (pos n) = n
up (negsuc n) = 0

abbrev pub dn : ℤ → ℕ
dn (pos n) = 0
dn (negsuc n) = suc n

-- The order, as `omega` reads it.
abbrev pub Le : ℤ → ℤ → Type 0
Le a b = up a + dn b ≤ up b + dn a

abbrev pub Lt : ℤ → ℤ → Type 0
Lt a b = up a + dn b < up b + dn a

-- ---- equality and order, from naturals and to them
pub eq! : (a b : ℤ) → up a + dn b ≡ up b + dn a → a ≡ b
eq! (pos a) (pos b) h = ap pos (omega arith)
eq! (pos a) (negsuc b) h = absurd (omega arith)
eq! (negsuc a) (pos b) h = absurd (omega arith)
eq! (negsuc a) (negsuc b) h = ap negsuc (omega arith)

pub le! : (a b : ℤ) → Le a b → T (le_z a b)
le! (pos a) (pos b) h = le→leb a b (omega arith)
le! (pos a) (negsuc b) h = absurd (omega arith)
le! (negsuc a) (pos b) h = tt
le! (negsuc a) (negsuc b) h = le→leb b a (omega arith)

pub le? : (a b : ℤ) → T (le_z a b) → Le a b
le? (pos a) (pos b) h = omega (arith, leb→le a b h)
le? (pos a) (negsuc b) h = absurd h
le? (negsuc a) (pos b) h = omega arith
le? (negsuc a) (negsuc b) h = omega (arith, leb→le b a h)

pub lt? : (a b : ℤ) → T (lt_z a b) → Lt a b
lt? (pos a) (pos b) h = omega (arith, ltb→lt a b h)
lt? (pos a) (negsuc b) h = absurd h
lt? (negsuc a) (pos b) h = omega arith
lt? (negsuc a) (negsuc b) h = omega (arith, ltb→lt b a h)

-- What a test that came out says.
pub below : (a b : ℤ) → lt_z a b ≡ true → Lt a b
below a b e = lt? a b (subst T (sym e) tt)

pub not_below : (a b : ℤ) → lt_z a b ≡ false → Le b a
not_below a b e = le? b a (lt_z_no {a = a} {b = b} (subst (λ (x : Bool). T (not x)) (sym e) tt)).le

pub at_least : (a b : ℤ) → le_z a b ≡ true → Le a b
at_least a b e = le? a b (subst T (sym e) tt)

pub not_at_least : (a b : ℤ) → le_z a b ≡ false → Lt b a
not_at_least a b e = elim (dec_lt (up b + dn a) (up a + dn b)) [ yes l ↦ l | no l ↦ absurd (subst T e (le! a b (omega arith))) ]

-- And what makes it come out.
pub le_true : (a b : ℤ) → Le a b → le_z a b ≡ true
le_true a b h = go (le_z a b) refl
  where
    go : (t : Bool) → le_z a b ≡ t → le_z a b ≡ true
    go true e = e
    go false e = absurd (omega (arith, not_at_least a b e))

pub le_false : (a b : ℤ) → Lt b a → le_z a b ≡ false
le_false a b h = go (le_z a b) refl
  where
    go : (t : Bool) → le_z a b ≡ t → le_z a b ≡ false
    go true e = absurd (omega (arith, at_least a b e))
    go false e = e

-- ---- the operations, one equation each
pub sub≡ : (a b : ℕ) → up (sub_ℕ a b) + b ≡ a + dn (sub_ℕ a b)
sub≡ a b = go (ltb a b) (λ t. ltb→lt a b t) (λ t. nltb→le a b t)
  where
    go : (t : Bool) → (T t → a < b) → (T (not t) → b ≤ a) → up (cond t (negsuc (b - suc a)) (pos (a - b))) + b ≡ a + dn (cond t (negsuc (b - suc a)) (pos (a - b)))
    go true l m = omega (arith, l tt)
    go false l m = omega (arith, m tt)

pub add≡ : (a b : ℤ) → up (a +ℤ b) + (dn a + dn b) ≡ up a + up b + dn (a +ℤ b)
add≡ (pos a) (pos b) = omega arith
add≡ (pos a) (negsuc b) = omega (arith, sub≡ a (suc b))
add≡ (negsuc a) (pos b) = omega (arith, sub≡ b (suc a))
add≡ (negsuc a) (negsuc b) = omega arith

pub up_neg : (a : ℤ) → up (neg_ℤ a) ≡ dn a
up_neg (pos zero) = refl
up_neg (pos (suc n)) = refl
up_neg (negsuc n) = refl

pub dn_neg : (a : ℤ) → dn (neg_ℤ a) ≡ up a
dn_neg (pos zero) = refl
dn_neg (pos (suc n)) = refl
dn_neg (negsuc n) = refl

pub diff≡ : (a b : ℤ) → up (a -ℤ b) + (dn a + up b) ≡ up a + dn b + dn (a -ℤ b)
diff≡ a b = omega (arith, add≡ a (neg_ℤ b), up_neg b, dn_neg b)

pub up_mulr : (a : ℤ) (k : ℕ) → up (a *ℤ pos k) ≡ up a * k
up_mulr (pos a) k = refl
up_mulr (negsuc a) k = up_neg (pos (suc a * k)) ∙ sym (zero-mul k)

pub dn_mulr : (a : ℤ) (k : ℕ) → dn (a *ℤ pos k) ≡ dn a * k
dn_mulr (pos a) k = sym (zero-mul k)
dn_mulr (negsuc a) k = dn_neg (pos (suc a * k))

pub up_mull : (k : ℕ) (a : ℤ) → up (pos k *ℤ a) ≡ k * up a
up_mull k (pos a) = refl
up_mull k (negsuc a) = up_neg (pos (k * suc a)) ∙ sym (mul-zero k)

pub dn_mull : (k : ℕ) (a : ℤ) → dn (pos k *ℤ a) ≡ k * dn a
dn_mull k (pos a) = sym (mul-zero k)
dn_mull k (negsuc a) = dn_neg (pos (k * suc a))

pub abs_pos : (a : ℤ) → Le (pos 0) a → (nat_abs a ≡ up a) × (dn a ≡ 0)
abs_pos (pos n) h = (refl, refl)
abs_pos (negsuc n) h = absurd (omega arith)

-- A difference of two naturals, as code makes it.
pub sub_is : (a b : ℕ) → pos a -ℤ pos b ≡ sub_ℕ a b
sub_is a b = eq! (pos a -ℤ pos b) (sub_ℕ a b) (omega (arith, diff≡ (pos a) (pos b), sub≡ a b))

-- ---- bounds: neither part of a sum or a difference is above the sum of the parts
pub up_sub : (a b : ℕ) → up (sub_ℕ a b) ≤ a
up_sub a b = go (ltb a b)
  where
    go : (t : Bool) → up (cond t (negsuc (b - suc a)) (pos (a - b))) ≤ a
    go true = omega arith
    go false = omega arith

pub dn_sub : (a b : ℕ) → dn (sub_ℕ a b) ≤ b
dn_sub a b = omega (arith, sub≡ a b, up_sub a b)

pub up_add : (a b : ℤ) → up (a +ℤ b) ≤ up a + up b
up_add (pos a) (pos b) = omega arith
up_add (pos a) (negsuc b) = omega (arith, up_sub a (suc b))
up_add (negsuc a) (pos b) = omega (arith, up_sub b (suc a))
up_add (negsuc a) (negsuc b) = omega arith

pub dn_add : (a b : ℤ) → dn (a +ℤ b) ≤ dn a + dn b
dn_add a b = omega (arith, up_add a b, add≡ a b)

pub mag_le : (a : ℤ) → mag a ≤ up a + dn a
mag_le (pos n) = omega arith
mag_le (negsuc n) = omega arith
