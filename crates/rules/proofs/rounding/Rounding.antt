-- What each division rounds to: up, the least whole number not below the quotient; down, the greatest not above it; either side of zero.
use mathlib.Core.Path.{◌≡◌}
use Prim.Native.Nat.{ℕ, suc, ◌+◌, ◌-◌, ◌*◌, ◌/◌, ◌≤◌, ◌<◌}
use native.Mathlib.Omega.{arith}
use native.Mathlib.Nat.{lt-div-mul-add, div-mul-le_self, lt_of_mul-lt-mul_right, le_antisymm}
use lib.IntN.{ℤ, pos, negsuc, ◌+ℤ◌, ◌*ℤ◌}
use Rattle.rules.specs.Rounding.{ceil, ceil_z, Direction}
use Rattle.rules.proofs.rounding.Signed.{up, dn, Le, Lt, eq!, add≡, up_neg, dn_neg, up_mulr, dn_mulr}

-- q is n / d rounded down: at most the quotient, by less than one.
pub record Floor (n d q : ℕ) : Type 0 where
  pub under : q * d ≤ n
  pub near : n < q * d + d

-- q is n / d rounded up: at least the quotient, by less than one.
pub record Ceiling (n d q : ℕ) : Type 0 where
  pub over : n ≤ q * d
  pub near : q * d < n + d

-- The same of a whole number of either sign.
pub record CeilingZ (n : ℤ) (d : ℕ) (q : ℤ) : Type 0 where
  pub over : Le n (q *ℤ pos d)
  pub near : Lt (q *ℤ pos d) (n +ℤ pos d)

pub floor_is : (n d : ℕ) → 0 < d → Floor n d (n / d)
floor_is n d h = record { under = div-mul-le_self n d; near = lt-div-mul-add h }

pub ceil_is : (n d : ℕ) → 0 < d → Ceiling n d (ceil n d)
ceil_is n d h = record { over = omega (arith, lt-div-mul-add {a = n + (d - 1)} {b = d} h); near = omega (arith, div-mul-le_self (n + (d - 1)) d) }

pub ceil_z_is : (n : ℤ) (d : ℕ) → 0 < d → CeilingZ n d (ceil_z n d)
ceil_z_is (pos n) d h = let c = ceil_is n d h in record { over = omega arith; near = omega arith }
ceil_z_is (negsuc n) d h = record {
  over = rw (up_mulr, dn_mulr, up_neg, dn_neg) (omega (arith, div-mul-le_self (suc n) d));
  near = rw (up_mulr, dn_mulr, up_neg, dn_neg) (omega (arith, lt-div-mul-add {a = suc n} {b = d} h, add≡ (negsuc n) (pos d)));
}

-- ---- greatest and least
-- Less than one more, times d, is no more.
within_one : (q q' d : ℕ) → q * d < q' * d + d → q ≤ q'
within_one q q' d h = let l : q < q' + 1 = lt_of_mul-lt-mul_right d (omega arith) in omega arith

pub floor_greatest : {n d q : ℕ} → Floor n d q → (m : ℕ) → m * d ≤ n → m ≤ q
floor_greatest {n} {d} {q} f m h = within_one m q d (omega arith)

pub ceiling_least : {n d q : ℕ} → Ceiling n d q → (m : ℕ) → n ≤ m * d → q ≤ m
ceiling_least {n} {d} {q} c m h = within_one q m d (omega arith)

within_one_z : (q q' : ℤ) (d : ℕ) → Lt (q *ℤ pos d) (q' *ℤ pos d +ℤ pos d) → Le q q'
within_one_z q q' d h =
    let l : up q + dn q' < up q' + dn q + 1 = lt_of_mul-lt-mul_right d (omega (arith, up_mulr q d, dn_mulr q d, up_mulr q' d, dn_mulr q' d, add≡ (q' *ℤ pos d) (pos d))) in
    omega arith

pub ceiling_z_least : {n : ℤ} {d : ℕ} {q : ℤ} → CeilingZ n d q → (m : ℤ) → Le n (m *ℤ pos d) → Le q m
ceiling_z_least {n} {d} {q} c m h = within_one_z q m d (omega (arith, add≡ n (pos d), add≡ (m *ℤ pos d) (pos d)))

pub ceiling_z_from : {n : ℤ} {d : ℕ} {q : ℤ} → CeilingZ n d q → 0 < d → (m : ℤ) → Le (m *ℤ pos d) n → Le m q
ceiling_z_from {n} {d} {q} c l m h = within_one_z m q d (omega (arith, add≡ (q *ℤ pos d) (pos d)))

-- ---- so there is one only
pub floor_unique : {n d q q' : ℕ} → Floor n d q → Floor n d q' → q ≡ q'
floor_unique {n} {d} {q} {q'} a b = le_antisymm (floor_greatest b q a.under) (floor_greatest a q' b.under)

pub ceiling_unique : {n d q q' : ℕ} → Ceiling n d q → Ceiling n d q' → q ≡ q'
ceiling_unique {n} {d} {q} {q'} a b = le_antisymm (ceiling_least a q' b.over) (ceiling_least b q a.over)

pub ceiling_z_unique : {n : ℤ} {d : ℕ} {q q' : ℤ} → CeilingZ n d q → CeilingZ n d q' → q ≡ q'
ceiling_z_unique {n} {d} {q} {q'} a b = eq! q q' (omega (arith, ceiling_z_least a q' b.over, ceiling_z_least b q a.over))

-- ---- either way, as tables have it
-- q is n / d rounded this way.
abbrev pub Rounded : Direction → ℕ → ℕ → ℕ → Type 0
Rounded Direction.down n d q = Floor n d q
Rounded Direction.up n d q = Ceiling n d q

pub rounded_unique : (way : Direction) (n d q q' : ℕ) → Rounded way n d q → Rounded way n d q' → q ≡ q'
rounded_unique Direction.down n d q q' a b = floor_unique a b
rounded_unique Direction.up n d q q' a b = ceiling_unique a b

-- A whole quotient is not rounded.
pub rounded_whole : (way : Direction) (v d : ℕ) → 0 < d → Rounded way (v * d) d v
rounded_whole Direction.down v d h = record { under = omega arith; near = omega arith }
rounded_whole Direction.up v d h = record { over = omega arith; near = omega arith }

-- Rounding passes no whole number.
pub rounded_from : (way : Direction) (n d q : ℕ) → Rounded way n d q → (a : ℕ) → a * d ≤ n → a ≤ q
rounded_from Direction.down n d q r a h = floor_greatest r a h
rounded_from Direction.up n d q r a h = within_one a q d (omega arith)

pub rounded_to : (way : Direction) (n d q : ℕ) → Rounded way n d q → (b : ℕ) → n ≤ b * d → q ≤ b
rounded_to Direction.down n d q r b h = within_one q b d (omega arith)
rounded_to Direction.up n d q r b h = ceiling_least r b h
