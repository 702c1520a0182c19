-- The bytes of a number, the highest first: what `to_be_bytes` gives.
use Rattle.std.proofs.Common.{◌≡◌, ℕ, zero, suc, ◌+◌, ◌*◌, ◌/◌, ◌%◌, ◌^◌, ◌<◌, ◌∷◌, mod-lt, div-one, mod-eq_of_lt, arith, refl}
use Rattle.std.specs.Int.{bytes_high_first, to_be_bytes, w16, w64}
use native.Mathlib.Nat.{pow-succ'}
use lib.Arith.{mod-mul, digits_div, digits_mod}
use Rattle.rules.specs.Numbers.{digits}
use Rattle.rules.proofs.layout.Numbers.{pow_pos}

digits_more : (k v : ℕ) → digits (suc k) (v % 256 ^ suc k) ≡ v / 256 ^ k % 256 ∷ digits k (v % 256 ^ k)
unfolding digits
digits_more k v =
    let e : v % 256 ^ suc k ≡ (v / 256 ^ k % 256) * 256 ^ k + v % 256 ^ k = rw pow-succ' (mod-mul v {m = 256} (omega arith) (pow_pos k)) in
    rw (e, digits_div (v / 256 ^ k % 256) (mod-lt v (pow_pos k)), digits_mod (v / 256 ^ k % 256) (mod-lt v (pow_pos k)))

high_first : (k v : ℕ) → bytes_high_first k v ≡ digits k (v % 256 ^ k)
unfolding digits
high_first zero v = refl
high_first (suc zero) v = rw (digits_more 0 v, div-one v)
high_first (suc (suc k)) v = rw (digits_more (suc k) v, high_first (suc k) v)

pub be_bytes_two : (v : ℕ) → v < 65536 → to_be_bytes w16 v ≡ digits 2 v
be_bytes_two v h = rw (high_first 2 v, mod-eq_of_lt h)

pub be_bytes_eight : (v : ℕ) → v < 2 ^ 64 → to_be_bytes w64 v ≡ digits 8 v
be_bytes_eight v h = rw (high_first 8 v, mod-eq_of_lt h)
