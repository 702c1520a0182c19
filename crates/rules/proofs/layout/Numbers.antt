-- Laws of numbers in bytes, at any width: a number and its bytes determine each other; and of numbers below zero in 64 bits.
use mathlib.Core.Path.{◌≡◌, refl, ap}
use mathlib.Core.List.{List, [], ◌∷◌, ◌++◌}
use Prim.Native.Nat.{ℕ, zero, suc, ◌+◌, ◌^◌, ◌%◌, ◌<◌}
use native.Mathlib.Omega.{arith}
use native.Mathlib.Nat.{mod-lt, div-add-mod, mul-add-div_right, mul-add-mod_self_right, div-eq_of_lt, div-lt_iff_lt-mul, mod-eq_of_lt, mul-le-mul_right, add-zero}
use lib.ListN.{length, take, drop}
use lib.IntN.{ℤ, pos, negsuc}
use lib.Signed.{mag}
use Rattle.rules.specs.Numbers.{num, digits, Bytes, twos}

pub pow_pos : (k : ℕ) → 0 < 256 ^ k
pow_pos zero = omega arith
pow_pos (suc k) = omega (arith, pow_pos k)

-- ---- bytes
pub Bytes-take : (n : ℕ) (s : List ℕ) → Bytes s → Bytes (take n s)
unfolding Bytes
Bytes-take zero s h = tt
Bytes-take (suc n) [] h = tt
Bytes-take (suc n) (b ∷ s) h = (h.0, Bytes-take n s h.1)

pub Bytes-drop : (n : ℕ) (s : List ℕ) → Bytes s → Bytes (drop n s)
unfolding Bytes
Bytes-drop zero s h = h
Bytes-drop (suc n) [] h = tt
Bytes-drop (suc n) (b ∷ s) h = Bytes-drop n s h.1

pub Bytes-append : (a b : List ℕ) → Bytes a → Bytes b → Bytes (a ++ b)
unfolding Bytes
Bytes-append [] b p q = q
Bytes-append (x ∷ a) b p q = (p.0, Bytes-append a b p.1 q)

pub Bytes-digits : (k n : ℕ) → n < 256 ^ k → Bytes (digits k n)
unfolding Bytes digits
Bytes-digits zero n h = tt
Bytes-digits (suc k) n h = ((div-lt_iff_lt-mul (pow_pos k)).1 (omega arith), Bytes-digits k _ (mod-lt n (pow_pos k)))

-- ---- a number and its bytes
pub length_digits : (k n : ℕ) → length (digits k n) ≡ k
unfolding digits
length_digits zero n = refl
length_digits (suc k) n = ap suc (length_digits k _)

pub num_lt : (s : List ℕ) → Bytes s → num s < 256 ^ length s
unfolding num Bytes
num_lt [] h = omega arith
num_lt (b ∷ s) h =
    let g : num (b ∷ s) < 256 ^ suc (length s) = omega (arith, num_lt s h.1, mul-le-mul_right (256 ^ length s) h.0) in g

pub num_digits : (k n : ℕ) → n < 256 ^ k → num (digits k n) ≡ n
unfolding num digits
num_digits zero n h = omega arith
num_digits (suc k) n h = rw (length_digits k (n % 256 ^ k), num_digits k (n % 256 ^ k) (mod-lt n (pow_pos k))) (omega (arith, div-add-mod n (256 ^ k)))

pub digits_num : (k : ℕ) (s : List ℕ) → Bytes s → length s ≡ k → digits k (num s) ≡ s
unfolding num digits Bytes
digits_num zero [] h e = refl
digits_num zero (b ∷ s) h e = absurd (omega arith)
digits_num (suc k) [] h e = absurd (omega arith)
digits_num (suc k) (b ∷ s) h e =
    let e1 : length s ≡ k = omega arith in
    let p : num s < 256 ^ k = rw e1 at (num_lt s h.1) in
    rw (e1, mul-add-div_right (pow_pos k) b (num s), div-eq_of_lt p, add-zero, mul-add-mod_self_right b (256 ^ k) (num s), mod-eq_of_lt p)
    (ap (b ∷◌) (digits_num k s h.1 e1))

-- ---- below zero: mag z < 2^63 says that z lies from -2^63 up to 2^63 - 1
-- What is written fits 64 bits.
pub twos_lt : (z : ℤ) → mag z < 2 ^ 63 → twos z < 2 ^ 64
twos_lt (pos n) h = omega arith
twos_lt (negsuc n) h = omega arith

-- Below zero it is 2^64 more than the number.
pub twos_below : (n : ℕ) → n < 2 ^ 63 → twos (negsuc n) + suc n ≡ 2 ^ 64
twos_below n h = omega arith

-- What is written determines the number.
pub twos_one : (a b : ℤ) → mag a < 2 ^ 63 → mag b < 2 ^ 63 → twos a ≡ twos b → a ≡ b
twos_one (pos m) (pos n) h k e = ap pos e
twos_one (pos m) (negsuc n) h k e = absurd (omega arith)
twos_one (negsuc m) (pos n) h k e = absurd (omega arith)
twos_one (negsuc m) (negsuc n) h k e = ap negsuc (omega arith)
