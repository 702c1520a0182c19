-- A number in bytes, one byte more.
use Rattle.std.specs.Prelude.{List, [], ◌∷◌, ◌++◌, ℕ, zero, suc, ◌+◌, ◌*◌, ◌^◌, ◌<◌, ◌≤◌, length, take, drop}
use mathlib.Core.Path.{◌≡◌}
use Rattle.std.proofs.Common.{arith, add-one}
use Rattle.std.proofs.lemmas.List.{length-append, get_or-drop, length-drop}
use Rattle.std.proofs.Math.Seq.{take-suc}
use Rattle.std.proofs.Math.ListN.{get_or}
use Rattle.std.proofs.Math.Nat.{pow-suc}
use Rattle.rules.specs.Numbers.{num}

pub num_snoc : (s : List ℕ) (x : ℕ) → num (s ++ (x ∷ [])) ≡ 256 * num s + x
unfolding num
num_snoc [] x = omega arith
num_snoc (b ∷ s) x = rw (length-append s (x ∷ []), add-one (length s), pow-suc 256 (length s), num_snoc s x) (grind arith)

-- The byte at a place is the next one.
pub num_next : (s : List ℕ) (at k : ℕ) → at + k < length s → num (take (suc k) (drop at s)) ≡ 256 * num (take k (drop at s)) + get_or s (at + k) 0
num_next s at k h = rw (take-suc (drop at s) k 0 (rw (length-drop at s) (omega arith)), get_or-drop at s k 0) (num_snoc _ _)

-- Seven bytes and one more fit the machine's number.
pub within : (k n b : ℕ) → k ≤ 7 → n < 256 ^ k → b < 256 → 256 * n + b < 2 ^ 64
within zero n b p q r = omega arith
within (suc zero) n b p q r = omega arith
within (suc (suc zero)) n b p q r = omega arith
within (suc (suc (suc zero))) n b p q r = omega arith
within (suc (suc (suc (suc zero)))) n b p q r = omega arith
within (suc (suc (suc (suc (suc zero))))) n b p q r = omega arith
within (suc (suc (suc (suc (suc (suc zero)))))) n b p q r = omega arith
within (suc (suc (suc (suc (suc (suc (suc zero))))))) n b p q r = omega arith
within (suc (suc (suc (suc (suc (suc (suc (suc k)))))))) n b p q r = omega arith

-- One byte more is one power more.
pub next_lt : (k n b : ℕ) → n < 256 ^ k → b < 256 → 256 * n + b < 256 ^ (k + 1)
next_lt k n b q r = rw (add-one k, pow-suc 256 k) (grind (arith, q, r))
