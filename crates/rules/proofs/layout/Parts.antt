-- Laws of bytes by their places: numbers, parts and the head of a block.
use mathlib.Core.Path.{◌≡◌, refl, ap, ◌∙◌}
use mathlib.Core.Bool.{true, false}
use mathlib.Core.List.{List, [], ◌∷◌}
use Prim.Native.Nat.{ℕ, suc, ◌+◌, ◌-◌, ◌≤◌, ◌<◌}
use native.Mathlib.Omega.{arith}
use native.Mathlib.Numerals.{add-one, add-two}
use lib.ListN.{length, take, drop, get_or, length-drop}
use lib.Seq.{drop-drop, drop-cons, take_all, length-take-le}
use borrow.Author.Tests.{le-leb, lt-leb}
use Rattle.rules.specs.Numbers.{num, full}
use Rattle.rules.specs.Blocks.{Field, values}
use Rattle.rules.specs.Outcome.{refused, got}
use Rattle.rules.specs.Walk.{header}
use Rattle.rules.specs.Parts.{be2, be4, part, head_at, values_at}
use Rattle.rules.proofs.walk.Outcome.{test_got, test_refused}

-- ---- numbers
pub num_one : (s : List ℕ) (at : ℕ) → at < length s → num (take 1 (drop at s)) ≡ get_or s at 0
unfolding num
num_one s at h = rw (drop-cons s at 0 h) (omega arith)

pub num_two : (s : List ℕ) (at : ℕ) → at + 2 ≤ length s → num (take 2 (drop at s)) ≡ be2 s at
unfolding num
num_two s at h = rw (drop-cons s at 0 (omega arith), drop-cons s (suc at) 0 (omega arith), add-one at) (omega arith)

pub num_four : (s : List ℕ) (at : ℕ) → at + 4 ≤ length s → num (take 4 (drop at s)) ≡ be4 s at
unfolding num
num_four s at h =
    rw (drop-cons s at 0 (omega arith), drop-cons s (suc at) 0 (omega arith), drop-cons s (suc (suc at)) 0 (omega arith), drop-cons s (suc (suc (suc at))) 0 (omega arith), add-two at, add-one at, add-one (suc (suc at)))
    (omega arith)

pub values_at_lem : (fs : List Field) (a : ℕ) (s : List ℕ) → values fs (drop a s) ≡ values_at fs a s
unfolding values values_at
values_at_lem [] a s = refl
values_at_lem (f ∷ fs) a s = rw (drop-drop f.width a s) (ap (num (take f.width (drop a s)) ∷◌) (values_at_lem fs (a + f.width) s))

-- ---- parts
pub full_some : (s : List ℕ) → 0 < length s → full s ≡ true
full_some [] h = absurd (omega arith)
full_some (x ∷ s) h = refl

pub full_none : (s : List ℕ) → length s ≡ 0 → full s ≡ false
full_none [] h = refl
full_none (x ∷ s) h = absurd (omega arith)

pub full_length : (s : List ℕ) → full s ≡ true → 0 < length s
full_length [] e = absurd (let z : ◌≡◌ {A = ℕ} 0 1 = cc in omega arith)
full_length (x ∷ s) e = omega arith

pub part_end : (s : List ℕ) (a : ℕ) → part a (length s) s ≡ drop a s
part_end s a = take_all (length s - a) (drop a s) (rw (length-drop a s) (omega arith))

pub length_part : (s : List ℕ) (a e : ℕ) → e ≤ length s → length (part a e s) ≡ e - a
length_part s a e h = length-take-le (e - a) (drop a s) (rw (length-drop a s) (omega arith))

-- ---- the head of a block: 2, or its tag, body and rest
module _ (s : List ℕ) (ln at : ℕ) where
  -- There are fewer bytes than a head and its length ask for: too few for a head, or the length runs past.
  pub header_overrun : length s < 3 + be2 s 1 → header ln at s ≡ refused 2 ln at
  unfolding header num
  header_overrun p = go s p
    where
      go : (s : List ℕ) → length s < 3 + be2 s 1 → header ln at s ≡ refused 2 ln at
      go [] p = refl
      go (a ∷ []) p = refl
      go (a ∷ b ∷ []) p = refl
      go (a ∷ b ∷ c ∷ s) p = test_refused _ _ _ _ (lt-leb (num (b ∷ c ∷ [])) (length s) (omega arith))

  pub header_short : length s < 3 → header ln at s ≡ refused 2 ln at
  header_short p = header_overrun (omega arith)

  pub header_over : 3 ≤ length s → length s - 3 < be2 s 1 → header ln at s ≡ refused 2 ln at
  header_over p q = header_overrun (omega arith)

  pub header_block : (n : ℕ) → n ≡ be2 s 1 → 3 + n ≤ length s → header ln at s ≡ got (head_at (get_or s 0 0) n s)
  unfolding header num
  header_block n e p = go s n e p
    where
      go : (s : List ℕ) (n : ℕ) → n ≡ be2 s 1 → 3 + n ≤ length s → header ln at s ≡ got (head_at (get_or s 0 0) n s)
      go [] n e p = absurd (omega arith)
      go (a ∷ []) n e p = absurd (omega arith)
      go (a ∷ b ∷ []) n e p = absurd (omega arith)
      go (a ∷ b ∷ c ∷ s) n e p =
          let m : num (b ∷ c ∷ []) ≡ n = omega arith in
          let k : 3 + n - 3 ≡ n = omega arith in
          rw (m, part_end (a ∷ b ∷ c ∷ s) (3 + n), k) (test_got _ _ _ _ (le-leb n (length s) (omega arith)) ∙ ap (λ r. got (record { tag = a; body = take n s; rest = r })) (drop-drop n 3 (a ∷ b ∷ c ∷ s)))
