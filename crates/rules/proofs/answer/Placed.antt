-- The place of every refusal of a text of one condition lies within the text.
use mathlib.Core.Path.{◌≡◌, refl}
use mathlib.Core.Logic.{◌⊎◌, inl, inr, ◌≢◌}
use mathlib.Core.List.{List, []}
use Prim.Native.Nat.{ℕ, ◌+◌, ◌*◌, ◌≤◌}
use lib.ListN.{length}
use native.Mathlib.Omega.{arith}
use Rattle.rules.specs.Layout.{Reading}
use Rattle.rules.specs.Outcome.{refused, Unread}
use Rattle.rules.specs.Places.{LineAt, Placed, too_long, at_line, empty_text, at_byte, at_row, unweighed}
use Rattle.rules.specs.Loading.{tenths}
use Rattle.rules.specs.Answer.{judged, answered}
use Rattle.rules.proofs.walk.Refusals.{Refusal, given, weaker, bind_refusal, test_refusal, last_refusal}
use Rattle.rules.proofs.walk.PlaceWithin.{read_placed}
use Rattle.rules.proofs.answer.Steps.{answered_steps, judged_steps, weighed_steps}

-- 7 and 8 have no place.
abbrev pub NoPlace : ℕ → ℕ → ℕ → Type 0
NoPlace n l o = (7 ≤ n) × (n ≤ 8) × (l ≡ 0) × (o ≡ 0)

pub judged_refusal : (r : Reading) → Refusal NoPlace (judged r)
judged_refusal r = rw (judged_steps tenths r, weighed_steps r) (bind_refusal _ _ (test_refusal _ 7 0 0 _ (omega arith) (last_refusal _ 8 0 0 (omega arith))) (λ u eu. given))

-- Every refusal, that of the reading and 7 and 8.
pub place_within : (t : List ℕ) (n l o : ℕ) → answered t ≡ refused n l o → Placed t n l o
place_within t n l o e = placed.holds n l o e
  where
    placed : Refusal (Placed t) (answered t)
    placed = rw (answered_steps t) (bind_refusal _ _ (read_placed t) (λ r er. weaker (λ n l o x. rw (x.2, x.3) (unweighed x.0 x.1)) (judged_refusal r)))

-- ---- read the other way
-- Only 1 to 8 and 10 have a place.
pub number_placed : {t : List ℕ} {n l o : ℕ} → Placed t n l o → (1 ≤ n) × (n ≤ 10) × (n ≢ 9)
number_placed (too_long h) = omega arith
number_placed (at_line c x) = omega arith
number_placed (empty_text e) = omega arith
number_placed (at_byte a b c x h) = omega arith
number_placed (at_row c x h) = omega arith
number_placed (unweighed a b) = omega arith

-- 7 and 8 name no line.
pub no_line_named : {t : List ℕ} {n l o : ℕ} → Placed t n l o → 7 ≤ n → n ≤ 8 → l ≡ 0
no_line_named (too_long h) from to = refl
no_line_named (at_line c x) from to = absurd (omega arith)
no_line_named (empty_text e) from to = refl
no_line_named (at_byte a b c x h) from to = absurd (omega arith)
no_line_named (at_row c x h) from to = absurd (omega arith)
no_line_named (unweighed a b) from to = refl

-- Only 2 to 6 have an offset but 0.
pub others_at_front : {t : List ℕ} {n l o : ℕ} → Placed t n l o → ((2 ≤ n) × (n ≤ 6) → ⊥) → o ≡ 0
others_at_front (too_long h) f = refl
others_at_front (at_line c x) f = refl
others_at_front (empty_text e) f = refl
others_at_front (at_byte a b c x h) f = absurd (f (a, b))
others_at_front (at_row c x h) f = refl
others_at_front (unweighed a b) f = refl

-- 2 to 6 and 10 name a byte of one of the text's own lines, and both its characters stand there, or the text is empty.
pub byte_of_line : {t : List ℕ} {n l o : ℕ} → Placed t n l o → 2 ≤ n → Unread n → (t ≡ []) ⊎ ((p : List ℕ) × LineAt t l p × (2 * o + 2 ≤ length p))
byte_of_line (too_long h) from to = absurd (omega arith)
byte_of_line (at_line c x) from to = absurd (omega arith)
byte_of_line (empty_text e) from to = inl e
byte_of_line (at_byte {p = p} a b c x h) from to = inr (p, x, omega arith)
byte_of_line (at_row {p = p} c x h) from to = inr (p, x, omega arith)
byte_of_line (unweighed a b) from to = absurd (omega arith)

-- Where a line is named the text is within 180,000 characters.
pub named_within : {t : List ℕ} {n l o : ℕ} → Placed t n l o → 1 ≤ l → length t ≤ 180_000
named_within (too_long h) f = absurd (omega arith)
named_within (at_line c x) f = c
named_within (empty_text e) f = absurd (omega arith)
named_within (at_byte a b c x h) f = c
named_within (at_row c x h) f = c
named_within (unweighed a b) f = absurd (omega arith)
