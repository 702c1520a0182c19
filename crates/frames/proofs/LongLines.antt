-- A line of which only the front is held: longer than a row where a ship or a row is due, than any condition where a condition is. Its head and its length say why it is refused.
use mathlib.Core.Path.{◌≡◌, refl, ◌∙◌}
use mathlib.Core.Bool.{Bool, true, false, cond}
use mathlib.Core.List.{List, ◌∷◌}
use Prim.Native.Nat.{ℕ, ◌+◌, ◌≤◌, ◌<◌}
use native.Mathlib.Omega.{arith}
use lib.Dec.{ltb, eqb}
use lib.ListN.{length, get_or}
use borrow.Author.Tests.{ltb-true, ltb-false, eqb-true, eqb-false}
use Rattle.std.specs.Prelude.{Err}
use Rattle.rules.specs.Blocks.{Layout, size, ship, row, condition_tag}
use Rattle.rules.specs.Outcome.{Ans, refused, got}
use Rattle.rules.specs.Walk.{header, fixed_in, condition_in, ship_frame, closed}
use Rattle.rules.specs.Booklet.{row_at, condition_at}
use Rattle.rules.specs.Parts.{be2, head_at}
use Rattle.rules.proofs.layout.Parts.{header_overrun, header_block}
use Rattle.rules.proofs.walk.FrameExits.{condition_longer, condition_over, fixed_in_longer, fixed_in_length, ship_short, ship_tag, ship_in, row_refused}
use Rattle.rules.proofs.walk.Outcome.{bind_got, bind_refused}
use Rattle.book.specs.Book.{refusal, answered, Refuses, plain_ship, plain_row}
use Rattle.book.specs.declared.Refusal.{Refusal}
use Rattle.blocks.proofs.Answered.{answered_refused}
use Rattle.frames.specs.Sizes.{row_bytes, condition_bytes}
use Rattle.frames.specs.FrameAnswers.{plain_condition, ship_due, row_due, none_due, long_line, long_condition}
use Rattle.frames.proofs.Exits.{row_short, row_due_lem, row_other, condition_short, condition_in_lem}

-- ---- what the rules say of such a line
-- A block of fixed size, no longer than a row, is never so long.
fixed_in_long : {A : Type 0} (ln t : ℕ) (L : Layout A) (l : List ℕ) → 3 + size L.fields ≤ row_bytes → row_bytes < length l → 3 + be2 l 1 ≤ length l → fixed_in ln L (head_at t (be2 l 1) l) ≡ refused 3 ln 0
fixed_in_long ln t L l f h p = go (eqb (length l) (3 + be2 l 1)) refl
  where
    go : (c : Bool) → eqb (length l) (3 + be2 l 1) ≡ c → fixed_in ln L (head_at t (be2 l 1) l) ≡ refused 3 ln 0
    go true e = let q = eqb-true (length l) (3 + be2 l 1) e in fixed_in_length ln t (be2 l 1) l p L q (λ (z : be2 l 1 ≡ size L.fields). omega arith)
    go false e = fixed_in_longer ln t (be2 l 1) l p L (eqb-false (length l) (3 + be2 l 1) e)

module _ (ln : ℕ) (l : List ℕ) where
  -- Its head, where it lies inside its line.
  inside_line : 3 + be2 l 1 ≤ length l → header ln 0 l ≡ got (head_at (get_or l 0 0) (be2 l 1) l)
  inside_line p = header_block l ln 0 (be2 l 1) refl p

  -- 2 where it does not; otherwise what else is wrong.
  by_head : {A : Type 0} (m : Ans A) (r : Refusal) → (header ln 0 l ≡ refused 2 ln 0 → m ≡ refused 2 ln 0) → (3 + be2 l 1 ≤ length l → Refuses m r)
      → Refuses m (cond (ltb (length l) (3 + be2 l 1)) (refusal 2 ln 0) r)
  by_head m r x y = go (ltb (length l) (3 + be2 l 1)) refl
    where
      go : (a : Bool) → ltb (length l) (3 + be2 l 1) ≡ a → Refuses m (cond a (refusal 2 ln 0) r)
      go true e = x (header_overrun l ln 0 (ltb-true (length l) (3 + be2 l 1) e))
      go false e = y (ltb-false (length l) (3 + be2 l 1) e)

  -- Where a ship is due.
  pub long_ship : row_bytes < length l → answered plain_ship (ship_frame ln l) ≡ Err (long_line ship_due ln l (length l))
  unfolding row_bytes
  long_ship h = answered_refused plain_ship _ _ (by_head (ship_frame ln l) _ (ship_short ln l) (λ p. go p (ship_due (get_or l 0 0)) refl))
    where
      go : 3 + be2 l 1 ≤ length l → (a : Bool) → ship_due (get_or l 0 0) ≡ a → Refuses (ship_frame ln l) (cond a (refusal 3 ln 0) (refusal 4 ln 0))
      go p true e = ship_in ln l _ (be2 l 1) (inside_line p) (eqb-true (get_or l 0 0) ship.tag e) ∙ fixed_in_long ln ship.tag ship l (omega arith) h p
      go p false e = ship_tag ln l _ (be2 l 1) (inside_line p) (eqb-false (get_or l 0 0) ship.tag e)

  -- Where a row is due, k rows being before it, the last with W = w.
  pub long_row : (k w : ℕ) → row_bytes < length l
      → answered plain_row (row_at ln k w l) ≡ Err (long_line (row_due k) ln l (length l))
  unfolding row_bytes
  long_row k w h = answered_refused plain_row _ _ (by_head (row_at ln k w l) _ (row_short ln k w l) (λ p. go p (row_due k (get_or l 0 0)) refl))
    where
      go : 3 + be2 l 1 ≤ length l → (a : Bool) → row_due k (get_or l 0 0) ≡ a → Refuses (row_at ln k w l) (cond a (refusal 3 ln 0) (refusal 4 ln 0))
      go p true e = row_due_lem ln k w l _ (be2 l 1) (inside_line p) _ refl e ∙ row_refused ln w _ (fixed_in_long ln row.tag row l (omega arith) h p)
      go p false e = row_other ln k w l _ (be2 l 1) (inside_line p) _ refl e

  -- A line that is misplaced, of any length.
  pub long_closed : (ls : List (List ℕ)) → Refuses (closed ln (l ∷ ls)) (long_line none_due ln l (length l))
  unfolding closed
  long_closed ls = by_head (closed ln (l ∷ ls)) (refusal 4 ln 0) (λ e. bind_refused _ e) (λ p. bind_got _ (inside_line p))

  -- A condition line.
  pub long_condition_lem : condition_bytes < length l → answered plain_condition (condition_at ln l) ≡ Err (long_condition ln (be2 l 1) (length l))
  long_condition_lem h = answered_refused plain_condition _ _ (by_head (condition_at ln l) _ (condition_short ln l) (λ p. condition_in_lem ln l _ (be2 l 1) (inside_line p) ∙ go p (eqb (length l) (3 + be2 l 1)) refl))
    where
      go : 3 + be2 l 1 ≤ length l → (a : Bool) → eqb (length l) (3 + be2 l 1) ≡ a → Refuses (condition_in ln (head_at condition_tag (be2 l 1) l)) (cond a (refusal 5 ln 0) (refusal 3 ln 0))
      go p true e = let q = eqb-true (length l) (3 + be2 l 1) e in condition_over ln _ (be2 l 1) l p q (omega arith)
      go p false e = condition_longer ln _ (be2 l 1) l p (eqb-false (length l) (3 + be2 l 1) e)
