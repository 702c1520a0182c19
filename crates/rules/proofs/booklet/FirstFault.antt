-- A refusal for the whole depends on nothing behind the line that it names, nor a condition's on anything behind the block that it names.
use mathlib.Core.Path.{◌≡◌, refl, ap, sym, ◌∙◌}
use mathlib.Core.Logic.{◌≢◌}
use mathlib.Core.Bool.{Bool, true, false, ◌&&◌}
use mathlib.Core.List.{List, [], ◌∷◌, ◌++◌}
use Prim.Native.Nat.{ℕ, ◌+◌, ◌≤◌}
use native.Mathlib.Omega.{arith}
use lib.Dec.{leb, eqb}
use lib.ListN.{length, get_or}
use Rattle.rules.specs.Blocks.{Ship, Row, condition_tag}
use Rattle.rules.specs.Layout.{fewest_rows, is_condition}
use Rattle.rules.specs.Outcome.{Ans, refused, got}
use Rattle.rules.specs.Walk.{ship_frame}
use Rattle.rules.specs.Places.{SameBefore, looked_at}
use Rattle.rules.specs.Booklet.{row_at, only_conditions, behind_ship, book_frames, read_whole, condition_at}
use Rattle.rules.specs.Apart.{LinesWithin}
use Rattle.rules.specs.Answer.{answer_of_line}
use Rattle.rules.proofs.walk.Outcome.{bind_first, bind_last, bind_got, bind_refused}
use Rattle.rules.proofs.walk.Refusals.{ship_frame_refusal, closed_refusal}
use Rattle.rules.proofs.walk.FrameFault.{a_head, frame_fault, ship_fault_lem, closed_fault}
use Rattle.rules.proofs.booklet.Counted.{only_a3, only_other, behind_a3, behind_row}
use Rattle.rules.proofs.booklet.Refusals.{row_at_refusal, only_refusal, behind_refusal}
use Rattle.rules.proofs.booklet.WholeText.{read_blocks}
use Rattle.rules.proofs.booklet.Conditions.{answer_own, answer_refused}
use Rattle.rules.proofs.booklet.AsFrames.{frame_due, frame_condition}

-- ---- one line
-- The refusal names line b and offset o of the line l; l' is the same as far as the refusal looks.
module _ (a b o : ℕ) (l l' : List ℕ) (A : SameBefore (looked_at l a o) l l') where
  same_tag : get_or l 0 0 ≡ get_or l' 0 0
  same_tag = A.bytes 0 (omega (arith, a_head 0 a b o l l' A))

  row_fault_lem : (ln k p : ℕ) → (is_condition l && leb fewest_rows k) ≡ false → (is_condition l' && leb fewest_rows k) ≡ false → row_at ln k p l ≡ refused a b o → row_at ln k p l' ≡ refused a b o
  row_fault_lem ln k p d d' e = bind_last _ _ (sym (frame_due ln k p l' d') ∙ frame_fault ln a b o l l' A k p (frame_due ln k p l d ∙ bind_refused _ e))

  pub condition_fault_lem : (ln : ℕ) → get_or l 0 0 ≡ condition_tag → condition_at ln l ≡ refused a b o → condition_at ln l' ≡ refused a b o
  condition_fault_lem ln t e =
      bind_last _ _ (sym (frame_condition ln 2 0 l' (sym same_tag ∙ t) (omega arith)) ∙ frame_fault ln a b o l l' A 2 0 (frame_condition ln 2 0 l t (omega arith) ∙ bind_refused _ e))

  -- A refusal up to 6 of a condition.
  pub fault_in_line : (s : Ship) (vs : List Row) (ln : ℕ) → get_or l 0 0 ≡ condition_tag → a ≤ 6 → answer_of_line s vs ln l ≡ refused a b o → answer_of_line s vs ln l' ≡ refused a b o
  fault_in_line s vs ln t h e = answer_refused s vs ln l' (condition_fault_lem ln t (answer_own s vs ln l h e))

-- ---- a whole text
-- The refusal names line b, at which the two texts have l and l'; the lines in front are the same; those behind may be anything. 5, with no A3, is the end's, which further lines would change.
module _ (l l' : List ℕ) (later later' : List (List ℕ)) (a b : ℕ) (A : SameBefore (looked_at l a 0) l l') (five : a ≢ 5) where
  -- The first of the lines left is not one behind.
  not_behind : (later : List (List ℕ)) (ln k p : ℕ) → ln ≡ b → behind_ship later (ln + 1) k p ≡ refused a b 0 → ⊥
  unfolding behind_ship
  not_behind [] ln k p q e = five (let z : 5 ≡ a = cc in sym z)
  not_behind (x ∷ later) ln k p q e = omega (arith, ((behind_refusal (x ∷ later) (ln + 1) k p).holds a b 0 e).1)

  only_fault : (front : List (List ℕ)) (ln : ℕ) → ln + length front ≡ b → only_conditions ln (front ++ (l ∷ later)) ≡ refused a b 0 → only_conditions ln (front ++ (l' ∷ later')) ≡ refused a b 0
  only_fault [] ln q e = go (is_condition l) refl
    where
      go : (c : Bool) → is_condition l ≡ c → only_conditions ln (l' ∷ later') ≡ refused a b 0
      go true p = absurd (omega (arith, ((only_refusal later (ln + 1)).holds a b 0 (sym (only_a3 l later ln p) ∙ e)).1))
      go false p = only_other l' later' ln (ap (λ x. eqb x condition_tag) (sym (same_tag a b 0 l l' A)) ∙ p) ∙ closed_fault ln a b 0 l l' A later later' (sym (only_other l later ln p) ∙ e)
  only_fault (x ∷ front) ln q e = go (only_fault front (ln + 1) (omega arith)) (is_condition x) refl
    where
      go : (only_conditions (ln + 1) (front ++ (l ∷ later)) ≡ refused a b 0 → only_conditions (ln + 1) (front ++ (l' ∷ later')) ≡ refused a b 0)
          → (c : Bool) → is_condition x ≡ c → only_conditions ln (x ∷ (front ++ (l' ∷ later'))) ≡ refused a b 0
      go H true p = only_a3 x _ ln p ∙ H (sym (only_a3 x (front ++ (l ∷ later)) ln p) ∙ e)
      go H false p = absurd (omega (arith, ((closed_refusal ln (x ∷ (front ++ (l ∷ later)))).holds a b 0 (sym (only_other x (front ++ (l ∷ later)) ln p) ∙ e)).1))

  here : (ln k p : ℕ) → ln ≡ b → behind_ship (l ∷ later) ln k p ≡ refused a b 0 → behind_ship (l' ∷ later') ln k p ≡ refused a b 0
  here ln k p q e = go (is_condition l && leb fewest_rows k) refl
    where
      read_row : (is_condition l && leb fewest_rows k) ≡ false → (r : Ans Row) → row_at ln k p l ≡ r → behind_ship (l' ∷ later') ln k p ≡ refused a b 0
      read_row c (refused x y z) h =
          let d : (is_condition l' && leb fewest_rows k) ≡ false = ap (λ x. eqb x condition_tag && leb fewest_rows k) (sym (same_tag a b 0 l l' A)) ∙ c in
          behind_row l' later' ln k p d ∙ bind_refused _ (row_fault_lem a b 0 l l' A ln k p c d (bind_first _ _ h (sym (behind_row l later ln k p c) ∙ e)))
      read_row c (got v) h = absurd (not_behind later ln (k + 1) v.mass q (bind_last _ _ (sym (behind_row l later ln k p c ∙ bind_got _ h) ∙ e)))

      go : (c : Bool) → (is_condition l && leb fewest_rows k) ≡ c → behind_ship (l' ∷ later') ln k p ≡ refused a b 0
      go true c = absurd (omega (arith, ((only_refusal later (ln + 1)).holds a b 0 (bind_last _ _ (sym (behind_a3 l later ln k p c) ∙ e))).1))
      go false c = read_row c (row_at ln k p l) refl

  behind_fault : (front : List (List ℕ)) (ln k p : ℕ) → ln + length front ≡ b → behind_ship (front ++ (l ∷ later)) ln k p ≡ refused a b 0 → behind_ship (front ++ (l' ∷ later')) ln k p ≡ refused a b 0
  behind_fault [] ln k p q e = here ln k p (omega arith) e
  behind_fault (x ∷ front) ln k p q e = go (λ k p. behind_fault front (ln + 1) k p (omega arith)) (is_condition x && leb fewest_rows k) refl
    where
      read_row : ((k p : ℕ) → behind_ship (front ++ (l ∷ later)) (ln + 1) k p ≡ refused a b 0 → behind_ship (front ++ (l' ∷ later')) (ln + 1) k p ≡ refused a b 0)
          → (is_condition x && leb fewest_rows k) ≡ false → (r : Ans Row) → row_at ln k p x ≡ r → behind_ship (x ∷ (front ++ (l' ∷ later'))) ln k p ≡ refused a b 0
      read_row H c (refused y z u) h = absurd (omega (arith, ((row_at_refusal ln k p x).holds a b 0 (bind_first _ _ h (sym (behind_row x (front ++ (l ∷ later)) ln k p c) ∙ e))).1))
      read_row H c (got v) h =
          behind_row x (front ++ (l' ∷ later')) ln k p c ∙ bind_got _ h ∙ bind_refused _ (H (k + 1) v.mass (bind_last _ _ (sym (behind_row x (front ++ (l ∷ later)) ln k p c ∙ bind_got _ h) ∙ e)))

      go : ((k p : ℕ) → behind_ship (front ++ (l ∷ later)) (ln + 1) k p ≡ refused a b 0 → behind_ship (front ++ (l' ∷ later')) (ln + 1) k p ≡ refused a b 0)
          → (c : Bool) → (is_condition x && leb fewest_rows k) ≡ c → behind_ship (x ∷ (front ++ (l' ∷ later'))) ln k p ≡ refused a b 0
      go H true c =
          behind_a3 x (front ++ (l' ∷ later')) ln k p c ∙ bind_refused _ (only_fault front (ln + 1) (omega arith) (bind_last _ _ (sym (behind_a3 x (front ++ (l ∷ later)) ln k p c) ∙ e)))
      go H false c = read_row H c (row_at ln k p x) refl

  frames_fault : (front : List (List ℕ)) → 1 + length front ≡ b → book_frames (front ++ (l ∷ later)) ≡ refused a b 0 → book_frames (front ++ (l' ∷ later')) ≡ refused a b 0
  unfolding book_frames
  frames_fault [] q e = go (ship_frame 1 l) refl
    where
      go : (x : Ans Ship) → ship_frame 1 l ≡ x → book_frames (l' ∷ later') ≡ refused a b 0
      go (refused x y z) h = bind_refused _ (ship_fault_lem 1 a b 0 l l' A (bind_first _ _ h e))
      go (got v) h = absurd (not_behind later 1 0 0 (omega arith) (bind_last _ _ (sym (bind_got _ h) ∙ e)))
  frames_fault (x ∷ front) q e = go (ship_frame 1 x) refl
    where
      go : (y : Ans Ship) → ship_frame 1 x ≡ y → book_frames (x ∷ (front ++ (l' ∷ later'))) ≡ refused a b 0
      go (refused y z u) h = absurd (omega (arith, ((ship_frame_refusal 1 x).holds a b 0 (bind_first _ _ h e)).1))
      go (got v) h = bind_got _ h ∙ bind_refused _ (behind_fault front 2 0 0 (omega arith) (bind_last _ _ (sym (bind_got _ h) ∙ e)))

pub whole_fault : (most : ℕ) (t t' : List ℕ) (front later later' : List (List ℕ)) (l l' : List ℕ) (n : ℕ) → LinesWithin most t (front ++ (l ∷ later)) → LinesWithin most t' (front ++ (l' ∷ later')) → SameBefore (looked_at l n 0) l l' → n ≢ 5
    → read_whole most t ≡ refused n (1 + length front) 0 → read_whole most t' ≡ refused n (1 + length front) 0
whole_fault most t t' front later later' l l' n C C' A five e = read_blocks most t' _ C' ∙ frames_fault l l' later later' n (1 + length front) A five front refl (sym (read_blocks most t _ C) ∙ e)
