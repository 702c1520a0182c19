-- 'The first fault met ends the reading': what stands behind the block that a refusal names has no say in it.
use mathlib.Core.Path.{◌≡◌, refl, sym, ◌∙◌}
use mathlib.Core.List.{List, [], ◌∷◌, ◌++◌}
use Prim.Native.Nat.{ℕ, ◌+◌, ◌≤◌}
use native.Mathlib.Omega.{arith}
use lib.ListN.{length, get_or}
use Rattle.rules.specs.Text.{text, Lines}
use Rattle.rules.specs.Blocks.{Ship, ship, row, condition_tag}
use Rattle.rules.specs.Layout.{most_characters}
use Rattle.rules.specs.Outcome.{Ans, refused, got}
use Rattle.rules.specs.Walk.{Found, table_row, the_condition, frame_at, ship_frame, closed, after, tail, read_frames, read}
use Rattle.rules.specs.Places.{SameBefore, looked_at}
use Rattle.rules.proofs.walk.Outcome.{bind_first, bind_last, bind_got, bind_refused}
use Rattle.rules.proofs.walk.Frames.{row_tag, ship_tag}
use Rattle.rules.proofs.walk.WholeText.{read_lines}
use Rattle.rules.proofs.walk.Refusals.{frame_at_refusal, ship_frame_refusal, closed_refusal, tail_refusal}
use Rattle.rules.proofs.walk.FrameFault.{frame_fault, ship_fault_lem, closed_fault}

-- The refusal names line b and offset o, at which the two texts have l and l'; the lines in front are the same; those behind may be anything.
-- A 5 is that of a block: with no A3 the refusal is the end's, which further lines would change.
module _ (l l' : List ℕ) (later later' : List (List ℕ)) (a b o : ℕ) (A : SameBefore (looked_at l a o) l l') (five : a ≡ 5 → get_or l 0 0 ≡ condition_tag) where
  -- ---- the named line is the first of those left
  -- It is not one behind.
  not_behind : (later : List (List ℕ)) (ln k p : ℕ) → ln ≡ b → (get_or l 0 0 ≡ condition_tag → ⊥) → tail later (ln + 1) k p ≡ refused a b o → ⊥
  unfolding tail
  not_behind [] ln k p q t e = t (five (let z : 5 ≡ a = cc in sym z))
  not_behind (x ∷ later) ln k p q t e = omega (arith, ((tail_refusal (x ∷ later) (ln + 1) k p).holds a b o e).1)

  here : (ln k p : ℕ) (x : Ans Found) → ln ≡ b → frame_at ln k p l ≡ x → tail (l ∷ later) ln k p ≡ refused a b o → tail (l' ∷ later') ln k p ≡ refused a b o
  unfolding tail after
  here ln k p (refused x y z) q h e = bind_refused _ (frame_fault ln a b o l l' A k p (bind_first _ _ h e))
  here ln k p (got (table_row v)) q h e =
      absurd (not_behind later ln (k + 1) v.mass q (λ t. let z : row.tag ≡ condition_tag = sym (row_tag ln k p l v h) ∙ t in omega arith) (bind_last _ _ (sym (bind_got _ h) ∙ e)))
  here ln k p (got (the_condition c)) q h e = absurd (omega (arith, ((closed_refusal (ln + 1) later).holds a b o (bind_last _ _ (sym (bind_got _ h) ∙ e))).1))

  -- ---- behind other frames
  after_condition : (front : List (List ℕ)) (ln : ℕ) → ln + length front ≡ b → closed ln (front ++ (l ∷ later)) ≡ refused a b o → closed ln (front ++ (l' ∷ later')) ≡ refused a b o
  after_condition [] ln q e = closed_fault ln a b o l l' A later later' e
  after_condition (x ∷ front) ln q e = absurd (omega (arith, ((closed_refusal ln (x ∷ (front ++ (l ∷ later)))).holds a b o e).1))

  tail_fault : (front : List (List ℕ)) (ln k p : ℕ) → ln + length front ≡ b → tail (front ++ (l ∷ later)) ln k p ≡ refused a b o → tail (front ++ (l' ∷ later')) ln k p ≡ refused a b o
  unfolding tail after
  tail_fault [] ln k p q e = here ln k p _ (omega arith) refl e
  tail_fault (x ∷ front) ln k p q e = go (λ ln k p q e. tail_fault front ln k p q e) (frame_at ln k p x) refl
    where
      go : ((ln k p : ℕ) → ln + length front ≡ b → tail (front ++ (l ∷ later)) ln k p ≡ refused a b o → tail (front ++ (l' ∷ later')) ln k p ≡ refused a b o)
          → (f : Ans Found) → frame_at ln k p x ≡ f → tail (x ∷ (front ++ (l' ∷ later'))) ln k p ≡ refused a b o
      go w (refused y z u) h = absurd (omega (arith, ((frame_at_refusal ln k p x).holds a b o (bind_first _ _ h e)).1))
      go w (got (table_row v)) h = bind_got _ h ∙ bind_refused _ (w (ln + 1) (k + 1) v.mass (omega arith) (bind_last _ _ (sym (bind_got _ h) ∙ e)))
      go w (got (the_condition c)) h = bind_got _ h ∙ bind_refused _ (after_condition front (ln + 1) (omega arith) (bind_last _ _ (sym (bind_got _ h) ∙ e)))

  -- ---- a whole text
  frames_fault : (front : List (List ℕ)) → 1 + length front ≡ b → read_frames (front ++ (l ∷ later)) ≡ refused a b o → read_frames (front ++ (l' ∷ later')) ≡ refused a b o
  unfolding read_frames
  frames_fault [] q e = go (ship_frame 1 l) refl
    where
      go : (x : Ans Ship) → ship_frame 1 l ≡ x → read_frames (l' ∷ later') ≡ refused a b o
      go (refused x y z) h = bind_refused _ (ship_fault_lem 1 a b o l l' A (bind_first _ _ h e))
      go (got v) h = absurd (not_behind later 1 0 0 (omega arith) (λ t. let z : ship.tag ≡ condition_tag = sym (ship_tag 1 l v h) ∙ t in omega arith) (bind_last _ _ (sym (bind_got _ h) ∙ e)))
  frames_fault (x ∷ front) q e = go (ship_frame 1 x) refl
    where
      go : (y : Ans Ship) → ship_frame 1 x ≡ y → read_frames (x ∷ (front ++ (l' ∷ later'))) ≡ refused a b o
      go (refused y z u) h = absurd (omega (arith, ((ship_frame_refusal 1 x).holds a b o (bind_first _ _ h e)).1))
      go (got v) h = bind_got _ h ∙ bind_refused _ (tail_fault front 2 0 0 (omega arith) (bind_last _ _ (sym (bind_got _ h) ∙ e)))

pub fault_stands : (front later later' : List (List ℕ)) (l l' : List ℕ) (n o : ℕ) → Lines (front ++ (l ∷ later)) → length (text (front ++ (l ∷ later))) ≤ most_characters
    → Lines (front ++ (l' ∷ later')) → length (text (front ++ (l' ∷ later'))) ≤ most_characters → SameBefore (looked_at l n o) l l' → (n ≡ 5 → get_or l 0 0 ≡ condition_tag)
    → read (text (front ++ (l ∷ later))) ≡ refused n (1 + length front) o → read (text (front ++ (l' ∷ later'))) ≡ refused n (1 + length front) o
fault_stands front later later' l l' n o B c B' c' A five e =
    read_lines _ B' c' ∙ frames_fault l l' later later' n (1 + length front) o A five front refl (sym (read_lines _ B c) ∙ e)
