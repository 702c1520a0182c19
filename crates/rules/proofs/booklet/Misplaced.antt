-- A misplaced line is refused for the whole with 2 where it overruns, else with 4.
use mathlib.Core.Path.{◌≡◌, refl, ◌∙◌}
use mathlib.Core.Bool.{Bool, true, false}
use mathlib.Core.List.{List, [], ◌∷◌, ◌++◌}
use Prim.Native.Nat.{ℕ, ◌+◌, ◌≤◌, ◌<◌}
use native.Mathlib.Omega.{arith}
use lib.Dec.{leb, eqb}
use lib.ListN.{length, get_or}
use borrow.Author.Tests.{leb-true, leb-false, eqb-true, ne_eqb, le-ltb}
use Rattle.rules.specs.Text.{Lines}
use Rattle.rules.specs.Blocks.{Row, row}
use Rattle.rules.specs.Layout.{most_rows}
use Rattle.rules.specs.Outcome.{refused}
use Rattle.rules.specs.Walk.{ship_frame, closed}
use Rattle.rules.specs.Parts.{be2}
use Rattle.rules.specs.Met.{behind_rows, Overruns}
use Rattle.rules.specs.Booklet.{row_at, book_frames, read_whole}
use Rattle.rules.specs.Apart.{LinesWithin, MetWhole, first_line, due_row, behind_conditions, Misplaced, no_ship, no_row, no_condition}
use Rattle.rules.proofs.layout.Parts.{full_length, header_block}
use Rattle.rules.proofs.walk.Outcome.{bind_got, bind_refused, test_got, test_refused}
use Rattle.rules.proofs.booklet.Counted.{only_other, behind_row}
use Rattle.rules.proofs.booklet.WholeText.{read_blocks}
use Rattle.rules.proofs.booklet.Overrun.{no_condition_lem, led_behind, conditions_behind, frames_overrun}

-- The reading comes to it, and it has bytes.
pub met : {ls : List (List ℕ)} {ln : ℕ} {l : List ℕ} → Misplaced ls ln l → MetWhole ls ln l
met (no_ship l later h) = first_line l later
met (no_row s vs l later L a b) = due_row s vs l later L (λ f e. let x = b e in omega arith)
met (no_condition s vs cs l later L f B n h) = behind_conditions s vs cs l later L f B n h

behind_lines : (vs : List Row) (ls : List (List ℕ)) → Lines (behind_rows vs ls) → Lines ls
unfolding behind_rows Lines
behind_lines [] ls B = B
behind_lines (v ∷ vs) ls B = behind_lines vs ls B.2

later_lines : (cs ls : List (List ℕ)) → Lines (cs ++ ls) → Lines ls
unfolding Lines
later_lines [] ls B = B
later_lines (c ∷ cs) ls B = later_lines cs ls B.2

some : {ls : List (List ℕ)} {ln : ℕ} {l : List ℕ} → Misplaced ls ln l → Lines ls → 0 < length l
unfolding Lines
some (no_ship l later h) B = full_length l B.0
some (no_row s vs l later L a b) B = full_length l (behind_lines vs (l ∷ later) B.2).0
some (no_condition s vs cs l later L f C n h) B = full_length l (later_lines cs (l ∷ later) (behind_lines vs (cs ++ (l ∷ later)) B.2)).0

-- Where a row is due: another tag, or one row too many.
not_due : (ln k p : ℕ) (l : List ℕ) → 3 + be2 l 1 ≤ length l → (get_or l 0 0 ≡ row.tag → k ≡ most_rows) → row_at ln k p l ≡ refused 4 ln 0
unfolding row_at
not_due ln k p l v h = go (eqb (get_or l 0 0) row.tag) refl
  where
    go : (c : Bool) → eqb (get_or l 0 0) row.tag ≡ c → row_at ln k p l ≡ refused 4 ln 0
    go true q = let e = h (eqb-true _ _ q) in bind_got _ (header_block l ln 0 (be2 l 1) refl v) ∙ test_got _ _ _ _ q ∙ test_refused _ _ _ _ (le-ltb k most_rows (omega arith))
    go false q = bind_got _ (header_block l ln 0 (be2 l 1) refl v) ∙ test_refused _ _ _ _ q

frames_misplaced : {ls : List (List ℕ)} {ln : ℕ} {l : List ℕ} → Misplaced ls ln l → 3 + be2 l 1 ≤ length l → book_frames ls ≡ refused 4 ln 0
unfolding book_frames ship_frame closed
frames_misplaced (no_ship l later h) v = bind_refused _ (bind_got _ (header_block l 1 0 (be2 l 1) refl v) ∙ test_refused _ _ _ _ (ne_eqb _ _ h))
frames_misplaced (no_row s vs l later L a b) v =
    led_behind s vs (l ∷ later) L (λ q. behind_row l later (2 + length vs) (length vs) q (no_condition_lem l (length vs) (λ f e. let x = b e in omega arith)) ∙ bind_refused _ (not_due (2 + length vs) (length vs) q l v a))
frames_misplaced (no_condition s vs cs l later L f B n h) v =
    led_behind s vs (cs ++ (l ∷ later)) L (λ q.
    conditions_behind cs (l ∷ later) (2 + length vs) (length vs) q f B n (only_other l later (2 + length vs + length cs) (ne_eqb _ _ h) ∙ bind_got _ (header_block l (2 + length vs + length cs) 0 (be2 l 1) refl v)))

-- ---- a whole text
module _ (most : ℕ) (t : List ℕ) (ls : List (List ℕ)) (C : LinesWithin most t ls) (ln : ℕ) (l : List ℕ) (m : Misplaced ls ln l) where
  pub two_misplaced : Overruns l → read_whole most t ≡ refused 2 ln 0
  two_misplaced v = read_blocks most t ls C ∙ frames_overrun (met m) v

  pub four_misplaced : ¬ Overruns l → read_whole most t ≡ refused 4 ln 0
  four_misplaced v = read_blocks most t ls C ∙ frames_misplaced m (go (leb (3 + be2 l 1) (length l)) refl)
    where
      go : (c : Bool) → leb (3 + be2 l 1) (length l) ≡ c → 3 + be2 l 1 ≤ length l
      go true q = leb-true _ _ q
      go false q = absurd (v (some m C.lines, leb-false _ _ q))
