-- Where the reading of ship, rows and misplaced lines comes to a line that overruns, the whole text is refused with 2 there.
use mathlib.Core.Path.{◌≡◌, refl, ◌∙◌}
use mathlib.Core.Logic.{◌≢◌}
use mathlib.Core.Bool.{Bool, true, false, ◌&&◌}
use mathlib.Core.List.{List, [], ◌∷◌, ◌++◌}
use Prim.Native.Nat.{ℕ, ◌+◌, ◌≤◌}
use native.Mathlib.Omega.{arith}
use lib.Dec.{leb}
use lib.ListN.{length, get_or}
use borrow.Author.Tests.{leb-true, le-leb, eqb-true, ne_eqb}
use Rattle.rules.specs.Blocks.{spell_block, Ship, Row, row, condition_tag}
use Rattle.rules.specs.Layout.{Rising, NoSlips, fewest_rows, most_rows, is_condition}
use Rattle.rules.specs.Outcome.{refused}
use Rattle.rules.specs.Walk.{closed}
use Rattle.rules.specs.Met.{Led, behind_rows, lead, Overruns}
use Rattle.rules.specs.Loading.{last_mass}
use Rattle.rules.specs.Booklet.{row_at, only_conditions, behind_ship, book_frames}
use Rattle.rules.specs.Apart.{BeginA3, MetWhole, first_line, due_row, behind_conditions}
use Rattle.rules.proofs.layout.Parts.{header_overrun}
use Rattle.rules.proofs.walk.Outcome.{bind_got, bind_refused}
use Rattle.rules.proofs.walk.Frames.{ship_got}
use Rattle.rules.proofs.walk.Led.{last_from, last_from_lem}
use Rattle.rules.proofs.walk.FrameExits.{ship_short}
use Rattle.rules.proofs.booklet.Counted.{begins, only_a3, only_other, behind_a3, behind_row}
use Rattle.rules.proofs.booklet.Frames.{row_got, not_a3}

-- A line that is no condition line in its place.
pub no_condition_lem : (l : List ℕ) (k : ℕ) → (fewest_rows ≤ k → get_or l 0 0 ≢ condition_tag) → (is_condition l && leb fewest_rows k) ≡ false
no_condition_lem l k h = go (is_condition l) (leb fewest_rows k) refl refl
  where
    go : (a b : Bool) → is_condition l ≡ a → leb fewest_rows k ≡ b → (a && b) ≡ false
    go true true p q = absurd (h (leb-true _ _ q) (eqb-true _ _ p))
    go true false p q = refl
    go false b p q = refl

-- ---- what overruns is refused
behind_rows_lem : (vs : List Row) (ls : List (List ℕ)) (ln ln' k k' p : ℕ) {a b c : ℕ} → Rising p vs → NoSlips vs → ln' ≡ ln + length vs → k' ≡ k + length vs → k' ≤ most_rows → behind_ship ls ln' k' (last_from p vs) ≡ refused a b c
    → behind_ship (behind_rows vs ls) ln k p ≡ refused a b c
unfolding behind_rows Rising NoSlips last_from
behind_rows_lem [] ls ln ln' k k' p R S u v m e = let x : ln ≡ ln' = omega arith in let y : k ≡ k' = omega arith in rw (x, y) e
behind_rows_lem (r ∷ vs) ls ln ln' k k' p R S u v m e =
    behind_row (spell_block row r) (behind_rows vs ls) ln k p (not_a3 k r) ∙ bind_got _ (row_got ln k p r (R.0, R.1, S.0) (omega arith))
    ∙ bind_refused _ (behind_rows_lem vs ls (ln + 1) ln' (k + 1) k' r.mass R.2 S.1 (omega arith) (omega arith) m e)

-- Behind a ship and rows as they must be; so also where the last one's W does not matter.
pub led_last : (s : Ship) (vs : List Row) (ls : List (List ℕ)) {a b c : ℕ} → Led s vs → behind_ship ls (2 + length vs) (length vs) (last_mass vs) ≡ refused a b c → book_frames (lead s vs ls) ≡ refused a b c
unfolding book_frames
led_last s vs ls L e = bind_got _ (ship_got 1 s L.hull) ∙ bind_refused _ (behind_rows_lem vs ls 2 (2 + length vs) 0 (length vs) 0 L.rising L.no_slips refl (omega arith) L.many (rw (last_from_lem vs) e))

pub led_behind : (s : Ship) (vs : List Row) (ls : List (List ℕ)) {a b c : ℕ} → Led s vs → ((q : ℕ) → behind_ship ls (2 + length vs) (length vs) q ≡ refused a b c) → book_frames (lead s vs ls) ≡ refused a b c
led_behind s vs ls L e = led_last s vs ls L (e (last_mass vs))

only_behind : (cs ls : List (List ℕ)) (ln ln' : ℕ) → BeginA3 cs → ln' ≡ ln + length cs → only_conditions ln (cs ++ ls) ≡ only_conditions ln' ls
unfolding BeginA3
only_behind [] ls ln ln' B e = let q : ln' ≡ ln = omega arith in rw q
only_behind (x ∷ cs) ls ln ln' B e = only_a3 x (cs ++ ls) ln (begins x B.0) ∙ only_behind cs ls (ln + 1) ln' B.2 (omega arith)

pub conditions_behind : (cs ls : List (List ℕ)) (ln k p : ℕ) {a b c : ℕ} → fewest_rows ≤ k → BeginA3 cs → 1 ≤ length cs → only_conditions (ln + length cs) ls ≡ refused a b c → behind_ship (cs ++ ls) ln k p ≡ refused a b c
unfolding BeginA3
conditions_behind [] ls ln k p f B s e = absurd (omega arith)
conditions_behind (x ∷ cs) ls ln k p f B s e =
    behind_a3 x (cs ++ ls) ln k p (rw (begins x B.0, le-leb fewest_rows k f)) ∙ bind_refused _ (only_behind cs ls (ln + 1) (ln + length (x ∷ cs)) B.2 (omega arith) ∙ e)

pub frames_overrun : {ls : List (List ℕ)} {ln : ℕ} {l : List ℕ} → MetWhole ls ln l → Overruns l → book_frames ls ≡ refused 2 ln 0
unfolding book_frames row_at closed
frames_overrun (first_line l later) v = bind_refused _ (ship_short 1 l (header_overrun l 1 0 v.1))
frames_overrun (due_row s vs l later L h) v =
    led_behind s vs (l ∷ later) L (λ q. behind_row l later (2 + length vs) (length vs) q (no_condition_lem l (length vs) h) ∙ bind_refused _ (bind_refused _ (header_overrun l (2 + length vs) 0 v.1)))
frames_overrun (behind_conditions s vs cs l later L f B n h) v =
    led_behind s vs (cs ++ (l ∷ later)) L (λ q.
    conditions_behind cs (l ∷ later) (2 + length vs) (length vs) q f B n (only_other l later (2 + length vs + length cs) (ne_eqb _ _ h) ∙ bind_refused _ (header_overrun l (2 + length vs + length cs) 0 v.1)))
