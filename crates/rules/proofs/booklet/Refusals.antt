-- Every refusal for the whole text has a number from 1 to 6, or 10, and one by its blocks a line of the text and offset 0; a condition's refusal has a number from 2 to 6, its own line and an offset inside it.
use mathlib.Core.Path.{◌≡◌, refl, ap}
use mathlib.Core.Logic.{◌≢◌}
use mathlib.Core.Bool.{Bool, true, false, ◌&&◌}
use mathlib.Core.List.{List, [], ◌∷◌}
use Prim.Native.Nat.{ℕ, ◌+◌, ◌-◌, max, min, ◌≤◌}
use native.Mathlib.Omega.{arith}
use lib.Dec.{leb}
use lib.ListN.{length, length-append}
use borrow.Author.Tests.{leb-true}
use Rattle.rules.specs.Layout.{fewest_rows, most_bytes, is_condition}
use Rattle.rules.specs.Outcome.{Unread}
use Rattle.rules.specs.Walk.{condition_in}
use Rattle.rules.specs.Booklet.{counted, counted_lines, row_at, only_conditions, behind_ship, book_frames, read_whole, condition_at}
use Rattle.rules.proofs.walk.Heads.{header_splits}
use Rattle.rules.proofs.walk.Refusals.{Refusal, given, plain, weaker, bind_refusal, test_cases, test_refusal, NumberFrom, UnreadFrom, OfRow, Between, header_refusal, inside_refusal, row_refusal, ship_frame_refusal, closed_refusal}
use Rattle.rules.proofs.walk.BadLine.{lines_bad}
use Rattle.rules.proofs.booklet.Counted.{counted_lines_steps, only_a3, only_other, behind_a3, behind_row}
use Rattle.rules.proofs.booklet.TwentyFifth.{counted_only}

-- A number from 2 to 6, or 10, from one line to another, and no offset.
abbrev pub Among : ℕ → ℕ → ℕ → ℕ → ℕ → Type 0
Among a e n l o = UnreadFrom 2 n × (a ≤ l) × (l ≤ e) × (o ≡ 0)

-- Of lines of which the first has the number ln; with none left it may be the line before.
abbrev pub InLines : List (List ℕ) → ℕ → ℕ → ℕ → ℕ → Type 0
InLines ls ln n l o = Among ln (ln + length ls - 1) n l o

abbrev pub Left : List (List ℕ) → ℕ → ℕ → ℕ → ℕ → Type 0
Left ls ln n l o = Among (ln + min 1 (length ls) - 1) (ln + length ls - 1) n l o

-- ---- before the blocks
-- 5 at one of these lines, of which the first has the number ln.
abbrev Over : List (List ℕ) → ℕ → ℕ → ℕ → ℕ → Type 0
Over ls ln n l o = (n ≡ 5) × (ln ≤ l) × (l ≤ ln + length ls - 1) × (o ≡ 0)

pub counted_refusal : (ls : List (List ℕ)) (ln n : ℕ) → Refusal (Over ls ln) (counted ln n ls)
counted_refusal ls ln n = weaker (λ m l o x.
    let z = x.2 in
    omega (arith, ap length z.lines, length-append z.front (z.line ∷ z.later), z.place)) (counted_only ls ln n)

-- 1, or the 25th.
pub counted_lines_refusal : (most : ℕ) (t : List ℕ) → Refusal (λ n l o. NumberFrom 1 n × (n ≢ 1 → n ≡ 5)) (counted_lines most t)
counted_lines_refusal most t =
    rw (counted_lines_steps most t)
    (test_refusal _ _ _ _ _ (omega arith, λ h. absurd (h refl)) (bind_refusal _ _ (weaker (λ n l o x. (omega (arith, x.0), λ h. absurd (h x.0))) (lines_bad 1 t)) (λ ls els.
    bind_refusal _ _ (weaker (λ n l o x. (omega arith, λ h. x.0)) (counted_refusal ls 1 _)) (λ u eu. given))))

-- ---- the blocks
pub row_at_refusal : (ln k p : ℕ) (l : List ℕ) → Refusal (OfRow 2 ln) (row_at ln k p l)
unfolding row_at
row_at_refusal ln k p l =
    bind_refusal _ _ (weaker (λ n l o x. omega arith) (header_refusal ln 0 l)) (λ h eh. test_refusal _ _ _ _ _ (omega arith) (test_refusal _ _ _ _ _ (omega arith) (weaker (λ n l o x. omega arith) (row_refusal ln p h))))

pub only_refusal : (ls : List (List ℕ)) (ln : ℕ) → Refusal (InLines ls ln) (only_conditions ln ls)
unfolding only_conditions
only_refusal [] ln = given
only_refusal (l ∷ ls) ln = go (only_refusal ls (ln + 1)) (is_condition l) refl
  where
    go : Refusal (InLines ls (ln + 1)) (only_conditions (ln + 1) ls) → (c : Bool) → is_condition l ≡ c → Refusal (InLines (l ∷ ls) ln) (only_conditions ln (l ∷ ls))
    go H true p = rw (only_a3 l ls ln p) (weaker (λ n l o x. omega arith) H)
    go H false p = rw (only_other l ls ln p) (weaker (λ n l o x. omega arith) (closed_refusal ln (l ∷ ls)))

pub behind_refusal : (ls : List (List ℕ)) (ln k p : ℕ) → Refusal (Left ls ln) (behind_ship ls ln k p)
unfolding behind_ship
behind_refusal [] ln k p = plain (omega arith)
behind_refusal (l ∷ ls) ln k p = go (λ k p. behind_refusal ls (ln + 1) k p) (is_condition l && leb fewest_rows k) refl
  where
    go : ((k p : ℕ) → Refusal (Left ls (ln + 1)) (behind_ship ls (ln + 1) k p)) → (c : Bool) → (is_condition l && leb fewest_rows k) ≡ c → Refusal (Left (l ∷ ls) ln) (behind_ship (l ∷ ls) ln k p)
    go H true q = rw (behind_a3 l ls ln k p q) (bind_refusal _ _ (weaker (λ n l o x. omega arith) (only_refusal ls (ln + 1))) (λ u eu. given))
    go H false q =
        rw (behind_row l ls ln k p q) (bind_refusal _ _ (weaker (λ n l o x. omega arith) (row_at_refusal ln k p l)) (λ v ev. bind_refusal _ _ (weaker (λ n l o x. omega arith) (H _ _)) (λ x ex. given)))

pub book_frames_refusal : (ls : List (List ℕ)) → Refusal (Left ls 1) (book_frames ls)
unfolding book_frames
book_frames_refusal [] = plain (omega arith)
book_frames_refusal (l ∷ ls) =
    bind_refusal _ _ (weaker (λ n l o x. omega arith) (ship_frame_refusal 1 l)) (λ v ev. bind_refusal _ _ (weaker (λ n l o x. omega arith) (behind_refusal ls 2 0 0)) (λ x ex. given))

pub read_whole_refusal : (most : ℕ) (t : List ℕ) → Refusal (λ n l o. Unread n) (read_whole most t)
unfolding read_whole
read_whole_refusal most t = bind_refusal _ _ (weaker (λ n l o x. omega (arith, x.0)) (counted_lines_refusal most t)) (λ ls els. weaker (λ n l o x. omega arith) (book_frames_refusal ls))

-- ---- a condition line
-- Its refusal stands in it, and before the end of the longest condition.
pub condition_at_refusal : (ln : ℕ) (l : List ℕ) → Refusal (Between ln 0 (min (max 1 (length l)) (3 + most_bytes))) (condition_at ln l)
unfolding condition_at condition_in
condition_at_refusal ln l =
    bind_refusal _ _ (weaker (λ n l o x. omega arith) (header_refusal ln 0 l)) (λ h eh.
    let q = header_splits ln 0 l h eh in
    test_refusal _ _ _ _ _ (omega arith) (test_cases _ _ _ _ _ (λ c. omega arith) (λ c.
    let m = leb-true (length h.body) most_bytes c in
    weaker (λ n l o x. (x.0, x.1, omega arith, omega arith)) (inside_refusal ln h.body))))
