-- Lines one after the other: moving a state on from line to line comes to what the rules read of ship, rows and condition lines.
use mathlib.Core.Path.{◌≡◌, refl, ap, sym, ◌∙◌}
use mathlib.Core.Bool.{Bool, true, false, cond, ◌&&◌}
use mathlib.Core.List.{List, [], ◌∷◌, ◌++◌, map, append_assoc, append-nil, map-append}
use Prim.Native.Nat.{ℕ, ◌+◌, ◌<◌}
use native.Mathlib.Omega.{arith}
use lib.Dec.{leb}
use lib.ListN.{length, length-append, length-map}
use borrow.Author.Tests.{ltb-true}
use Rattle.std.specs.Prelude.{Option, None, Some}
use Rattle.rules.specs.Blocks as rules
use Rattle.rules.specs.Layout.{fewest_rows, most_rows, is_condition, Booklet}
use Rattle.rules.specs.Outcome.{Ans, refused, got, ◌>>=◌}
use Rattle.rules.specs.Walk as walk
use Rattle.rules.specs.Walk.{header, ship_frame, closed}
use Rattle.rules.specs.Booklet.{row_at, only_conditions, Behind, behind_ship, book_frames}
use Rattle.rules.proofs.walk.Outcome.{bind_inv, test_inv, bind_got, bind_refused}
use Rattle.rules.proofs.booklet.Counted.{only_a3, only_other, behind_a3, behind_row}
use Rattle.book.specs.Book.{refusal, answered, plain_ship, plain_row}
use Rattle.book.specs.declared.Ship.{Ship}
use Rattle.book.specs.declared.Row.{Row}
use Rattle.book.specs.declared.Refusal.{Refusal}
use Rattle.reading.specs.TextAnswers.{refused_read, whole_read, book_read}
use Rattle.reading.specs.Fronts.{misplaced}
use Rattle.reading.specs.Moved.{rowless, after_ship, after_row, moved_rows, moved_conditions, moved, kept, ended}
use Rattle.reading.specs.declared.state.State.{State}
use Rattle.reading.specs.declared.state.State.TheVariants.{Awaited, Rows, Conditions, Refused}
use Rattle.reading.specs.declared.state.Moved.{Moved}
use Rattle.reading.specs.declared.TextRead.{TextRead}

-- From a state on, through the lines that are left, in a text of n condition lines.
unfoldable pub run : State → List Row → ℕ → ℕ → List (List ℕ) → TextRead
run s t ln n [] = ended s t ln n
run s t ln n (l ∷ ls) = let m : Moved = moved s (length t) ln l in run m.state (kept t m.row) (ln + 1) n ls

module _ (n : ℕ) where
  -- ---- the first fault ends the reading
  run_refused : (r : Refusal) (t : List Row) (ls : List (List ℕ)) (ln : ℕ) → run (Refused r) t ln n ls ≡ refused_read r n
  unfolding run moved
  run_refused r t [] ln = refl
  run_refused r t (l ∷ ls) ln = run_refused r t ls (ln + 1)

  -- ---- behind a condition line
  abbrev ending : Ship → List Row → Ans (Unit {0}) → TextRead
  ending s t (refused a b c) = refused_read (refusal a b c) n
  ending s t (got u) = whole_read s t n

  run_misplaced : (s : Ship) (t : List Row) (l : List ℕ) (ls : List (List ℕ)) (ln : ℕ) → run (Refused (misplaced ln (header ln 0 l))) t (ln + 1) n ls ≡ ending s t (closed ln (l ∷ ls))
  unfolding closed
  run_misplaced s t l ls ln = go (header ln 0 l)
    where
      go : (m : Ans walk.Head) → run (Refused (misplaced ln m)) t (ln + 1) n ls ≡ ending s t (m >>= λ h. refused 4 ln 0)
      go (refused a b c) = run_refused _ t ls (ln + 1) ∙ sym (ap (ending s t) (bind_refused _ refl))
      go (got h) = run_refused _ t ls (ln + 1) ∙ sym (ap (ending s t) (bind_got _ refl))

  run_conditions : (s : Ship) (t : List Row) (ls : List (List ℕ)) (ln : ℕ) → run (Conditions s) t ln n ls ≡ ending s t (only_conditions ln ls)
  unfolding run moved only_conditions
  run_conditions s t [] ln = refl
  run_conditions s t (l ∷ ls) ln = go (run_conditions s t ls (ln + 1)) (is_condition l) refl
    where
      go : run (Conditions s) t (ln + 1) n ls ≡ ending s t (only_conditions (ln + 1) ls) → (c : Bool) → is_condition l ≡ c → run (moved_conditions s ln l) t (ln + 1) n ls ≡ ending s t (only_conditions ln (l ∷ ls))
      go H true p = ap (λ (c : Bool). run (cond c (Conditions s) (Refused (misplaced ln (header ln 0 l)))) t (ln + 1) n ls) p ∙ H ∙ ap (ending s t) (sym (only_a3 l ls ln p))
      go H false p =
          ap (λ (c : Bool). run (cond c (Conditions s) (Refused (misplaced ln (header ln 0 l)))) t (ln + 1) n ls) p ∙ run_misplaced s t l ls ln ∙ ap (ending s t) (sym (only_other l ls ln p))

  -- ---- among the rows
  -- The rows vs, and then the rest.
  abbrev joined : rules.Ship → List rules.Row → Ans Behind → Ans Booklet
  joined s vs m = m >>= λ x. got (record { ship = s; rows = vs ++ x.rows; conditions = x.conditions })

  joined_row : (s : rules.Ship) (vs : List rules.Row) (v : rules.Row) (m : Ans Behind)
      → book_read n (joined s (vs ++ (v ∷ [])) m) ≡ book_read n (joined s vs (m >>= λ x. got (record { rows = v ∷ x.rows; conditions = x.conditions })))
  unfolding ◌>>=◌
  joined_row s vs v (refused a b c) = refl
  joined_row s vs v (got x) = ap (λ r. book_read n (got (record { ship = s; rows = r; conditions = x.conditions }))) (append_assoc vs (v ∷ []) x.rows)

  joined_conditions : (s : rules.Ship) (vs : List rules.Row) (cs : List (List ℕ)) (m : Ans (Unit {0}))
      → ending (plain_ship s) (map plain_row vs) m ≡ book_read n (joined s vs (m >>= λ u. got (record { rows = []; conditions = cs })))
  unfolding ◌>>=◌
  joined_conditions s vs cs (refused a b c) = refl
  joined_conditions s vs cs (got u) = ap (λ r. book_read n (got (record { ship = s; rows = r; conditions = cs }))) (sym (append-nil vs))

none : {X : Type 0} {r : Row} → ◌≡◌ {A = Option Row} None (Some r) → X
none e = absurd (let z : ◌≡◌ {A = ℕ} 0 1 = cc in omega arith)

-- A row is read only where there is room for it.
row_room : (ln k p : ℕ) (l : List ℕ) (v : rules.Row) → row_at ln k p l ≡ got v → k < most_rows
unfolding row_at
row_room ln k p l v e =
    let h = bind_inv _ _ e in
    let a = test_inv _ 4 ln 0 _ h.2 in
    ltb-true k most_rows (test_inv _ 4 ln 0 _ a.1).0

-- Behind a line that has moved the state on.
abbrev next : ℕ → ℕ → List Row → List (List ℕ) → Moved → TextRead
next n ln t ls m = run m.state (kept t m.row) (ln + 1) n ls

module _ (n : ℕ) (s : rules.Ship) where
  abbrev RunRows : List (List ℕ) → ℕ → Type 0
  RunRows ls ln = (vs : List rules.Row) (p : ℕ) → run (Rows (plain_ship s) p) (map plain_row vs) ln n ls ≡ book_read n (joined n s vs (behind_ship ls ln (length vs) p))

  run_row : (ls : List (List ℕ)) (ln : ℕ) → RunRows ls (ln + 1) → (vs : List rules.Row) (m : Ans rules.Row)
      → next n ln (map plain_row vs) ls (after_row (plain_ship s) (answered plain_row m))
      ≡ book_read n (joined n s vs (m >>= λ v. behind_ship ls (ln + 1) (length vs + 1) v.mass >>= λ x. got (record { rows = v ∷ x.rows; conditions = x.conditions })))
  run_row ls ln H vs (refused a b c) = run_refused n _ _ ls (ln + 1) ∙ sym (ap (book_read n) (bind_refused _ (bind_refused _ refl)))
  run_row ls ln H vs (got v) =
      ap (λ t. run (Rows (plain_ship s) v.mass) t (ln + 1) n ls) (sym (map-append plain_row vs (v ∷ [])))
      ∙ H (vs ++ (v ∷ [])) v.mass
      ∙ ap (λ k. book_read n (joined n s (vs ++ (v ∷ [])) (behind_ship ls (ln + 1) k v.mass))) (length-append vs (v ∷ []))
      ∙ joined_row n s vs v (behind_ship ls (ln + 1) (length vs + 1) v.mass)
      ∙ sym (ap (λ m. book_read n (joined n s vs m)) (bind_got _ refl))

  run_rows : (ls : List (List ℕ)) (ln : ℕ) → RunRows ls ln
  unfolding run moved behind_ship
  run_rows [] ln vs p = sym (ap (book_read n) (bind_refused _ refl))
  run_rows (l ∷ ls) ln vs p =
      ap (λ k. next n ln (map plain_row vs) ls (moved_rows (plain_ship s) p k ln l)) (length-map vs plain_row)
      ∙ go (run_rows ls (ln + 1)) (is_condition l && leb fewest_rows (length vs)) refl
    where
      go : RunRows ls (ln + 1) → (c : Bool) → (is_condition l && leb fewest_rows (length vs)) ≡ c
          → next n ln (map plain_row vs) ls (moved_rows (plain_ship s) p (length vs) ln l) ≡ book_read n (joined n s vs (behind_ship (l ∷ ls) ln (length vs) p))
      go H true q =
          ap (λ (c : Bool). next n ln (map plain_row vs) ls (cond c (rowless (Conditions (plain_ship s))) (after_row (plain_ship s) (answered plain_row (row_at ln (length vs) p l))))) q
          ∙ run_conditions n (plain_ship s) (map plain_row vs) ls (ln + 1)
          ∙ joined_conditions n s vs (l ∷ ls) (only_conditions (ln + 1) ls)
          ∙ ap (λ m. book_read n (joined n s vs m)) (sym (behind_a3 l ls ln (length vs) p q))
      go H false q =
          ap (λ (c : Bool). next n ln (map plain_row vs) ls (cond c (rowless (Conditions (plain_ship s))) (after_row (plain_ship s) (answered plain_row (row_at ln (length vs) p l))))) q
          ∙ run_row ls ln H vs (row_at ln (length vs) p l)
          ∙ ap (λ m. book_read n (joined n s vs m)) (sym (behind_row l ls ln (length vs) p q))

-- ---- the ship, and then the rest
pub run_frames : (n : ℕ) (ls : List (List ℕ)) → run Awaited [] 1 n ls ≡ book_read n (book_frames ls)
unfolding run moved book_frames
run_frames n [] = refl
run_frames n (l ∷ ls) = go (ship_frame 1 l)
  where
    go : (m : Ans rules.Ship) → run (after_ship (answered plain_ship m)) [] 2 n ls ≡ book_read n (m >>= λ v. behind_ship ls 2 0 0 >>= λ x. got (record { ship = v; rows = x.rows; conditions = x.conditions }))
    go (refused a b c) = run_refused n _ _ ls 2 ∙ sym (ap (book_read n) (bind_refused _ refl))
    go (got v) = run_rows n v ls 2 [] 0 ∙ sym (ap (book_read n) (bind_got _ refl))

-- A row is told only where there is room for it.
pub moved_room : (s : State) (k ln : ℕ) (l : List ℕ) (r : Row) → (moved s k ln l).row ≡ Some r → k < most_rows
unfolding moved
moved_room Awaited k ln l r e = none e
moved_room (Rows s p) k ln l r e = go (is_condition l && leb fewest_rows k) e
  where
    row : (m : Ans rules.Row) → row_at ln k p l ≡ m → (after_row s (answered plain_row m)).row ≡ Some r → k < most_rows
    row (refused a b c) f e = none e
    row (got v) f e = row_room ln k p l v f

    go : (c : Bool) → (cond c (rowless (Conditions s)) (after_row s (answered plain_row (row_at ln k p l)))).row ≡ Some r → k < most_rows
    go true e = none e
    go false e = row (row_at ln k p l) refl e
moved_room (Conditions s) k ln l r e = none e
moved_room (Refused r') k ln l r e = none e
