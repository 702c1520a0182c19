-- Condition lines counted as they come: the 25th goes before all that the blocks come to.
use mathlib.Core.Path.{◌≡◌, refl, ap, sym, ◌∙◌}
use mathlib.Core.Bool.{Bool, true, false, cond}
use mathlib.Core.List.{List, [], ◌∷◌}
use Prim.Native.Nat.{ℕ, ◌+◌, ◌-◌, ◌≤◌, ◌<◌}
use native.Mathlib.Omega.{arith}
use lib.Dec.{eqb}
use lib.ListN.{length}
use borrow.Author.Tests.{eqb-true, eqb-false, ne_eqb, lt-ltb, le-ltb}
use Rattle.std.specs.Prelude.{None, Some}
use Rattle.rules.specs.Layout.{most_conditions, is_condition, condition_lines}
use Rattle.rules.specs.Outcome.{Ans, refused, got, ◌>>=◌}
use Rattle.rules.specs.Booklet.{counted}
use Rattle.rules.proofs.walk.Outcome.{bind_got, bind_refused, test_got, test_refused}
use Rattle.rules.proofs.booklet.Counted.{lines_a3, lines_other, counted_a3, counted_other}
use Rattle.book.specs.Book.{refusal}
use Rattle.book.specs.declared.Row.{Row}
use Rattle.reading.specs.TextAnswers.{refused_read, told}
use Rattle.reading.specs.Moved.{moved, kept, one_more, tallied, ended, finished}
use Rattle.reading.specs.declared.state.State.{State}
use Rattle.reading.specs.declared.state.State.TheVariants.{Awaited}
use Rattle.reading.specs.declared.state.Moved.{Moved}
use Rattle.reading.specs.declared.state.Tally.{Tally}
use Rattle.reading.specs.declared.TextRead.{TextRead}
use Rattle.reading.proofs.Frames.{run, run_frames}

-- From a state and a tally on, through the lines that are left.
unfoldable pub runs : State → List Row → ℕ → Tally → List (List ℕ) → TextRead
runs s t ln y [] = finished s t ln y
runs s t ln y (l ∷ ls) = let m : Moved = moved s (length t) ln l in runs m.state (kept t m.row) (ln + 1) (tallied y ln l) ls

abbrev pub no_tally : Tally
no_tally = record { conditions = 0; over = None }

-- Once the 25th has come nothing changes that.
runs_over : (ls : List (List ℕ)) (s : State) (t : List Row) (ln c o : ℕ) → most_conditions < c → runs s t ln (record { conditions = c; over = Some o }) ls ≡ refused_read (refusal 5 o 0) 0
unfolding runs
runs_over [] s t ln c o h = refl
runs_over (l ∷ ls) s t ln c o h =
    let m : Moved = moved s (length t) ln l in
    go (is_condition l) (λ c h. runs_over ls m.state (kept t m.row) (ln + 1) c o h)
  where
    go : (f : Bool) → ((c : ℕ) → most_conditions < c → (let m : Moved = moved s (length t) ln l in runs m.state (kept t m.row) (ln + 1) (record { conditions = c; over = Some o }) ls) ≡ refused_read (refusal 5 o 0) 0)
        → (let m : Moved = moved s (length t) ln l in runs m.state (kept t m.row) (ln + 1) (cond f (record { conditions = c + 1; over = cond (eqb c most_conditions) (Some ln) (Some o) }) (record { conditions = c; over = Some o })) ls) ≡ refused_read (refusal 5 o 0) 0
    go true H = rw (ne_eqb c most_conditions (λ e. omega arith)) (H (c + 1) (omega arith))
    go false H = H c h

-- Up to then the lines are counted, and the blocks come to what they come to.
abbrev picked : (ℕ → TextRead) → ℕ → Ans (Unit {0}) → TextRead
picked k n (refused a b c) = refused_read (refusal a b c) 0
picked k n (got u) = k n

-- Behind a line, with a tally; and the blocks alone.
abbrev next : State → List Row → ℕ → List ℕ → List (List ℕ) → Tally → TextRead
next s t ln l ls y = let m : Moved = moved s (length t) ln l in runs m.state (kept t m.row) (ln + 1) y ls

abbrev blocks : State → List Row → ℕ → List ℕ → List (List ℕ) → ℕ → TextRead
blocks s t ln l ls n = let m : Moved = moved s (length t) ln l in run m.state (kept t m.row) (ln + 1) n ls

runs_counted : (ls : List (List ℕ)) (s : State) (t : List Row) (ln c : ℕ) → c ≤ most_conditions
    → runs s t ln (record { conditions = c; over = None }) ls ≡ picked (λ n. run s t ln n ls) (c + condition_lines ls) (counted ln (most_conditions - c) ls)
unfolding runs run counted condition_lines
runs_counted [] s t ln c k = ap (λ n. ended s t ln n) (omega arith)
runs_counted (l ∷ ls) s t ln c k =
    let m : Moved = moved s (length t) ln l in
    go (is_condition l) refl (eqb c most_conditions) refl (λ c k. runs_counted ls m.state (kept t m.row) (ln + 1) c k)
  where
    go : (f : Bool) → is_condition l ≡ f → (x : Bool) → eqb c most_conditions ≡ x
        → ((c : ℕ) → c ≤ most_conditions → next s t ln l ls (record { conditions = c; over = None }) ≡ picked (blocks s t ln l ls) (c + condition_lines ls) (counted (ln + 1) (most_conditions - c) ls))
        → next s t ln l ls (tallied (record { conditions = c; over = None }) ln l) ≡ picked (blocks s t ln l ls) (c + condition_lines (l ∷ ls)) (counted ln (most_conditions - c) (l ∷ ls))
    go true p true q H =
        let e = eqb-true c most_conditions q in
        ap (λ (f : Bool). next s t ln l ls (cond f (record { conditions = c + 1; over = cond (eqb c most_conditions) (Some ln) None }) (record { conditions = c; over = None }))) p
        ∙ ap (λ (x : Bool). next s t ln l ls (record { conditions = c + 1; over = cond x (Some ln) None })) q
        ∙ runs_over ls _ _ (ln + 1) (c + 1) ln (omega arith)
        ∙ sym (ap (picked (blocks s t ln l ls) (c + condition_lines (l ∷ ls))) (counted_a3 l ls ln (most_conditions - c) p ∙ test_refused 5 ln 0 _ (le-ltb 0 (most_conditions - c) (omega arith))))
    go true p false q H =
        let e = eqb-false c most_conditions q in
        let d : most_conditions - (c + 1) ≡ most_conditions - c - 1 = omega arith in
        let n : c + 1 + condition_lines ls ≡ c + condition_lines (l ∷ ls) = omega (arith, lines_a3 l ls p) in
        ap (λ (f : Bool). next s t ln l ls (cond f (record { conditions = c + 1; over = cond (eqb c most_conditions) (Some ln) None }) (record { conditions = c; over = None }))) p
        ∙ ap (λ (x : Bool). next s t ln l ls (record { conditions = c + 1; over = cond x (Some ln) None })) q
        ∙ H (c + 1) (omega arith)
        ∙ ap (λ k. picked (blocks s t ln l ls) k (counted (ln + 1) (most_conditions - (c + 1)) ls)) n
        ∙ ap (λ k. picked (blocks s t ln l ls) (c + condition_lines (l ∷ ls)) (counted (ln + 1) k ls)) d
        ∙ sym (ap (picked (blocks s t ln l ls) (c + condition_lines (l ∷ ls))) (counted_a3 l ls ln (most_conditions - c) p ∙ test_got _ _ _ _ (lt-ltb 0 (most_conditions - c) (omega arith))))
    go false p x q H =
        ap (λ (f : Bool). next s t ln l ls (cond f (record { conditions = c + 1; over = cond (eqb c most_conditions) (Some ln) None }) (record { conditions = c; over = None }))) p
        ∙ H c k
        ∙ ap (λ n. picked (blocks s t ln l ls) n (counted (ln + 1) (most_conditions - c) ls)) (ap (c +◌) (sym (lines_other l ls p)))
        ∙ sym (ap (picked (blocks s t ln l ls) (c + condition_lines (l ∷ ls))) (counted_other l ls ln (most_conditions - c) p))

-- A whole text's lines.
pub runs_told : (ls : List (List ℕ)) → runs Awaited [] 1 no_tally ls ≡ told (counted 1 most_conditions ls >>= λ u. got ls)
runs_told ls = runs_counted ls Awaited [] 1 0 (omega arith) ∙ go (counted 1 most_conditions ls)
  where
    go : (m : Ans (Unit {0})) → picked (λ n. run Awaited [] 1 n ls) (0 + condition_lines ls) m ≡ told (m >>= λ u. got ls)
    go (refused a b c) = sym (ap told (bind_refused _ refl))
    go (got u) = let z : 0 + condition_lines ls ≡ condition_lines ls = omega arith in ap (λ n. run Awaited [] 1 n ls) z ∙ run_frames (condition_lines ls) ls ∙ sym (ap told (bind_got _ refl))

-- There are no more of them than lines.
pub tally_below : (y : Tally) (ln : ℕ) (l : List ℕ) → y.conditions < ln → (tallied y ln l).conditions < ln + 1
tally_below y ln l h = go (is_condition l)
  where
    go : (f : Bool) → (cond f (one_more y ln) y).conditions < ln + 1
    go true = omega arith
    go false = omega arith
