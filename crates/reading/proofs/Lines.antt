-- Lines one after the other: what is left of a text, from a state on, comes to what the rules read of the whole.
use mathlib.Core.Path.{◌≡◌, refl, ap, sym, subst, ◌∙◌}
use mathlib.Core.List.{List, [], ◌∷◌}
use Prim.Native.Nat.{ℕ, ◌+◌, ◌*◌, ◌^◌, ◌≤◌, ◌<◌, min}
use native.Mathlib.Omega.{arith}
use lib.ListN.{length, take, drop, length-drop}
use borrow.Author.Tests.{le-leb, lt-leb}
use Rattle.std.specs.Prelude.{None, Some, Ok, Err}
use Rattle.rules.specs.Layout.{most_rows, most_conditions}
use Rattle.rules.specs.Outcome.{Ans, refused, got, ◌>>=◌}
use Rattle.rules.specs.Walk.{lines_from}
use Rattle.rules.specs.Booklet.{counted, counted_lines}
use Rattle.rules.specs.Parts.{part}
use Rattle.rules.proofs.layout.Parts.{part_end}
use Rattle.rules.proofs.walk.Outcome.{bind_got, bind_refused, test_got, test_refused}
use Rattle.rules.proofs.booklet.Counted.{counted_lines_steps}
use Rattle.book.specs.Book.{refusal}
use Rattle.book.specs.declared.Row.{Row}
use Rattle.text.specs.Line.{decoded, over, LineRead, line_of, Leads, LineIs}
use Rattle.text.proofs.Decoded.{over_length}
use Rattle.text.proofs.Laws.{line_is, lines_none}
use Rattle.frames.specs.Sizes.{row_bytes}
use Rattle.reading.specs.TextAnswers.{refused_read, told}
use Rattle.reading.specs.Fronts.{Fronts}
use Rattle.reading.specs.Held.{OfLine}
use Rattle.reading.specs.Moved.{moved, kept, tallied, finished}
use Rattle.reading.specs.declared.held.Held.{Held}
use Rattle.reading.specs.declared.state.State.{State}
use Rattle.reading.specs.declared.state.State.TheVariants.{Awaited}
use Rattle.reading.specs.declared.state.Moved.{Moved}
use Rattle.reading.specs.declared.state.Tally.{Tally}
use Rattle.reading.specs.declared.TextRead.{TextRead}
use Rattle.reading.proofs.Fronts.{front_held}
use Rattle.reading.proofs.Frames.{moved_room}
use Rattle.reading.proofs.Tallies.{runs, no_tally, runs_told, tally_below}

-- 1 goes before all that the lines come to.
abbrev through : (List (List ℕ) → TextRead) → Ans (List (List ℕ)) → TextRead
through k (refused n l o) = refused_read (refusal n l o) 0
through k (got ls) = k ls

-- From a state and a tally on, through the characters that are left.
unfoldable pub onward : State → List Row → ℕ → Tally → List ℕ → TextRead
onward s t ln y x = through (runs s t ln y) (lines_from ln x)

-- ---- the whole text
module _ (most : ℕ) (x : List ℕ) where
  pub read_long : most < length x → told (counted_lines most x) ≡ refused_read (refusal 1 0 0) 0
  read_long h = ap told (counted_lines_steps most x ∙ test_refused _ _ _ _ (lt-leb (length x) most h))

  pub read_onward : length x ≤ most → told (counted_lines most x) ≡ onward Awaited [] 1 no_tally x
  unfolding onward
  read_onward h = ap told (counted_lines_steps most x ∙ test_got _ _ _ _ (le-leb (length x) most h)) ∙ go (lines_from 1 x)
    where
      go : (m : Ans (List (List ℕ))) → told (m >>= λ ls. counted 1 most_conditions ls >>= λ u. got ls) ≡ through (runs Awaited [] 1 no_tally) m
      go (refused a b c) = ap told (bind_refused _ refl)
      go (got ls) = ap told (bind_got _ refl) ∙ sym (runs_told ls)

-- ---- one line more
module _ (s : State) (t : List Row) (ln : ℕ) (y : Tally) (x : List ℕ) where
  pub onward_end : x ≡ [] → onward s t ln y x ≡ finished s t ln y
  unfolding onward runs
  onward_end e = rw e (ap (through (runs s t ln y)) (lines_none ln))

  pub onward_not : lines_from ln x ≡ refused 1 ln 0 → onward s t ln y x ≡ refused_read (refusal 1 ln 0) 0
  unfolding onward
  onward_not e = ap (through (runs s t ln y)) e

  -- The line b, of which the LF stands before place a.
  onward_line : (a : ℕ) (b : List ℕ) → lines_from ln x ≡ (lines_from (ln + 1) (drop a x) >>= λ r. got (b ∷ r))
      → onward s t ln y x ≡ onward (moved s (length t) ln b).state (kept t (moved s (length t) ln b).row) (ln + 1) (tallied y ln b) (part a (length x) x)
  unfolding onward runs
  onward_line a b e = ap (through (runs s t ln y)) e ∙ rw (part_end x a) (go (lines_from (ln + 1) (drop a x)))
    where
      go : (z : Ans (List (List ℕ))) → through (runs s t ln y) (z >>= λ r. got (b ∷ r)) ≡ through (runs (moved s (length t) ln b).state (kept t (moved s (length t) ln b).row) (ln + 1) (tallied y ln b)) z
      go (refused n l o) = ap (through _) (bind_refused _ refl)
      go (got ls) = ap (through _) (bind_got _ refl)

-- ---- how far the lines are read
-- What is left of the text, from the state, the rows and the tally that its lines so far have come to, comes to what the whole comes to.
pub record Reached (most : ℕ) (text : List ℕ) (s : State) (rows : List Row) (line : ℕ) (tally : Tally) (rest : List ℕ) : Type 0 where
  pub room : length text < 2 ^ 63
  pub within : length rest + line ≤ length text + 1
  pub begun : 1 ≤ line
  pub counted : tally.conditions < line
  pub comes : told (counted_lines most text) ≡ onward s rows line tally rest

pub reached_none : (most : ℕ) (text : List ℕ) → length text < 2 ^ 63 → length text ≤ most → Reached most text Awaited [] 1 no_tally text
reached_none most text l h = record { room = l; within = omega arith; begun = omega arith; counted = omega arith; comes = read_onward most text h }

module _ {most : ℕ} {text rest : List ℕ} {s : State} {rows : List Row} {line : ℕ} {tally : Tally} (R : Reached most text s rows line tally rest) (r : LineRead) (e : r ≡ line_of rest) where
  here : (bytes : List ℕ) → LineIs rest (over (decoded rest) bytes) r
  here bytes = line_is rest bytes (over (decoded rest) bytes) r (e, refl)

  -- No line stands here, or none is left.
  pub reached_not : {x : _} → r ≡ Err x → refused_read (refusal 1 line 0) 0 ≡ told (counted_lines most text)
  reached_not q = sym (R.comes ∙ onward_not s rows line tally rest (subst (LineIs rest _) q (here []) line))

  pub reached_end : r ≡ Ok None → finished s rows line tally ≡ told (counted_lines most text)
  reached_end q = sym (R.comes ∙ onward_end s rows line tally rest (subst (LineIs rest _) q (here [])))

  -- A line of n bytes lies in what is left.
  pub line_within : (n : ℕ) → r ≡ Ok (Some n) → 2 * n + 1 ≤ length rest
  line_within n q = let l : Leads rest (over (decoded rest) []) n = subst (LineIs rest _) q (here []) in omega (arith, l.within)

  module _ (n : ℕ) (q : r ≡ Ok (Some n)) (bytes out : List ℕ) (f : out ≡ over (decoded rest) bytes) where
    line_here : Leads rest out n
    line_here = rw f (subst (LineIs rest (over (decoded rest) bytes)) q (here bytes))

    module _ (h : Held) (b : length bytes ≡ row_bytes) (front : h.front.now ≡ take (min n row_bytes) out) (long : h.n ≡ n) (number : h.line ≡ line) where
      front_here : Fronts h.front.now h.n line_here.line
      front_here =
          let l = ap length f ∙ over_length (decoded rest) bytes in
          rw (front, long) (front_held line_here.line out n line_here.long (line_here.held (min n row_bytes) (omega arith) (omega arith)))

      module _ (m : Moved) {k : ℕ} (p : OfLine h (λ line l. m ≡ moved s k line l)) (c : k ≡ length rows) where
        moved_here : m ≡ moved s (length rows) line line_here.line
        moved_here = rw (← c) (p line_here.line front_here ∙ ap (λ n. moved s k n line_here.line) number)

        -- There is room for the row that it tells.
        pub room_here : (v : Row) → m.row ≡ Some v → length rows < most_rows
        room_here v e = moved_room s (length rows) line line_here.line v (ap (λ m. m.row) (sym moved_here) ∙ e)

        pub reached_more : (t : Tally) → OfLine h (λ line l. t ≡ tallied tally line l) → (rows' : List Row) → rows' ≡ kept rows m.row → Reached most text m.state rows' (line + 1) t (part (2 * n + 1) (length rest) rest)
        reached_more t y rows' g =
            let tallies : t ≡ tallied tally line line_here.line = y line_here.line front_here ∙ ap (λ n. tallied tally n line_here.line) number in
            let below = tally_below tally line line_here.line R.counted in
            record {
              room = R.room;
              within = omega (arith, R.within, line_here.within, ap length (part_end rest (2 * n + 1)), length-drop (2 * n + 1) rest);
              begun = omega arith;
              counted = rw tallies below;
              comes = R.comes ∙ rw (g, moved_here, tallies) (onward_line s rows line tally rest (2 * n + 1) line_here.line (line_here.lines line));
            }
