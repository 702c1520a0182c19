-- A text of which no line but the last begins with A3 is read as `read` has it and answered as `answered` says, refused or not.
use mathlib.Core.Path.{◌≡◌, refl, ap, sym, ◌∙◌}
use mathlib.Core.Bool.{Bool, true, false, ◌&&◌}
use mathlib.Core.List.{List, [], ◌∷◌}
use Prim.Native.Nat.{ℕ, ◌+◌, ◌≤◌}
use native.Mathlib.Omega.{arith}
use lib.Dec.{leb}
use lib.ListN.{length, get_or}
use borrow.Author.Tests.{leb-true, eqb-true}
use Rattle.rules.specs.Blocks.{block, spell_block, Ship, Row, condition_tag}
use Rattle.rules.specs.Layout.{Condition, Reading, row_frames, frames, fewest_rows, most_characters, is_condition, condition_lines, Booklet}
use Rattle.rules.specs.Outcome.{Ans, refused, got, ◌>>=◌}
use Rattle.rules.specs.Walk.{lines_from, closed, Tail, after, tail, read_frames, read}
use Rattle.rules.specs.Met.{behind_rows, lead}
use Rattle.rules.specs.Booklet.{counted_lines, only_conditions, Behind, behind_ship, book_frames, read_whole, condition_at}
use Rattle.rules.specs.Apart.{lines_of, spell_booklet, LinesWithin, line_at, reading_at, OnlyLast, LastAlone}
use Rattle.rules.specs.Report.{report_length}
use Rattle.rules.specs.Answer.{answered, answer_of_line, answers_from, answers, room, room_for}
use Rattle.rules.proofs.layout.Fields.{both_true}
use Rattle.rules.proofs.layout.Lines.{lines_sound, lines_got}
use Rattle.rules.proofs.walk.Outcome.{bind_got, bind_refused, test_got, test_refused, bind_cong, bind_bind, bind_chain}
use Rattle.rules.proofs.walk.WholeText.{read_steps, read_lines, lines_of_reading}
use Rattle.rules.proofs.answer.Steps.{answered_refused, answered_read}
use Rattle.rules.proofs.booklet.Counted.{lines_a3, lines_other, behind_a3, behind_row, counted_lines_steps, lines_lead}
use Rattle.rules.proofs.booklet.Frames.{Framed, framed, frames_got, Lines-booklet}
use Rattle.rules.proofs.booklet.WholeText.{counted_lines_sound, read_blocks, sound}
use Rattle.rules.proofs.booklet.Conditions.{answer_steps}
use Rattle.rules.proofs.booklet.Room.{room_counted}
use Rattle.rules.proofs.booklet.AsFrames.{frame_due, frame_condition}

-- ---- the lines
-- What is behind the ship, by its one condition line: the first stands behind the rows, which begin in line ln.
abbrev tail_of : ℕ → Behind → Ans Tail
tail_of ln x = condition_at (ln + length x.rows) (get_or x.conditions 0 []) >>= λ c. got (record { rows = x.rows; condition = c })

abbrev reading_of : Booklet → Ans Reading
reading_of b = condition_at (2 + length b.rows) (line_at b 0) >>= λ c. got (reading_at b c)

tail_one : (l : List ℕ) (ln k p : ℕ) → get_or l 0 0 ≡ condition_tag → fewest_rows ≤ k → tail (l ∷ []) ln k p ≡ (condition_at ln l >>= λ c. got (record { rows = []; condition = c }))
unfolding tail after closed
tail_one l ln k p t f = ap (◌>>= after (tail []) [] ln k) (frame_condition ln k p l t f) ∙ bind_bind _ _ _ ∙ bind_cong _ _ _ (λ c ec. bind_got _ refl)

last_a3 : (l : List ℕ) (ln k p : ℕ) → (is_condition l && leb fewest_rows k) ≡ true → tail (l ∷ []) ln k p ≡ (behind_ship (l ∷ []) ln k p >>= tail_of ln)
unfolding only_conditions
last_a3 l ln k p q =
    let i = both_true _ _ q in
    tail_one l ln k p (eqb-true _ _ i.0) (leb-true fewest_rows k i.1) ∙ ap (λ n. condition_at n l >>= λ c. got (record { rows = []; condition = c })) (omega arith)
    ∙ sym (bind_got (tail_of ln) (behind_a3 l [] ln k p q ∙ bind_got _ refl))

tail_last : (ls : List (List ℕ)) (ln k p : ℕ) → OnlyLast ls → tail ls ln k p ≡ (behind_ship ls ln k p >>= tail_of ln)
unfolding OnlyLast tail after behind_ship
tail_last [] ln k p O = sym (bind_refused (tail_of ln) (ap (λ x. refused 5 x 0) (omega arith)))
tail_last (l ∷ ls) ln k p O = go (λ k p. tail_last ls (ln + 1) k p O.1) (is_condition l && leb fewest_rows k) refl
  where
    -- A row, and what is behind it.
    row_behind : ((k p : ℕ) → tail ls (ln + 1) k p ≡ (behind_ship ls (ln + 1) k p >>= tail_of (ln + 1))) → (v : Row)
        → (tail ls (ln + 1) (k + 1) v.mass >>= λ x. got (record { rows = v ∷ x.rows; condition = x.condition }))
        ≡ ((behind_ship ls (ln + 1) (k + 1) v.mass >>= λ x. got (record { rows = v ∷ x.rows; conditions = x.conditions })) >>= tail_of ln)
    row_behind H v =
        ap (◌>>= λ x. got (record { rows = v ∷ x.rows; condition = x.condition })) (H (k + 1) v.mass) ∙ bind_chain _ _ _
        ∙ bind_cong _ _ _ (λ x ex. bind_bind _ _ _ ∙ ap (λ n. condition_at n (get_or x.conditions 0 []) >>= λ c. got (record { rows = v ∷ x.rows; condition = c })) (omega arith))
        ∙ sym (bind_bind _ _ _)

    go : ((k p : ℕ) → tail ls (ln + 1) k p ≡ (behind_ship ls (ln + 1) k p >>= tail_of (ln + 1))) → (c : Bool) → (is_condition l && leb fewest_rows k) ≡ c → tail (l ∷ ls) ln k p ≡ (behind_ship (l ∷ ls) ln k p >>= tail_of ln)
    go H true q = rw (O.0 (eqb-true _ _ (both_true _ _ q).0)) (last_a3 l ln k p q)
    go H false q =
        ap (◌>>= after (tail ls) ls ln k) (frame_due ln k p l q) ∙ bind_bind _ _ _ ∙ bind_cong _ _ _ (λ v ev. row_behind H v)
        ∙ sym (ap (◌>>= tail_of ln) (behind_row l ls ln k p q) ∙ bind_chain _ _ _)

frames_last : (ls : List (List ℕ)) → OnlyLast ls → read_frames ls ≡ (book_frames ls >>= reading_of)
unfolding OnlyLast read_frames book_frames
frames_last [] O = sym (bind_refused reading_of refl)
frames_last (l ∷ ls) O =
    bind_cong _ _ _ (λ v ev.
    ap (◌>>= λ x. got (record { ship = v; rows = x.rows; condition = x.condition })) (tail_last ls 2 0 0 O.1) ∙ bind_chain _ _ _ ∙ bind_cong _ _ _ (λ x ex. bind_bind _ _ _) ∙ sym (bind_bind _ _ _))
    ∙ sym (bind_chain _ _ _)

-- ---- a booklet of one
-- Its lines are such lines.
rows_last : (vs : List Row) (l : List ℕ) → OnlyLast (behind_rows vs (l ∷ []))
unfolding behind_rows OnlyLast spell_block block
rows_last [] l = (λ e. refl, tt)
rows_last (v ∷ vs) l = (λ e. absurd (omega arith), rows_last vs l)

one_last : (s : Ship) (vs : List Row) (cs : List (List ℕ)) → length cs ≡ 1 → OnlyLast (lead s vs cs)
unfolding OnlyLast spell_block block
one_last s vs [] h = absurd (omega arith)
one_last s vs (l ∷ []) h = (λ e. absurd (omega arith), rows_last vs l)
one_last s vs (l ∷ m ∷ cs) h = absurd (omega arith)

pub frames_of_one : (b : Booklet) → Framed b (lines_of b) → length b.conditions ≡ 1 → read_frames (lines_of b) ≡ reading_of b
frames_of_one b F one = frames_last (lines_of b) (one_last b.ship b.rows b.conditions one) ∙ bind_got reading_of (frames_got b F)

only : (cs : List (List ℕ)) → length cs ≡ 1 → cs ≡ get_or cs 0 [] ∷ []
only [] h = absurd (omega arith)
only (x ∷ []) h = refl
only (x ∷ y ∷ cs) h = absurd (omega arith)

module _ (most : ℕ) (t : List ℕ) (b : Booklet) (e : read_whole most t ≡ got b) (m : most ≤ most_characters) (one : length b.conditions ≡ 1) where
  abbrev line : List ℕ
  line = line_at b 0

  abbrev place : ℕ
  place = 2 + length b.rows

  pub reads_one : read t ≡ reading_of b
  unfolding spell_booklet
  reads_one =
      let s = sound most t b e in
      let F = framed s.0 in
      ap read (sym s.1) ∙ read_lines (lines_of b) (Lines-booklet b F) (omega (arith, s.0.long)) ∙ frames_of_one b F one

  pub of_one : answers b ≡ answered t ∷ []
  unfolding answers_from
  of_one = ap (answers_from b.ship b.rows place) (only b.conditions one) ∙ ap (◌∷ []) (go (condition_at place line) refl)
    where
      go : (a : Ans Condition) → condition_at place line ≡ a → answer_of_line b.ship b.rows place line ≡ answered t
      go (refused x y z) q = answer_steps b.ship b.rows _ line ∙ bind_refused _ q ∙ sym (answered_refused t (reads_one ∙ bind_refused _ q))
      go (got x) q = answer_steps b.ship b.rows _ line ∙ bind_got _ q ∙ sym (answered_read t _ (reads_one ∙ bind_got _ q))

-- ---- every such text
-- At most one condition line, and of what is read just one.
last_count : (ls : List (List ℕ)) → OnlyLast ls → condition_lines ls ≤ 1
unfolding OnlyLast condition_lines
last_count [] O = omega arith
last_count (l ∷ ls) O = go (last_count ls O.1) (is_condition l) refl
  where
    go : condition_lines ls ≤ 1 → (c : Bool) → is_condition l ≡ c → condition_lines (l ∷ ls) ≤ 1
    go H true q = let e = lines_a3 l ls q in let z : condition_lines ls ≡ 0 = ap condition_lines (O.0 (eqb-true _ _ q)) in omega arith
    go H false q = let e = lines_other l ls q in omega arith

module _ (t : List ℕ) (A : LastAlone t) where
  read_last : read t ≡ (read_whole most_characters t >>= reading_of)
  unfolding read_whole
  read_last = go (leb (length t) most_characters) refl
    where
      lined : leb (length t) most_characters ≡ true → (a : Ans (List (List ℕ))) → lines_from 1 t ≡ a → read t ≡ (read_whole most_characters t >>= reading_of)
      lined q (refused x y z) e =
          read_steps t ∙ test_got _ _ _ _ q ∙ bind_refused read_frames e ∙ sym (bind_refused reading_of (bind_refused book_frames (counted_lines_steps most_characters t ∙ test_got _ _ _ _ q ∙ bind_refused _ e)))
      lined q (got ls) e =
          let L = lines_sound 1 t ls e in
          let O = A ls L.1 L.0 in
          let C : LinesWithin most_characters t ls = record { spells = L.0; lines = L.1; long = leb-true _ _ q; at_most = omega (arith, last_count ls O) } in
          read_steps t ∙ test_got _ _ _ _ q ∙ bind_got read_frames e ∙ frames_last ls O ∙ sym (ap (◌>>= reading_of) (read_blocks most_characters t ls C))

      go : (c : Bool) → leb (length t) most_characters ≡ c → read t ≡ (read_whole most_characters t >>= reading_of)
      go true q = lined q (lines_from 1 t) refl
      go false q = read_steps t ∙ test_refused _ _ _ _ q ∙ sym (bind_refused reading_of (bind_refused book_frames (counted_lines_steps most_characters t ∙ test_refused _ _ _ _ q)))

  -- Refused for the whole, it is refused so by `answered` too.
  pub refused_last : {n l o : ℕ} → read_whole most_characters t ≡ refused n l o → answered t ≡ refused n l o
  refused_last e = answered_refused t (read_last ∙ bind_refused reading_of e)

  -- Else it is a booklet of one.
  pub one_of_last : (b : Booklet) → read_whole most_characters t ≡ got b → length b.conditions ≡ 1
  unfolding spell_booklet
  one_of_last b e =
      let s = sound most_characters t b e in
      let w = s.0 in
      omega (arith, w.some, lines_lead b.ship b.rows b.conditions w.begin, last_count (lines_of b) (A (lines_of b) (Lines-booklet b (framed w)) s.1))

  -- It asks for no more than document 01's 209 bytes.
  pub room_last : room most_characters t ≡ report_length
  room_last = room_counted most_characters t ∙ go (counted_lines most_characters t) refl
    where
      go : (a : Ans (List (List ℕ))) → counted_lines most_characters t ≡ a → room_for a ≡ report_length
      go (refused n l o) e = refl
      go (got ls) e = let C = counted_lines_sound most_characters t ls e in omega (arith, last_count ls (A ls C.lines C.spells))

-- ---- what `read` reads is such a text
frames_alone : (vs : List Row) (c : Condition) → OnlyLast (row_frames vs c)
unfolding row_frames OnlyLast spell_block block
frames_alone [] c = (λ e. refl, tt)
frames_alone (v ∷ vs) c = (λ e. absurd (omega arith), frames_alone vs c)

pub read_alone : (t : List ℕ) (r : Reading) → read t ≡ got r → LastAlone t
unfolding frames OnlyLast spell_block block
read_alone t r e ls B p =
    let q : ◌≡◌ {A = Ans (List (List ℕ))} (got (frames r)) (got ls) = sym (lines_of_reading t r e) ∙ ap (lines_from 1) (sym p) ∙ lines_got ls 1 B in
    let same : frames r ≡ ls = cc in
    rw (← same) (λ x. absurd (omega arith), frames_alone r.rows r.condition)
