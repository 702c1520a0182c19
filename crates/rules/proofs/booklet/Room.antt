-- 9 exactly when the buffer is shorter than the room that is asked for; with room the text is answered as it is read.
use mathlib.Core.Path.{◌≡◌, refl, ap, sym, ◌∙◌}
use mathlib.Core.Logic.{◌↔◌}
use mathlib.Core.Bool.{Bool, true, false}
use mathlib.Core.List.{List, [], ◌∷◌, ◌++◌, map}
use Prim.Native.Nat.{ℕ, ◌+◌, ◌*◌, max, ◌≤◌, ◌<◌}
use native.Mathlib.Omega.{arith}
use lib.Dec.{ltb, eqb}
use lib.ListN.{length, drop}
use borrow.Author.Tests.{ltb-true, ltb-false}
use Rattle.rules.specs.Blocks.{Ship, Row}
use Rattle.rules.specs.Layout.{most_conditions, condition_lines, Booklet}
use Rattle.rules.specs.Outcome.{Ans, refused, got, ◌>>=◌}
use Rattle.rules.specs.Report.{Judgement, concat, report_length}
use Rattle.rules.specs.Booklet.{counted_lines, book_frames, read_whole}
use Rattle.rules.specs.Apart.{LinesWithin}
use Rattle.rules.specs.Answer.{report_of, answer_of_line, answers_from, answers, taken, first_number, number, room, room_for}
use Rattle.rules.proofs.walk.Outcome.{bind_inv, bind_got, bind_refused}
use Rattle.rules.proofs.booklet.Counted.{lines_lead}
use Rattle.rules.proofs.booklet.Frames.{frames_sound}
use Rattle.rules.proofs.booklet.Refusals.{read_whole_refusal}
use Rattle.rules.proofs.booklet.WholeText.{counted_lines_sound, counted_lines_got}
use Rattle.rules.proofs.booklet.Conditions.{answer_refusal}
use Rattle.rules.proofs.booklet.Sent.{Gives, gives_refusal, gives_reports, past_one, past_all, under_one, under_all}

-- ---- how much is asked for
pub room_counted : (most : ℕ) (t : List ℕ) → room most t ≡ room_for (counted_lines most t)
unfolding room
room_counted most t = refl

-- At least one report's length and at most that of 24.
pub room_bounds : (most : ℕ) (t : List ℕ) → (report_length ≤ room most t) × (room most t ≤ report_length * most_conditions)
room_bounds most t = rw (room_counted most t) (go (counted_lines most t) refl)
  where
    go : (a : Ans (List (List ℕ))) → counted_lines most t ≡ a → (report_length ≤ room_for a) × (room_for a ≤ report_length * most_conditions)
    go (refused n l o) e = omega arith
    go (got ls) e = omega (arith, (counted_lines_sound most t ls e).at_most)

-- A booklet asks for 209 bytes for each of its conditions.
pub room_read : (most : ℕ) (t : List ℕ) (b : Booklet) → read_whole most t ≡ got b → room most t ≡ report_length * length b.conditions
unfolding read_whole
room_read most t b e =
    let a = bind_inv _ _ e in
    let F = frames_sound a.0 b (counted_lines_sound most t a.0 a.1).lines a.2 in
    let n : condition_lines a.0 ≡ length b.conditions = sym (ap condition_lines F.spells) ∙ lines_lead b.ship b.rows b.conditions F.begin in
    let r = room_counted most t ∙ ap room_for a.1 in
    let z = F.some in
    omega arith

-- Lines within the limit, of which at most 24 begin with A3, ask for 209 bytes for each of these, and for 209 where there is none; every other text for 209.
pub room_lines : (most : ℕ) (t : List ℕ) → ((ls : List (List ℕ)) → LinesWithin most t ls → room most t ≡ max report_length (report_length * condition_lines ls)) × (((ls : List (List ℕ)) → ¬ LinesWithin most t ls) → room most t ≡ report_length)
room_lines most t = (λ ls C. room_counted most t ∙ ap room_for (counted_lines_got most t ls C), λ none. room_counted most t ∙ go none (counted_lines most t) refl)
  where
    go : ((ls : List (List ℕ)) → ¬ LinesWithin most t ls) → (a : Ans (List (List ℕ))) → counted_lines most t ≡ a → room_for (counted_lines most t) ≡ report_length
    go none (refused n l o) e = ap room_for e
    go none (got ls) e = absurd (none ls (counted_lines_sound most t ls e))

module _ (most : ℕ) (t buffer : List ℕ) where
  -- ---- with room
  module _ (h : room most t ≤ length buffer) where
    room_got : (ls : List (List ℕ)) → counted_lines most t ≡ got ls → (report_length ≤ length buffer) × (report_length * condition_lines ls ≤ length buffer)
    room_got ls e = let r = room_counted most t ∙ ap room_for e in omega arith

    pub with_room : taken most (length buffer) t ≡ read_whole most t
    unfolding read_whole
    with_room = go (counted_lines most t) refl
      where
        go : (a : Ans (List (List ℕ))) → counted_lines most t ≡ a → taken most (length buffer) t ≡ (counted_lines most t >>= book_frames)
        go (refused n l o) e = past_one most t buffer (omega (arith, (room_bounds most t).0)) ∙ bind_refused _ e ∙ sym (bind_refused book_frames e)
        go (got ls) e = let g = room_got ls e in past_all most t buffer g.0 ls e g.1 ∙ sym (bind_got book_frames e)

    pub whole_refused : {n l o : ℕ} → read_whole most t ≡ refused n l o → Gives most t buffer n report_length (report_of (refused n l o) ++ drop report_length buffer)
    whole_refused e = gives_refusal most t buffer ((read_whole_refusal most t).holds _ _ _ e).4 (with_room ∙ e)

    pub whole_got : (b : Booklet) → read_whole most t ≡ got b
        → Gives most t buffer (first_number (answers b)) (report_length * length b.conditions) (concat (map report_of (answers b)) ++ drop (report_length * length b.conditions) buffer)
    whole_got b e = gives_reports most t buffer b (with_room ∙ e)

  -- ---- without
  pub without_room : length buffer < room most t → Gives most t buffer 9 0 buffer
  without_room h = go (ltb (length buffer) report_length) refl
    where
      more : report_length ≤ length buffer → (a : Ans (List (List ℕ))) → counted_lines most t ≡ a → Gives most t buffer 9 0 buffer
      more g (refused x y z) e = absurd (let r = room_counted most t ∙ ap room_for e in omega arith)
      more g (got ls) e = let r = room_counted most t ∙ ap room_for e in under_all most t buffer g ls e (omega arith)

      go : (c : Bool) → ltb (length buffer) report_length ≡ c → Gives most t buffer 9 0 buffer
      go true p = under_one most t buffer (ltb-true _ _ p)
      go false p = more (ltb-false _ _ p) (counted_lines most t) refl

-- ---- the number
-- A condition's number is 0 or one of 2 to 8.
pub first_number_lem : (s : Ship) (vs : List Row) (cs : List (List ℕ)) (ln : ℕ) → first_number (answers_from s vs ln cs) ≤ 8
unfolding answers_from first_number
first_number_lem s vs [] ln = omega arith
first_number_lem s vs (l ∷ ls) ln = go _ (answer_of_line s vs ln l) refl (λ k. first_number_lem s vs ls k)
  where
    by : (n m : ℕ) (b : Bool) → n ≤ 8 → m ≤ 8 → elim b [ true ↦ m | false ↦ n ] ≤ 8
    by n m true p q = q
    by n m false p q = p

    go : (k : ℕ) (a : Ans Judgement) → answer_of_line s vs ln l ≡ a → ((k : ℕ) → first_number (answers_from s vs k ls) ≤ 8) → first_number (a ∷ answers_from s vs k ls) ≤ 8
    go k (refused n m o) e q = by n _ (eqb n 0) ((answer_refusal s vs ln l).holds n m o e).1 (q k)
    go k (got j) e q = q k

-- The number is 9 exactly when the buffer is shorter than `room`.
pub nine_iff_no_room : (most : ℕ) (t buffer : List ℕ) → (number most t buffer ≡ 9) ↔ (length buffer < room most t)
nine_iff_no_room most t buffer = (λ e. go (ltb (length buffer) (room most t)) refl e, λ h. (without_room most t buffer h).numbered)
  where
    never : room most t ≤ length buffer → (a : Ans Booklet) → read_whole most t ≡ a → number most t buffer ≡ 9 → ⊥
    never h (refused n l o) e q = let p = (read_whole_refusal most t).holds n l o e in let r = (whole_refused most t buffer h e).numbered in omega arith
    never h (got b) e q = let p = first_number_lem b.ship b.rows b.conditions (2 + length b.rows) in let r = (whole_got most t buffer h b e).numbered in omega arith

    go : (c : Bool) → ltb (length buffer) (room most t) ≡ c → number most t buffer ≡ 9 → length buffer < room most t
    go true p e = ltb-true _ _ p
    go false p e = absurd (never (ltb-false _ _ p) (read_whole most t) refl e)
