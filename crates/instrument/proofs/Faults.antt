-- Numbers 1, 2, 4, 5 and 10 through the report of a whole text, and 2 of a condition line: exactly where the text is no line, where a block overruns, where a line is misplaced or owed, and where a row has a typing slip.
use mathlib.Core.Path.{◌≡◌, refl, ap, sym, ◌∙◌}
use mathlib.Core.Bool.{Bool, true, false}
use mathlib.Core.List.{List}
use mathlib.Core.Logic.{◌↔◌, ◌≢◌, ◌⊎◌, inl, inr}
use Prim.Native.Nat.{ℕ, ◌+◌, ◌≤◌, ◌<◌}
use native.Mathlib.Omega.{arith}
use native.Mathlib.Decide.{dec_le}
use lib.Dec.{leb}
use lib.ListN.{length}
use Rattle.rules.specs.Blocks.{Ship, Row}
use Rattle.rules.specs.Layout.{most_characters, most_conditions}
use Rattle.rules.specs.Outcome.{Ans, refused, got, ◌>>=◌, Unread}
use Rattle.rules.specs.Walk.{lines_from, read_frames, read}
use Rattle.rules.specs.Report.{Judgement, no_judgement, report}
use Rattle.rules.specs.Booklet.{counted, book_frames, read_whole}
use Rattle.rules.specs.Apart.{AllowedWhole, line_at, line_number}
use Rattle.rules.specs.Answer.{number_of, answer_of_line, answers, answer}
use Rattle.rules.proofs.walk.Outcome.{bind_got, bind_refused, test_got, test_refused}
use Rattle.rules.proofs.walk.WholeText.{read_steps}
use Rattle.rules.proofs.walk.Refusals.{Refusal, given, weaker, bind_refusal, read_frames_refusal}
use Rattle.rules.proofs.walk.BadLine.{one_no_line, one_too_long}
use Rattle.rules.proofs.booklet.Counted.{counted_lines_steps}
use Rattle.rules.proofs.booklet.Refusals.{counted_refusal, book_frames_refusal}
use Rattle.rules.proofs.booklet.WholeText.{lines_of_refused}
use Rattle.rules.proofs.booklet.Conditions.{answer_refused, answer_refusal}
use Rattle.rules.proofs.booklet.Sent.{answers_length}
use Rattle.rules.proofs.booklet.Alone.{answer_at}
use Rattle.rules.proofs.booklet.WhereRefused.{two_whole, four_whole, five_whole, ten_whole}
use Rattle.rules.proofs.booklet.LineOverrun.{two_line}
use Rattle.instrument.specs.Faults.{NoLineAt, WholeOverrunAt, MisplacedAt, OwedAt, SlipAt, LineOverrunAt}
use Rattle.instrument.specs.Reported.{report_in, HasNumber, RefusedWhole, EachAnswered}
use Rattle.instrument.proofs.FirstNumber.{first_of}
use Rattle.instrument.proofs.LineReport.{Reports, by_line, has_refused, read_by, one_number}
use Rattle.instrument.proofs.Replies.{read_back, by_whole, Run, whole_sent, numbered_first, line_report, every}

-- ---- 1
-- A refusal is the same of whatever it is.
abbrev refusal : {A B : Type 0} → Ans A → Ans B
refusal (refused n l o) = refused n l o
refusal (got a) = refused 0 0 0

-- A booklet gets 1 as a text of one condition does: what comes behind 1 never gives it.
from_2 : (ls : List (List ℕ)) → Refusal (λ n m k. 2 ≤ n) ((counted 1 most_conditions ls >>= λ u. got ls) >>= book_frames)
from_2 ls =
    bind_refusal _ book_frames (bind_refusal _ _ (weaker (λ n m k x. omega arith) (counted_refusal ls 1 most_conditions)) (λ u eu. given)) (λ ls els. weaker (λ n m k x. omega (arith, x.0.0)) (book_frames_refusal ls))

module _ (t : List ℕ) where
  one_read : (l o : ℕ) → (read_whole most_characters t ≡ refused 1 l o) ↔ (read t ≡ refused 1 l o)
  unfolding read_whole
  one_read l o = go (leb (length t) most_characters) refl (lines_from 1 t) refl
    where
      same : {n m k : ℕ} → read_whole most_characters t ≡ refused n m k → read t ≡ refused n m k → (read_whole most_characters t ≡ refused 1 l o) ↔ (read t ≡ refused 1 l o)
      same w r = (λ e. r ∙ ap refusal (sym w ∙ e), λ e. w ∙ ap refusal (sym r ∙ e))

      go : (c : Bool) → leb (length t) most_characters ≡ c → (a : Ans (List (List ℕ))) → lines_from 1 t ≡ a → (read_whole most_characters t ≡ refused 1 l o) ↔ (read t ≡ refused 1 l o)
      go false p a e = same (bind_refused book_frames (counted_lines_steps most_characters t ∙ test_refused _ _ _ _ p)) (read_steps t ∙ test_refused _ _ _ _ p)
      go true p (refused n m k) e = same (bind_refused book_frames (counted_lines_steps most_characters t ∙ test_got _ _ _ _ p ∙ bind_refused _ e)) (read_steps t ∙ test_got _ _ _ _ p ∙ bind_refused read_frames e)
      go true p (got ls) e =
          let w = ap (◌>>= book_frames) (counted_lines_steps most_characters t ∙ test_got _ _ _ _ p ∙ bind_got _ e) in
          let r = read_steps t ∙ test_got _ _ _ _ p ∙ bind_got read_frames e in
          (λ q. absurd (let h = (from_2 ls).holds 1 l o (sym w ∙ q) in omega arith), λ q. absurd (let h = (read_frames_refusal ls).holds 1 l o (sym r ∙ q) in omega arith))

-- No condition gets it.
never_1 : (s : Ship) (vs : List Row) (ln : ℕ) (l : List ℕ) → number_of (answer_of_line s vs ln l) ≢ 1
never_1 s vs ln l e = go (answer_of_line s vs ln l) refl
  where
    go : (a : Ans Judgement) → answer_of_line s vs ln l ≡ a → ⊥
    go (refused n m o) q = let x = (answer_refusal s vs ln l).holds n m o q in omega (arith, ap number_of q)
    go (got j) q = omega (arith, ap number_of q)

module _ {t before : List ℕ} {n : ℕ} {after : List ℕ} (run : Run t before n after) where
  only_whole : AllowedWhole most_characters t → n ≢ 1
  only_whole a z =
      let b = a.0 in
      let f = numbered_first run a in
      let x = first_of (answers b) (omega arith) in
      let k : x.0 < length b.conditions = omega (arith, x.1, answers_length b.ship b.rows b.conditions (2 + length b.rows)) in
      never_1 b.ship b.rows _ _ (sym (ap number_of (answer_at b x.0 k)) ∙ x.2 ∙ sym f ∙ z)

  pub no_line_sent : ((n ≡ 1) ↔ ((l : ℕ) × NoLineAt t l)) × ((l : ℕ) → NoLineAt t l → report_in 0 after ≡ report 1 l 0 no_judgement)
  no_line_sent = (
    (λ z. by_whole (λ m l h e. let q = (whole_sent run m l 0 e).0 in let one : m ≡ 1 = omega arith in (l, found l (dec_le (length t) most_characters) ((one_read t l 0).0 (rw one at e)))) (λ a. absurd (only_whole a z)), λ x. (sent x.0 x.1).0),
    λ l v. (sent l v).1,
  )
    where
      sent : (l : ℕ) → NoLineAt t l → (n ≡ 1) × (report_in 0 after ≡ report 1 l 0 no_judgement)
      sent l (inl v) = let s = whole_sent run 1 l 0 ((one_read t l 0).1 (rw v.1 ((one_too_long t).1 (omega (arith, v.0))))) in (s.0, s.1)
      sent l (inr v) = let s = whole_sent run 1 l 0 ((one_read t l 0).1 ((one_no_line t v.0 l 0).1 (refl, v.1))) in (s.0, s.1)

      found : (l : ℕ) → Dec (length t ≤ most_characters) → read t ≡ refused 1 l 0 → NoLineAt t l
      found l (yes short) e = inr (short, ((one_no_line t short l 0).0 e).1)
      found l (no long) e = let q = (one_too_long t).1 (let k : most_characters < length t = omega arith in k) in inl (omega arith, (let u : l ≡ 0 = cc in u))

  -- ---- 2, 4, 5 and 10 for the whole
  -- A number that is met at the lines P, and at no others, is sent back and reported so.
  whole_at : (m : ℕ) (P : ℕ → Type 0) → Unread m → ((l : ℕ) → (read_whole most_characters t ≡ refused m l 0) ↔ P l)
      → (l : ℕ) → (((refusal : RefusedWhole t before n after) × (n ≡ m) × (refusal.line ≡ l)) ↔ P l) × (P l → report_in 0 after ≡ report m l 0 no_judgement)
  whole_at m P h iff l = (
    (λ x. (iff l).0 (x.0.refusal ∙ ap (λ m. refused m x.0.line 0) x.1 ∙ ap (λ l. refused m l 0) x.2), λ v. sent ((iff l).1 v)),
    λ v. (whole_sent run m l 0 ((iff l).1 v)).1,
  )
    where
      sent : read_whole most_characters t ≡ refused m l 0 → (refusal : RefusedWhole t before n after) × (n ≡ m) × (refusal.line ≡ l)
      sent e =
          let s = whole_sent run m l 0 e in
          (record { line = l; refusal = e ∙ ap (λ m. refused m l 0) (sym s.0); unread = rw s.0 h; reported = s.1 ∙ ap (λ m. report m l 0 no_judgement) (sym s.0); beyond = s.2 }, s.0, refl)

  pub whole_overrun : (l : ℕ) → (((refusal : RefusedWhole t before n after) × (n ≡ 2) × (refusal.line ≡ l)) ↔ WholeOverrunAt t l) × (WholeOverrunAt t l → report_in 0 after ≡ report 2 l 0 no_judgement)
  whole_overrun = whole_at 2 (WholeOverrunAt t) (omega arith) (λ l. (
    λ e. let f = lines_of_refused most_characters t 2 l 0 e (λ z. omega arith) (λ z. omega arith) in let m = (two_whole most_characters t f.0 f.1 l 0).0 e in (f.0, f.1, m.1, m.2, m.3),
    λ v. (two_whole most_characters t v.0 v.1 l 0).1 (refl, v.2, v.3, v.4),
  ))

  pub whole_misplaced : (l : ℕ) → (((refusal : RefusedWhole t before n after) × (n ≡ 4) × (refusal.line ≡ l)) ↔ MisplacedAt t l) × (MisplacedAt t l → report_in 0 after ≡ report 4 l 0 no_judgement)
  whole_misplaced = whole_at 4 (MisplacedAt t) (omega arith) (λ l. (
    λ e. let f = lines_of_refused most_characters t 4 l 0 e (λ z. omega arith) (λ z. omega arith) in let m = (four_whole most_characters t f.0 f.1 l 0).0 e in (f.0, f.1, m.1, m.2, m.3),
    λ v. (four_whole most_characters t v.0 v.1 l 0).1 (refl, v.2, v.3, v.4),
  ))

  pub whole_owed : (l : ℕ) → (((refusal : RefusedWhole t before n after) × (n ≡ 5) × (refusal.line ≡ l)) ↔ OwedAt t l) × (OwedAt t l → report_in 0 after ≡ report 5 l 0 no_judgement)
  whole_owed = whole_at 5 (OwedAt t) (omega arith) (λ l. (λ e. ((five_whole most_characters t l 0).0 e).1, λ v. (five_whole most_characters t l 0).1 (refl, v)))

  slip_at : (l : ℕ) → (((refusal : RefusedWhole t before n after) × (n ≡ 10) × (refusal.line ≡ l)) ↔ SlipAt t l) × (SlipAt t l → report_in 0 after ≡ report 10 l 0 no_judgement)
  slip_at = whole_at 10 (SlipAt t) (omega arith) (λ l. (
    λ e. let f = lines_of_refused most_characters t 10 l 0 e (λ z. omega arith) (λ z. omega arith) in (f.0, f.1, ((ten_whole most_characters t f.0 f.1 l 0).0 e).1),
    λ v. (ten_whole most_characters t v.0 v.1 l 0).1 (refl, v.2),
  ))

  -- No condition has 10.
  pub slip_sent : ((n ≡ 10) ↔ ((l : ℕ) × SlipAt t l)) × ((l : ℕ) → SlipAt t l → report_in 0 after ≡ report 10 l 0 no_judgement)
  slip_sent = ((λ e. go e (every run).2, λ v. ((slip_at v.0).0.1 v.1).1), λ l. (slip_at l).1)
    where
      go : n ≡ 10 → RefusedWhole t before n after ⊎ EachAnswered t before n after → (l : ℕ) × SlipAt t l
      go e (inl r) = (r.line, (slip_at r.line).0.0 (r, e, refl))
      go e (inr x) = absurd (omega (arith, x.to8))

  module _ (a : AllowedWhole most_characters t) (k : ℕ) (h : k < length a.0.conditions) where
    abbrev here : Reports a.0.ship a.0.rows (line_number a.0 k) (line_at a.0 k) (report_in k after)
    here = line_report run a k h

    met : (o : ℕ) → (answer a.0 k ≡ refused 2 (line_number a.0 k) o) ↔ LineOverrunAt a.0 k o
    met o = two_line most_characters t a.0 (read_back a) k h o

    sent : (o : ℕ) → LineOverrunAt a.0 k o → HasNumber 2 (report_in k after) × (report_in k after ≡ report 2 (line_number a.0 k) o no_judgement)
    sent o v = has_refused here (sym (answer_at a.0 k h) ∙ (met o).1 v)

    other : {X : Type 0} (m : ℕ) → m ≤ 8 → m ≢ 2 → HasNumber m (report_in k after) → HasNumber 2 (report_in k after) → X
    other m g d q p = absurd (d (one_number here m 2 g (omega arith) q p))

    found : HasNumber 2 (report_in k after) → (o : ℕ) × LineOverrunAt a.0 k o
    found p =
        by_line here
        (λ m o g _ e.
        let r = answer_refused a.0.ship a.0.rows (line_number a.0 k) (line_at a.0 k) e in
        let z : m ≡ 2 = one_number here m 2 (omega arith) (omega arith) (has_refused here r).0 p in
        (o, (met o).0 (answer_at a.0 k h ∙ (rw z at r))))
        (λ c. read_by here c (λ _ q. other 7 (omega arith) (λ z. omega arith) q p) (λ _ q. other 8 (omega arith) (λ z. omega arith) q p) (λ _ q. other 0 (omega arith) (λ z. omega arith) q p))

    pub line_overrun : (HasNumber 2 (report_in k after) ↔ ((o : ℕ) × LineOverrunAt a.0 k o)) × ((o : ℕ) → LineOverrunAt a.0 k o → report_in k after ≡ report 2 (line_number a.0 k) o no_judgement)
    line_overrun = ((found, λ x. (sent x.0 x.1).0), λ o v. (sent o v).1)
