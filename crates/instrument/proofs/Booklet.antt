-- All conditions of a booklet, one after the other: what is left of the text, of the buffer and of the number comes to what the whole comes to.
use mathlib.Core.Path.{◌≡◌, refl, ap, ap₂, sym, ◌∙◌}
use mathlib.Core.Bool.{Bool, true, false, cond}
use mathlib.Core.List.{List, [], ◌∷◌, ◌++◌, map, append_assoc, append-nil}
use Prim.Native.Nat.{ℕ, zero, suc, ◌+◌, ◌-◌, ◌*◌, ◌≤◌, ◌<◌}
use native.Mathlib.Omega.{arith}
use lib.Dec.{eqb}
use lib.ListN.{length, length-map, take, drop, get_or, length-append, length-drop, take-append-drop}
use Rattle.std.proofs.lemmas.List.{nil_from_length}
use lib.Seq.{drop-drop, drop-append_seam, take-append_seam, length-take-le, drop-length}
use borrow.Author.Tests.{eqb-true}
use Rattle.rules.specs.Layout.{most_characters, Booklet}
use Rattle.rules.specs.Outcome.{Ans, got}
use Rattle.rules.specs.Walk.{lines_from}
use Rattle.rules.specs.Booklet.{condition_at}
use Rattle.rules.specs.Apart.{line_at}
use Rattle.rules.specs.Parts.{part}
use Rattle.rules.specs.Report.{Judgement, concat, report_length}
use Rattle.rules.specs.Answer.{number_of, report_of, answer_of_line, answers_from, answers, first_number}
use Rattle.rules.proofs.layout.Parts.{part_end, length_part}
use Rattle.rules.proofs.booklet.Reports.{answer_length}
use Rattle.rules.proofs.booklet.Readings.{reading_limits}
use Rattle.rules.proofs.booklet.Conditions.{answer_refusal}
use Rattle.rules.proofs.walk.Refusals.{Refusal, weaker}
use Rattle.rules.proofs.booklet.PlaceFits.{line_fits}
use Rattle.book.specs.declared.Row as plain
use Rattle.reading.specs.TextAnswers.{condition_line}
use Rattle.reading.specs.declared.ConditionLine.{ConditionLine}
use Rattle.reading.specs.declared.Front.{Front}
use Rattle.reading.proofs.ConditionLines.{FirstLine, first_line_lem, no_more}
use Rattle.reading.proofs.FrontCharacters.{conditions_behind, front_within}
use Rattle.instrument.specs.Sent.{LineSays, Opens}
use Rattle.instrument.proofs.Sending.{Sends}

-- The reports of these lines, of which the first has the number ln, over a buffer.
abbrev reported : Booklet → ℕ → List (List ℕ) → List ℕ → List ℕ
reported b ln cs buffer = concat (map report_of (answers_from b.ship b.rows ln cs)) ++ drop (report_length * length cs) buffer

-- The first number, where so far it is n.
abbrev numbered : Booklet → ℕ → List (List ℕ) → ℕ → ℕ
numbered b ln cs n = cond (eqb n 0) (first_number (answers_from b.ship b.rows ln cs)) n

-- So far `done` condition lines are answered. The others stand in `rest`, and what they come to, behind what is there, is what the whole comes to.
pub record Going (b : Booklet) (before rest : List ℕ) (line at number : ℕ) (report : List ℕ) : Type 0 where
  pub done : ℕ
  pub left : List (List ℕ)
  pub lines : lines_from line rest ≡ got left
  pub behind : left ≡ drop done b.conditions
  pub counted : done + length left ≡ length b.conditions
  pub place : line ≡ 2 + length b.rows + done
  pub stands : at ≡ report_length * done
  pub numbers : first_number (answers b) ≡ numbered b line left number
  pub reports : reported b (2 + length b.rows) b.conditions before ≡ take at report ++ reported b line left (drop at report)
  pub room : at + report_length * length left ≤ length report
  pub same : length report ≡ length before

-- ---- one line of the list
behind_first : {A : Type 0} (z : A) (k : ℕ) (xs : List A) (x : A) (ys : List A) → x ∷ ys ≡ drop k xs → (get_or xs k z ≡ x) × (k < length xs) × (ys ≡ drop (k + 1) xs)
behind_first {A} z k [] x ys e = absurd (let n : List A = [] in let q = ap length e in let l = length-drop k n in omega arith)
behind_first z zero (a ∷ xs) x ys e = let p : x ≡ a = cc in let q : ys ≡ xs = cc in (sym p, omega arith, q)
behind_first z (suc k) (a ∷ xs) x ys e = let r = behind_first z k xs x ys e in let z : suc (k + 1) ≡ suc k + 1 = omega arith in (r.0, omega (arith, r.1), r.2 ∙ ap (λ i. drop i (a ∷ xs)) z)

-- ---- a report put in its place
module _ (report r : List ℕ) (at : ℕ) (inside : at + report_length ≤ length report) (sized : length r ≡ report_length) where
  abbrev after : List ℕ
  after = take at report ++ (r ++ drop report_length (drop at report))

  front_long : length (take at report ++ r) ≡ at + report_length
  front_long = length-append (take at report) r ∙ ap₂ ◌+◌ (length-take-le at report (omega arith)) sized

  regrouped : after ≡ (take at report ++ r) ++ drop report_length (drop at report)
  regrouped = sym (append_assoc (take at report) r (drop report_length (drop at report)))

  put_front : take (at + report_length) after ≡ take at report ++ r
  put_front = ap₂ take (sym front_long) regrouped ∙ take-append_seam (take at report ++ r) _

  put_behind : drop (at + report_length) after ≡ drop report_length (drop at report)
  put_behind = ap₂ drop (sym front_long) regrouped ∙ drop-append_seam (take at report ++ r) _

  put_length : length after ≡ length report
  put_length =
      let a = length-append (take at report ++ r) (drop report_length (drop at report)) in
      let d = length-drop report_length (drop at report) in
      let f = length-drop at report in
      let g = front_long in
      ap length regrouped ∙ omega arith

-- ---- the number so far
first_one : (a : Ans Judgement) (more : List (Ans Judgement)) (n m : ℕ) → m ≡ number_of a → cond (eqb n 0) (first_number (a ∷ more)) n ≡ (let k : ℕ = cond (eqb n 0) m n in cond (eqb k 0) (first_number more) k)
unfolding first_number
first_one a more n m e = rw e (go (eqb n 0) refl)
  where
    new : (f : Bool) → elim f [ true ↦ first_number more | false ↦ number_of a ] ≡ cond f (first_number more) (number_of a)
    new true = refl
    new false = refl

    go : (f : Bool) → eqb n 0 ≡ f → cond f (elim (eqb (number_of a) 0) [ true ↦ first_number more | false ↦ number_of a ]) n ≡ (let k : ℕ = cond f (number_of a) n in cond (eqb k 0) (first_number more) k)
    go true p = new (eqb (number_of a) 0)
    go false p = rw p

-- A text is read as one booklet only.
pub one_booklet : {b d : Booklet} {t : List ℕ} {front front' : Front} → Opens b t front → Opens d t front' → b ≡ d
one_booklet O O' = let p = O.read in let q = O'.read in cc

module _ (b : Booklet) (t : List ℕ) (front : Front) (O : Opens b t front) (before : List ℕ) where
  -- ---- the first line
  pub start_within : front.at ≤ length t
  start_within = omega (arith, O.begins, front_within most_characters t b O.read)

  pub counted : length front.rows ≡ length b.rows
  counted = ap length O.table ∙ simp length-map refl

  pub going_start : report_length * length b.conditions ≤ length before → Going b before (part front.at (length t) t) (2 + length front.rows) 0 0 before
  going_start h = rw (O.begins, counted) (record {
    done = 0;
    left = b.conditions;
    lines = ap (lines_from (2 + length b.rows)) (part_end t _) ∙ conditions_behind most_characters t b O.read;
    behind = refl;
    counted = omega arith;
    place = omega arith;
    stands = refl;
    numbers = refl;
    reports = refl;
    room = omega arith;
    same = refl;
  })

  -- ---- one line more
  module _ {rest report : List ℕ} {line at number : ℕ} (g : Going b before rest line at number report) (some : 0 < length rest) where
    pub first : FirstLine line rest g.left g.lines
    first = first_line_lem line rest g.left g.lines some

    here : (line_at b g.done ≡ first.line) × (g.done < length b.conditions) × (first.others ≡ drop (g.done + 1) b.conditions)
    here = behind_first [] g.done b.conditions first.line first.others (sym first.both ∙ g.behind)

    pub room_here : at + report_length ≤ length report
    room_here = let n = ap length first.both in omega (arith, g.room)

    pub part_long : report_length ≤ length (part at (at + report_length) report)
    part_long = let r = room_here in let l = length_part report at (at + report_length) r in omega arith

    pub line_small : line < 65_536
    line_small = let f = line_fits most_characters t b O.read g.done here.1 in omega (arith, g.place)

    -- Its report has room for what is sent back.
    pub sends : Refusal Sends (answer_of_line b.ship b.rows line first.line)
    sends = weaker (λ n m o h. (omega (arith, h.0), omega (arith, h.1), omega (arith, h.2, line_small), omega (arith, h.3))) (answer_refusal b.ship b.rows line first.line)

    -- It is a condition line of this ship and these rows.
    pub says : (rs : List plain.Row) → rs ≡ front.rows → (c : ConditionLine) → c ≡ condition_line line rest → LineSays b.ship b.rows line first.line front.ship c.read rs
    says rs q c e = record {
      limits = λ d q. reading_limits most_characters t b O.read (omega arith) g.done here.1 line d (ap (condition_at line) here.0 ∙ q);
      hull = O.hull;
      line = ap (λ (c : ConditionLine). c.read) (e ∙ first.read);
      table = q ∙ O.table;
      fits = line_small;
    }

    pub taken_within : (c : ConditionLine) → c ≡ condition_line line rest → (0 < c.taken) × (c.taken ≤ length rest)
    taken_within c e = let q = ap (λ (c : ConditionLine). c.taken) (e ∙ first.read) in omega (arith, first.within)

    pub going_next : (c : ConditionLine) → c ≡ condition_line line rest → {m : ℕ} {put : List ℕ} → m ≡ number_of (answer_of_line b.ship b.rows line first.line) → put ≡ report_of (answer_of_line b.ship b.rows line first.line) ++ drop report_length (part at (at + report_length) report)
        → Going b before (part c.taken (length rest) rest) (line + 1) (at + report_length) (cond (eqb number 0) m number) (take at report ++ (put ++ drop (at + report_length - at) (drop at report)))
    unfolding answers_from concat
    going_next c e {m} {put} N R =
        let a = answer_of_line b.ship b.rows line first.line in
        let z = answer_length b.ship b.rows line first.line in
        let p : length (part at (at + report_length) report) ≡ report_length = length_part report at (at + report_length) room_here ∙ omega arith in
        let w : put ≡ report_of a = R ∙ ap (report_of a ++◌) (drop_whole (part at (at + report_length) report) p) ∙ append-nil (report_of a) in
        let n = ap length first.both in
        let k = ap (λ (c : ConditionLine). c.taken) (e ∙ first.read) in
        let y : at + report_length - at ≡ report_length = omega arith in
        rw (w, y) (record {
          done = g.done + 1;
          left = first.others;
          lines = ap (lines_from (line + 1)) (part_end rest c.taken ∙ ap (λ i. drop i rest) k) ∙ first.behind;
          behind = here.2;
          counted = omega (arith, g.counted);
          place = omega (arith, g.place);
          stands = omega (arith, g.stands);
          numbers = g.numbers ∙ ap (λ ls. numbered b line ls number) first.both ∙ first_one a _ number m N;
          reports = g.reports ∙ ap (λ ls. take at report ++ reported b line ls (drop at report)) first.both ∙ moved_on (report_of a) z;
          room = let x = put_length report (report_of a) at room_here z in omega (arith, g.room);
          same = put_length report (report_of a) at room_here z ∙ g.same;
        })
      where
        drop_whole : (s : List ℕ) → length s ≡ report_length → drop report_length s ≡ []
        drop_whole s h = ap (λ i. drop i s) (sym h) ∙ drop-length s

        moved_on : (r : List ℕ) → length r ≡ report_length → take at report ++ ((r ++ concat (map report_of (answers_from b.ship b.rows (line + 1) first.others))) ++ drop (report_length * suc (length first.others)) (drop at report))
            ≡ take (at + report_length) (take at report ++ (r ++ drop report_length (drop at report))) ++ reported b (line + 1) first.others (drop (at + report_length) (take at report ++ (r ++ drop report_length (drop at report))))
        moved_on r h =
            let more = concat (map report_of (answers_from b.ship b.rows (line + 1) first.others)) in
            let q : report_length * suc (length first.others) ≡ report_length + report_length * length first.others = omega arith in
            let d : drop (report_length * suc (length first.others)) (drop at report) ≡ drop (report_length * length first.others) (drop report_length (drop at report)) = ap (λ i. drop i (drop at report)) q ∙ sym (drop-drop (report_length * length first.others) report_length (drop at report)) in
            rw (put_front report r at room_here h, put_behind report r at room_here h, d)
            (ap (take at report ++◌) (append_assoc r more _) ∙ sym (append_assoc (take at report) r (more ++ drop (report_length * length first.others) (drop report_length (drop at report)))))

  -- Where one is left, the text goes on.
  pub goes_on : {rest report : List ℕ} {line at number : ℕ} (g : Going b before rest line at number report) → 0 < length g.left → 0 < length rest
  goes_on {rest} {line = line} g some = go (length rest) refl
    where
      go : (n : ℕ) → length rest ≡ n → 0 < length rest
      go zero e = absurd (omega (arith, ap length (no_more line g.left rest g.lines e)))
      go (suc n) e = omega arith

  -- ---- the last line
  pub going_end : {rest report : List ℕ} {line at number : ℕ} → (g : Going b before rest line at number report) → length g.left ≡ 0 → (number ≡ first_number (answers b)) × (report ≡ reported b (2 + length b.rows) b.conditions before)
  unfolding answers_from concat first_number
  going_end {rest} {report} {line} {at} {number} g h =
      let none : g.left ≡ [] = nil_from_length g.left h in (
        sym (g.numbers ∙ ap (λ ls. numbered b line ls number) none ∙ last (eqb number 0) refl),
        sym (g.reports ∙ ap (λ ls. take at report ++ reported b line ls (drop at report)) none ∙ take-append-drop at report),
      )
    where
      last : (f : Bool) → eqb number 0 ≡ f → cond f 0 number ≡ number
      last true p = sym (eqb-true number 0 p)
      last false p = refl
