-- What is sent back, step by step: the number, how many bytes are written, and the buffer, by what is taken of the text.
use mathlib.Core.Path.{◌≡◌, refl, ap, ◌∙◌}
use mathlib.Core.Logic.{◌≢◌}
use mathlib.Core.List.{List, [], ◌∷◌, ◌++◌, map, append-nil}
use Prim.Native.Nat.{ℕ, suc, ◌+◌, ◌*◌, ◌≤◌, ◌<◌}
use native.Mathlib.Omega.{arith}
use lib.Dec.{leb}
use lib.ListN.{length, drop, length-map}
use borrow.Author.Tests.{le-leb, lt-leb, ne_eqb}
use Rattle.rules.specs.Blocks.{Ship, Row}
use Rattle.rules.specs.Outcome.{refused, got, test, ◌>>=◌, ◌>>◌}
use Rattle.rules.specs.Report.{concat, report_length}
use Rattle.rules.specs.Layout.{condition_lines, Booklet}
use Rattle.rules.specs.Booklet.{counted_lines, book_frames}
use Rattle.rules.specs.Answer.{report_of, answers_from, answers, taken, first_number, number_for, sent, over, number, bytes_sent, written}
use Rattle.rules.proofs.walk.Outcome.{bind_got, bind_refused, test_got, test_refused}
use Rattle.rules.proofs.booklet.Refusals.{counted_lines_refusal}

-- The number, the bytes written, and the buffer at the end.
pub record Gives (most : ℕ) (t buffer : List ℕ) (n bytes : ℕ) (end : List ℕ) : Type 0 where
  pub numbered : number most t buffer ≡ n
  pub long : bytes_sent most t buffer ≡ bytes
  pub holds : written most t buffer ≡ end

-- One answer for each condition line.
pub answers_length : (s : Ship) (vs : List Row) (cs : List (List ℕ)) (ln : ℕ) → length (answers_from s vs ln cs) ≡ length cs
unfolding answers_from
answers_length s vs [] ln = refl
answers_length s vs (l ∷ ls) ln = ap suc (answers_length s vs ls _)

-- A refusal that is not 9 has one report line.
one_line : (n l o : ℕ) → (n ≡ 9 → ⊥) → sent (refused n l o) ≡ report_of (refused n l o) ∷ []
unfolding sent
one_line n l o h = rw (ne_eqb n 9 h, sent)

each : (b : Booklet) → sent (got b) ≡ map report_of (answers b)
unfolding sent
each b = refl

alone : (r : List ℕ) → concat (r ∷ []) ≡ r
unfolding concat
alone r = append-nil r

module _ (most : ℕ) (t buffer : List ℕ) where
  -- ---- by what is taken
  pub number_taken : number most t buffer ≡ number_for (taken most (length buffer) t)
  unfolding number
  number_taken = refl

  pub bytes_taken : bytes_sent most t buffer ≡ report_length * length (sent (taken most (length buffer) t))
  unfolding bytes_sent
  bytes_taken = refl

  pub written_taken : written most t buffer ≡ over (sent (taken most (length buffer) t)) buffer
  unfolding written
  written_taken = refl

  gives_nine : taken most (length buffer) t ≡ refused 9 0 0 → Gives most t buffer 9 0 buffer
  unfolding sent concat
  gives_nine e = record { numbered = number_taken ∙ ap number_for e; long = bytes_taken ∙ ap (λ a. report_length * length (sent a)) e; holds = written_taken ∙ ap (λ a. over (sent a) buffer) e }

  pub gives_refusal : {n l o : ℕ} → n ≢ 9 → taken most (length buffer) t ≡ refused n l o → Gives most t buffer n report_length (report_of (refused n l o) ++ drop report_length buffer)
  gives_refusal {n} {l} {o} h e = record {
    numbered = number_taken ∙ ap number_for e;
    long = bytes_taken ∙ ap (λ a. report_length * length a) single;
    holds = written_taken ∙ ap (λ a. over a buffer) single ∙ joined (report_of (refused n l o));
  }
    where
      joined : (r : List ℕ) → over (r ∷ []) buffer ≡ r ++ drop report_length buffer
      joined r = ap (◌++ drop report_length buffer) (alone r)

      single : sent (taken most (length buffer) t) ≡ report_of (refused n l o) ∷ []
      single = ap sent e ∙ one_line n l o (λ z. omega arith)

  pub gives_reports : (b : Booklet) → taken most (length buffer) t ≡ got b
      → Gives most t buffer (first_number (answers b)) (report_length * length b.conditions) (concat (map report_of (answers b)) ++ drop (report_length * length b.conditions) buffer)
  gives_reports b e = record {
    numbered = number_taken ∙ ap number_for e;
    long = bytes_taken ∙ ap (λ a. report_length * length a) all ∙ ap (report_length *◌) count;
    holds = written_taken ∙ ap (λ a. over a buffer) all ∙ ap (λ n. concat (map report_of (answers b)) ++ drop (report_length * n) buffer) count;
  }
    where
      all : sent (taken most (length buffer) t) ≡ map report_of (answers b)
      all = ap sent e ∙ each b

      count : length (map report_of (answers b)) ≡ length b.conditions
      count = length-map (answers b) report_of ∙ answers_length b.ship b.rows b.conditions (2 + length b.rows)

  -- ---- by the steps of the text's reading
  pub taken_steps : taken most (length buffer) t ≡ (test (leb report_length (length buffer)) 9 0 0 >> (counted_lines most t >>= λ ls. test (leb (report_length * condition_lines ls) (length buffer)) 9 0 0 >> book_frames ls))
  unfolding taken
  taken_steps = refl

  -- 9: 'first for under 209 bytes'.
  pub under_one : length buffer < report_length → Gives most t buffer 9 0 buffer
  under_one h = gives_nine (taken_steps ∙ test_refused _ _ _ _ (lt-leb report_length (length buffer) h))

  module _ (h : report_length ≤ length buffer) where
    pub past_one : taken most (length buffer) t ≡ (counted_lines most t >>= λ ls. test (leb (report_length * condition_lines ls) (length buffer)) 9 0 0 >> book_frames ls)
    past_one = taken_steps ∙ test_got _ _ _ _ (le-leb report_length (length buffer) h)

    -- 1, and the 25th condition line.
    pub uncounted : {n l o : ℕ} → counted_lines most t ≡ refused n l o → Gives most t buffer n report_length (report_of (refused n l o) ++ drop report_length buffer)
    uncounted e = gives_refusal (let x = ((counted_lines_refusal most t).holds _ _ _ e).0 in omega arith) (past_one ∙ bind_refused _ e)

    module _ (ls : List (List ℕ)) (e : counted_lines most t ≡ got ls) where
      -- 9: 'again for under 209 bytes per condition line'.
      pub under_all : length buffer < report_length * condition_lines ls → Gives most t buffer 9 0 buffer
      under_all g = gives_nine (past_one ∙ bind_got _ e ∙ test_refused _ _ _ _ (lt-leb (report_length * condition_lines ls) (length buffer) g))

      module _ (g : report_length * condition_lines ls ≤ length buffer) where
        pub past_all : taken most (length buffer) t ≡ book_frames ls
        past_all = past_one ∙ bind_got _ e ∙ test_got _ _ _ _ (le-leb (report_length * condition_lines ls) (length buffer) g)

        -- 'Then the blocks.'
        pub framed : (b : Booklet) → book_frames ls ≡ got b
            → Gives most t buffer (first_number (answers b)) (report_length * length b.conditions) (concat (map report_of (answers b)) ++ drop (report_length * length b.conditions) buffer)
        framed b r = gives_reports b (past_all ∙ r)
