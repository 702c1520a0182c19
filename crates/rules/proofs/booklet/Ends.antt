-- Where the reports end: none has a character 0, so that in a buffer lent full of zeros the first 0 stands behind the last report.
use mathlib.Core.Path.{◌≡◌, ap, sym, ◌∙◌}
use mathlib.Core.Bool.{Bool, true, false, cond}
use mathlib.Core.Logic.{◌↔◌}
use mathlib.Core.List.{List, [], ◌∷◌, ◌++◌, map}
use Prim.Native.Nat.{ℕ, zero, suc, ◌+◌, ◌-◌, ◌/◌, ◌%◌, ◌≤◌, ◌<◌}
use native.Mathlib.Omega.{arith}
use native.Mathlib.Decide.{dec_le}
use lib.Dec.{ltb, eqb}
use lib.IntN.{ℤ}
use lib.ListN.{length, drop, get_or, get_or-append}
use lib.Seq.{get_or-append-add, get_or-drop}
use Rattle.rules.specs.Text.{LF, digit, hex}
use Rattle.rules.specs.Blocks.{block}
use Rattle.rules.specs.Layout.{Booklet}
use Rattle.rules.specs.Outcome.{Ans, refused, got}
use Rattle.rules.specs.Report.{Judgement, concat, report_tag, report_body, report_line, report_length}
use Rattle.rules.specs.Answer.{report_of, answers, taken, sent, bytes_sent, written}
use Rattle.rules.proofs.answer.Steps.{report_refused, report_judged}
use Rattle.rules.proofs.answer.Length.{Sized, sized_length, refusal_length}
use Rattle.rules.proofs.booklet.Reports.{reports_sized}

-- ---- no character 0
unfoldable NoZero : List ℕ → Type 0
NoZero [] = Unit {0}
NoZero (c ∷ s) = (1 ≤ c) × NoZero s

joined : (s s' : List ℕ) → NoZero s → NoZero s' → NoZero (s ++ s')
unfolding NoZero
joined [] s' a b = b
joined (c ∷ s) s' a b = (a.0, joined s s' a.1 b)

at : (s : List ℕ) (i : ℕ) → NoZero s → i < length s → 1 ≤ get_or s i 0
unfolding NoZero
at [] i a h = absurd (omega arith)
at (c ∷ s) zero a h = a.0
at (c ∷ s) (suc i) a h = at s i a.1 (omega arith)

some : (n : ℕ) → 1 ≤ digit n
unfolding digit
some n = go (ltb n 10)
  where
    go : (c : Bool) → 1 ≤ cond c (48 + n) (55 + n)
    go true = omega arith
    go false = omega arith

hexed : (s : List ℕ) → NoZero (hex s)
unfolding NoZero hex
hexed [] = tt
hexed (b ∷ s) = (some (b / 16), (some (b % 16), hexed s))

feed : NoZero (LF ∷ [])
unfolding NoZero
feed = (omega arith, tt)

of_line : (n l o : ℕ) (verdicts : List ℕ) (figures : List ℤ) → NoZero (report_line n l o verdicts figures)
unfolding report_line
of_line n l o verdicts figures = joined (hex (block report_tag (report_body n l o verdicts figures))) (LF ∷ []) (hexed (block report_tag (report_body n l o verdicts figures))) feed

of_report : (a : Ans Judgement) → NoZero (report_of a)
of_report (refused n l o) = rw (report_refused n l o) (of_line n l o _ _)
of_report (got j) = rw (report_judged j) (of_line 0 0 0 _ _)

of_reports : (xs : List (Ans Judgement)) → NoZero (concat (map report_of xs))
unfolding NoZero concat
of_reports [] = tt
of_reports (a ∷ xs) = joined (report_of a) _ (of_report a) (of_reports xs)

-- ---- what is sent
of_sent : (x : Ans Booklet) → NoZero (concat (sent x)) × Sized report_length (sent x)
unfolding sent Sized
of_sent (refused n l o) = go (eqb n 9)
  where
    go : (c : Bool) → NoZero (concat (elim c [ true ↦ [] | false ↦ report_of (refused n l o) ∷ [] ])) × Sized report_length (elim c [ true ↦ [] | false ↦ report_of (refused n l o) ∷ [] ])
    go true = (of_reports [], tt)
    go false = (of_reports (refused n l o ∷ []), (refusal_length n l o, tt))
of_sent (got b) = (of_reports (answers b), reports_sized b.ship b.rows b.conditions (2 + length b.rows))

module _ (most : ℕ) (t buffer : List ℕ) where
  abbrev reports : List (List ℕ)
  reports = sent (taken most (length buffer) t)

  bytes : bytes_sent most t buffer ≡ length (concat reports)
  unfolding bytes_sent
  bytes = sym (sized_length report_length reports (of_sent (taken most (length buffer) t)).1)

  holds : written most t buffer ≡ concat reports ++ drop (length (concat reports)) buffer
  unfolding written bytes_sent
  holds = ap (λ n. concat reports ++ drop n buffer) bytes

  -- In a buffer full of zeros those bytes are 0 that are not written, and no others.
  pub ends_at_zero : ((i : ℕ) → get_or buffer i 0 ≡ 0) → (i : ℕ) → (get_or (written most t buffer) i 0 ≡ 0) ↔ (bytes_sent most t buffer ≤ i)
  ends_at_zero zeros i = rw (holds, bytes) (to (dec_le (length (concat reports)) i), from)
    where
      to : Dec (length (concat reports) ≤ i) → get_or (concat reports ++ drop (length (concat reports)) buffer) i 0 ≡ 0 → length (concat reports) ≤ i
      to (yes h) e = h
      to (no h) e =
          let l : i < length (concat reports) = omega arith in
          absurd (let x = at (concat reports) i (of_sent (taken most (length buffer) t)).0 l in let y = get_or-append (concat reports) (drop (length (concat reports)) buffer) 0 i l in omega arith)

      from : length (concat reports) ≤ i → get_or (concat reports ++ drop (length (concat reports)) buffer) i 0 ≡ 0
      from h =
          let e : i ≡ length (concat reports) + (i - length (concat reports)) = omega arith in
          ap (λ j. get_or (concat reports ++ drop (length (concat reports)) buffer) j 0) e
          ∙ get_or-append-add (concat reports) _ (i - length (concat reports)) 0 ∙ get_or-drop (length (concat reports)) buffer (i - length (concat reports)) 0 ∙ ap (λ j. get_or buffer j 0) (sym e) ∙ zeros i
