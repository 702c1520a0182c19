-- Two reports that differ in the line are the same but for their four characters of it, the 9th to the 12th.
use mathlib.Core.Path.{◌≡◌, refl, ap, sym, ◌∙◌}
use mathlib.Core.List.{List, [], ◌∷◌, ◌++◌, map}
use Prim.Native.Nat.{ℕ}
use lib.IntN.{ℤ}
use lib.ListN.{length, take, drop}
use Rattle.rules.specs.Numbers.{digits}
use Rattle.rules.specs.Text.{LF, hex}
use Rattle.rules.specs.Blocks.{block}
use Rattle.rules.specs.Outcome.{Ans, refused, got}
use Rattle.rules.specs.Report.{Judgement, verdict_number, no_judgement, report_tag, report_body, report_line}
use Rattle.rules.specs.Answer.{report_of, in_line}
use Rattle.rules.proofs.answer.Steps.{report_refused}
use Rattle.rules.proofs.answer.Length.{body_length}

module _ (n o : ℕ) (v : List ℕ) (f : List ℤ) (eight : length v ≡ 8) (eleven : length f ≡ 11) where
  abbrev spelt : ℕ → List ℕ
  spelt l = hex (report_tag ∷ (digits 2 0x65 ++ report_body n l o v f)) ++ (LF ∷ [])

  report_spelt : (l : ℕ) → report_line n l o v f ≡ spelt l
  unfolding report_line block
  report_spelt l = ap (λ k. hex (report_tag ∷ (digits 2 k ++ report_body n l o v f)) ++ (LF ∷ [])) (body_length n l o v f eight eleven)

  before : (l l' : ℕ) → take 8 (spelt l) ≡ take 8 (spelt l')
  unfolding hex digits report_body
  before l l' = refl

  behind : (l l' : ℕ) → drop 12 (spelt l) ≡ drop 12 (spelt l')
  unfolding hex digits report_body
  behind l l' = refl

abbrev void : List ℕ
void = map verdict_number no_judgement.verdicts

abbrev zeros : List ℤ
zeros = no_judgement.figures

-- The reports of one refusal at two lines.
refusal_spelt : (n l o : ℕ) → report_of (refused n l o) ≡ spelt n o void zeros refl refl l
refusal_spelt n l o = report_refused n l o ∙ report_spelt n o void zeros refl refl l

line_only : (n l l' o : ℕ) → (take 8 (report_of (refused n l o)) ≡ take 8 (report_of (refused n l' o))) × (drop 12 (report_of (refused n l o)) ≡ drop 12 (report_of (refused n l' o)))
line_only n l l' o = (
  ap (take 8) (refusal_spelt n l o) ∙ before n o void zeros refl refl l l' ∙ sym (ap (take 8) (refusal_spelt n l' o)),
  ap (drop 12) (refusal_spelt n l o) ∙ behind n o void zeros refl refl l l' ∙ sym (ap (drop 12) (refusal_spelt n l' o)),
)

-- So an answer's report is the same in another line, but for these.
pub in_line_only : (ln : ℕ) (a : Ans Judgement) → (take 8 (report_of (in_line ln a)) ≡ take 8 (report_of a)) × (drop 12 (report_of (in_line ln a)) ≡ drop 12 (report_of a))
in_line_only ln (refused n l o) = line_only n _ l o
in_line_only ln (got j) = (refl, refl)
