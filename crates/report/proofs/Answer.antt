-- What the report says of an answer is what the rules say of it, where its number is one of those that are sent back.
use Rattle.std.proofs.Common.{◌≡◌, ℕ, List, [], ◌∷◌, map, ◌≤◌, refl, ap, ap₂, sym, ◌∙◌}
use Rattle.rules.specs.Outcome.{Ans, refused, got}
use Rattle.rules.specs.Report.{Judgement, Verdict, verdict_number, report_line, report, no_judgement}
use Rattle.rules.specs.Answer.{report_of}
use Rattle.rules.proofs.answer.Steps.{report_judged}
use Rattle.book.specs.Book.{answered, judgement_of, verdict_of, verdict_value}
use Rattle.book.proofs.Faults.{verdict_value_of, number_fault}
use Rattle.report.specs.Said.{said}

verdict_numbers : (vs : List Verdict) → map verdict_value (map verdict_of vs) ≡ map verdict_number vs
verdict_numbers [] = refl
verdict_numbers (v ∷ vs) = ap₂ ◌∷◌ (verdict_value_of v) (verdict_numbers vs)

reported : (n l o : ℕ) → report n l o no_judgement ≡ report_of (refused n l o)
unfolding report report_of
reported n l o = refl

-- A refusal's number is one from 1 to 10.
abbrev pub Numbered : {A : Type 0} → Ans A → Type 0
Numbered (refused n l o) = (1 ≤ n) × (n ≤ 10)
Numbered (got j) = Unit {0}

pub said_is : (a : Ans Judgement) → Numbered a → said (answered judgement_of a) ≡ report_of a
said_is (refused n l o) h = ap (λ k. report k l o no_judgement) (number_fault n h.0 h.1) ∙ reported n l o
said_is (got j) h = ap (λ vs. report_line 0 0 0 vs j.figures) (verdict_numbers j.verdicts) ∙ sym (report_judged j)
