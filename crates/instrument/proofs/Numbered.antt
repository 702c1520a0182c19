-- The number of a report: it stands in characters 7 and 8, and these tell it.
use mathlib.Core.Path.{◌≡◌, refl, ap, sym, ◌∙◌}
use mathlib.Core.List.{List}
use Prim.Native.Nat.{ℕ, ◌≤◌}
use native.Mathlib.Omega.{arith}
use lib.IntN.{ℤ}
use Rattle.rules.specs.Numbers.{num, digits}
use Rattle.rules.specs.Text.{hex}
use Rattle.rules.specs.Blocks.{block}
use Rattle.rules.specs.Outcome.{Ans, refused, got}
use Rattle.rules.specs.Walk.{unhex}
use Rattle.rules.specs.Report.{Judgement, report_body, report_line}
use Rattle.rules.specs.Answer.{number_of, report_of}
use Rattle.rules.proofs.layout.Numbers.{Bytes-digits, num_digits}
use Rattle.rules.proofs.layout.Lines.{unhex_got}
use Rattle.rules.proofs.answer.Steps.{report_refused, report_judged}
use Rattle.instrument.specs.Reported.{number_in, HasNumber}

number_column : (n l o : ℕ) (v : List ℕ) (f : List ℤ) → number_in (report_line n l o v f) ≡ hex (digits 1 n)
unfolding report_line block hex digits report_body
number_column n l o v f = refl

pub number_reported : (a : Ans Judgement) → HasNumber (number_of a) (report_of a)
number_reported (refused n l o) = ap number_in (report_refused n l o) ∙ number_column n l o _ _
number_reported (got j) = ap number_in (report_judged j) ∙ number_column 0 0 0 _ _

pub number_told : (m n : ℕ) → m ≤ 8 → n ≤ 8 → hex (digits 1 m) ≡ hex (digits 1 n) → m ≡ n
number_told m n h g e =
    let p = unhex_got 0 (digits 1 m) (Bytes-digits 1 m (omega arith)) in
    let q = unhex_got 0 (digits 1 n) (Bytes-digits 1 n (omega arith)) in
    let u = ap (unhex 0) e in
    let z : digits 1 m ≡ digits 1 n = cc in
    sym (num_digits 1 m (omega arith)) ∙ ap num z ∙ num_digits 1 n (omega arith)
