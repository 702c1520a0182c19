-- What the report says, of a refusal or none and a judgement beside it; and of an answer, which is one of the two.
use Rattle.std.specs.Prelude.{ℕ, List, ◌∷◌, ◌++◌, map, Option, None, Some, Result, Ok, Err}
use Rattle.rules.specs.Numbers.{digits}
use Rattle.rules.specs.Report.{report_tag, report_line, report, no_judgement}
use Rattle.book.specs.Book.{fault_number, verdict_value}
use Rattle.book.specs.declared.Judgement.{Judgement}
use Rattle.book.specs.declared.Refusal.{Refusal}
use Rattle.report.specs.declared.Heading.{Heading}

-- The head of the frame: 'D1, length 0065, then refusal 1, line 2, offset 2'.
abbrev pub frame_head : ℕ → ℕ → ℕ → List ℕ
frame_head number line offset = report_tag ∷ digits 2 0x65 ++ digits 1 number ++ digits 2 line ++ digits 2 offset

-- The heading of a refusal; number, line and offset are 0 where there is none.
abbrev pub heading_of : Option Refusal → Heading
heading_of None = record { number = 0; line = 0; offset = 0 }
heading_of (Some r) = record { number = fault_number r.fault; line = r.place.line; offset = r.place.offset }

-- The report of a refusal, or of none, and of the judgement beside it.
abbrev pub report_with : Option Refusal → Judgement → List ℕ
report_with r j = report_line (heading_of r).number (heading_of r).line (heading_of r).offset (map verdict_value j.verdicts) j.figures

-- The report of an answer: of a judgement with no refusal; 'on refusals 1 to 8 verdicts are 3 and figures 0'.
abbrev pub said : Result Judgement Refusal → List ℕ
said (Ok j) = report_with None j
said (Err r) = report (fault_number r.fault) r.place.line r.place.offset no_judgement
