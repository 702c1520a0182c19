-- A refusal's report has no judgement: verdicts 3 and figures 0.
use Rattle.std.proofs.Common.{refl}
use Rattle.rules.specs.Report.{report}
use Rattle.report.proofs.say.Goals as goal

pub returns-in-Err : goal.returns-in-Err
unfolding report
returns-in-Err c = rw (c.write-in-Err.ensures, c.no_judgement.ensures, c.in-Err.is) refl
