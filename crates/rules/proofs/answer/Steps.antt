-- The answer step by step: the reading, then 7 and 8, then the judgement; and its report.
use mathlib.Core.Path.{◌≡◌, refl, ◌∙◌}
use mathlib.Core.List.{List, map}
use Prim.Native.Nat.{ℕ, ◌*◌}
use lib.Dec.{leb}
use Rattle.rules.specs.Layout.{Reading}
use Rattle.rules.specs.Outcome.{refused, got, test, ◌>>=◌, ◌>>◌}
use Rattle.rules.specs.Walk.{read}
use Rattle.rules.specs.Loading.{tenths, in_table, displacement, corrected_kg, greatest_kg, entries_of, weighed, weighed_in}
use Rattle.rules.specs.Curve.{loaded, loaded_in}
use Rattle.rules.specs.Report.{verdict_number, Judgement, judgement, no_judgement, report_line}
use Rattle.rules.specs.Answer.{judged, judged_in, answered, answered_in, report_of}
use Rattle.rules.proofs.walk.Outcome.{bind_got, bind_refused}

-- ---- what is answered
pub answered_steps : (t : List ℕ) → answered t ≡ (read t >>= judged)
unfolding answered_in
answered_steps t = refl

pub judged_steps : (unit : ℕ) (r : Reading) → judged_in unit r ≡ (weighed_in unit r >>= λ u. got (judgement (loaded_in unit r)))
unfolding judged_in
judged_steps unit r = refl

pub weighed_steps : (r : Reading) → weighed r ≡ (test (in_table r.rows (displacement (entries_of r))) 7 0 0 >> test (leb (corrected_kg (entries_of r)) (tenths * greatest_kg)) 8 0 0)
unfolding weighed_in
weighed_steps r = refl

pub answered_refused : (t : List ℕ) {n l o : ℕ} → read t ≡ refused n l o → answered t ≡ refused n l o
answered_refused t e = answered_steps t ∙ bind_refused judged e

pub answered_read : (t : List ℕ) (r : Reading) → read t ≡ got r → answered t ≡ judged r
answered_read t r e = answered_steps t ∙ bind_got judged e

pub judged_refused : (r : Reading) {n l o : ℕ} → weighed r ≡ refused n l o → judged r ≡ refused n l o
judged_refused r e = judged_steps tenths r ∙ bind_refused _ e

pub judged_weighed : (r : Reading) → weighed r ≡ got tt → judged r ≡ got (judgement (loaded r))
judged_weighed r e = judged_steps tenths r ∙ bind_got _ e

-- ---- its report
pub report_refused : (n l o : ℕ) → report_of (refused n l o) ≡ report_line n l o (map verdict_number no_judgement.verdicts) no_judgement.figures
unfolding report_of
report_refused n l o = refl

pub report_judged : (j : Judgement) → report_of (got j) ≡ report_line 0 0 0 (map verdict_number j.verdicts) j.figures
unfolding report_of
report_judged j = refl
