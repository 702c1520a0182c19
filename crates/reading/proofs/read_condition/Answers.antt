-- No line, one by its head, or the whole of one.
use mathlib.Core.Path.{◌≡◌, ap, sym, ◌∙◌}
use native.Mathlib.Omega.{arith}
use Rattle.std.specs.Prelude.{Some, Ok}
use Rattle.std.specs.Option.{option_flatten}
use Rattle.text.proofs.Decoded.{decoded_half}
use Rattle.text.proofs.Ended.{line_long}
use Rattle.reading.proofs.ConditionLines.{line_none, line_some, line_head, line_whole}
use Rattle.reading.proofs.read_condition.Goals as goal
use Rattle.reading.proofs.read_condition.Goals.{then-n-gt-CONDITION_BYTES, else-n-gt-CONDITION_BYTES}

pub returns-in_default : goal.returns-in_default
returns-in_default c =
    let e = c.line_at.ensures in
    (c.no_line.ensures ∙ line_none c.args.line c.args.text.now _ e.0 (ap option_flatten (sym c.ok.ensures.value) ∙ sym c.flatten.ensures ∙ c.in_default.is), e.1)

pub overflow_mul-result : goal.overflow_mul-result
overflow_mul-result c =
    let t = c.args.text.now in
    let some : c.line_at.result ≡ Ok (Some c.in-Some.n) = line_some _ _ (ap option_flatten (sym c.ok.ensures.value) ∙ sym c.flatten.ensures ∙ c.in-Some.is) in
    omega (arith, line_long t c.in-Some.n (sym c.line_at.ensures.0 ∙ some), decoded_half t)

pub overflow_add-result : goal.overflow_add-result
overflow_add-result c =
    let t = c.args.text.now in
    let some : c.line_at.result ≡ Ok (Some c.in-Some.n) = line_some _ _ (ap option_flatten (sym c.ok.ensures.value) ∙ sym c.flatten.ensures ∙ c.in-Some.is) in
    omega (arith, line_long t c.in-Some.n (sym c.line_at.ensures.0 ∙ some), decoded_half t)

pub returns : goal.returns
returns c =
    let a = c.args in
    let e = c.line_at.ensures in
    let some : c.line_at.result ≡ Ok (Some c.in-Some.n) = line_some _ _ (ap option_flatten (sym c.ok.ensures.value) ∙ sym c.flatten.ensures ∙ c.in-Some.is) in (
      elim c.if-n-gt-CONDITION_BYTES.branch [
        | then-n-gt-CONDITION_BYTES w ↦ rw w.read-is (line_head a.line a.text.now _ e.0 _ some _ _ e.1 c.requires w.if-n-gt-CONDITION_BYTES.true _ w.condition.ensures)
        | else-n-gt-CONDITION_BYTES w ↦ rw w.read-is (line_whole a.line a.text.now _ e.0 _ some _ _ e.1 c.requires w.if-n-gt-CONDITION_BYTES.false _ w.condition_frame-read.ensures)
      ],
      e.1,
    )
