-- `judge_conditions` meets its contract: what is left of the text, of the buffer and of the first fault comes to what the whole comes to.
use mathlib.Core.Path.{◌≡◌, refl, ap, ◌∙◌}
use mathlib.Core.List.{◌++◌}
use Prim.Native.Nat.{◌+◌, ◌*◌}
use native.Mathlib.Omega.{arith}
use native.Mathlib.Nat.{add-zero}
use lib.ListN.{length, drop}
use Rattle.rules.specs.Parts.{part}
use Rattle.rules.specs.Report.{report_length}
use Rattle.report.specs.Said.{said}
use Rattle.reading.proofs.ConditionLines.{room_kept}
use Rattle.instrument.specs.Sent.{fault_in, number_sent}
use Rattle.instrument.proofs.Sending.{placed, numbered, reported, first_or}
use Rattle.instrument.proofs.Booklet.{one_booklet, start_within, going_start, first, goes_on, sends, says, taken_within, going_next, going_end}
use Rattle.instrument.proofs.judge_conditions.Goals as goal

pub slice_bounds-rest-count : goal.slice_bounds-rest-count
slice_bounds-rest-count c = omega (arith, start_within c.requires.0 c.args.text.now c.args.front.now c.requires.1 c.args.report.now)

pub slice_bounds-rest-start : goal.slice_bounds-rest-start
slice_bounds-rest-start c = omega (arith, start_within c.requires.0 c.args.text.now c.args.front.now c.requires.1 c.args.report.now)

pub loop-k-init : goal.loop-k-init
loop-k-init c =
    let P = c.requires in
    (refl, (P.0, P.1, P.2, rw (add-zero (2 + length c.as_slice-rows.result.now), c.as_slice-rows.ensures.value) (going_start P.0 c.args.text.now c.args.front.now P.1 c.args.report.now (omega (arith, P.2, P.3)))))

pub judged-answer-requires : goal.judged-answer-requires
judged-answer-requires c =
    let g = c.loop-k.invariant.1 in
    let some = goes_on g.0 _ _ g.1 _ g.3 (omega (arith, g.3.counted, g.3.stands, g.2, c.loop-k-test.true)) in
    (g.0.ship, g.0.rows, _, (first g.0 _ _ g.1 _ g.3 some).line, says g.0 _ _ g.1 _ g.3 some _ c.as_slice-rows.ensures.value c.read_condition-condition.result c.read_condition-condition.ensures.0)

pub send-fault-requires-clause-line_bound : goal.send-fault-requires-clause-line_bound
send-fault-requires-clause-line_bound c =
    let g = c.loop-k.invariant.1 in
    let some = goes_on g.0 _ _ g.1 _ g.3 (omega (arith, g.3.counted, g.3.stands, g.2, c.loop-k-test.true)) in
    let T = says g.0 _ _ g.1 _ g.3 some _ c.as_slice-rows.ensures.value c.read_condition-condition.result c.read_condition-condition.ensures.0 in
    placed _ (sends g.0 _ _ g.1 _ g.3 some) c.judged-answer.result (c.judged-answer.ensures g.0.ship g.0.rows _ _ T)

pub slice_bounds-rest-count-in-loop-k : goal.slice_bounds-rest-count-in-loop-k
slice_bounds-rest-count-in-loop-k c =
    let g = c.loop-k.invariant.1 in
    let some = goes_on g.0 _ _ g.1 _ g.3 (omega (arith, g.3.counted, g.3.stands, g.2, c.loop-k-test.true)) in
    omega (arith, taken_within g.0 _ _ g.1 _ g.3 some c.read_condition-condition.result c.read_condition-condition.ensures.0)

pub slice_bounds-rest-start-in-loop-k : goal.slice_bounds-rest-start-in-loop-k
slice_bounds-rest-start-in-loop-k c =
    let g = c.loop-k.invariant.1 in
    let some = goes_on g.0 _ _ g.1 _ g.3 (omega (arith, g.3.counted, g.3.stands, g.2, c.loop-k-test.true)) in
    omega (arith, taken_within g.0 _ _ g.1 _ g.3 some c.read_condition-condition.result c.read_condition-condition.ensures.0)

pub loop-k-preserved : goal.loop-k-preserved
loop-k-preserved c =
    let g = c.loop-k.invariant.1 in
    let k = c.loop-k.k in
    let rows = c.as_slice-rows.result.now in
    let some = goes_on g.0 _ _ g.1 _ g.3 (omega (arith, g.3.counted, g.3.stands, g.2, c.loop-k-test.true)) in
    let r = c.read_condition-condition in
    let f = first g.0 _ _ g.1 _ g.3 some in
    let R = sends g.0 _ _ g.1 _ g.3 some in
    let T = says g.0 _ _ g.1 _ g.3 some rows c.as_slice-rows.ensures.value r.result r.ensures.0 in
    let e = c.judged-answer.ensures g.0.ship g.0.rows _ f.line T in
    let line : 2 + length rows + (k + 1) ≡ 2 + length rows + k + 1 = omega arith in
    let at : report_length * (k + 1) ≡ report_length * k + report_length = omega arith in
    let N = ap number_sent c.send-fault.ensures.fault ∙ ap (λ x. number_sent (fault_in x)) e ∙ numbered _ R in
    let W = c.send-fault.ensures.report_after ∙ ap (λ x. said x ++ drop report_length (part (report_length * k) (report_length * k + report_length) c.loop-k.report)) e ∙ ap (λ x. x ++ drop report_length (part (report_length * k) (report_length * k + report_length) c.loop-k.report)) (reported _ R) in
    (room_kept _ _ _ r.ensures.1 ∙ c.loop-k.invariant.0, (g.0, g.1, g.2, rw (line, at, c.or-first.ensures, first_or c.loop-k.first c.send-fault.result) (going_next g.0 _ _ g.1 _ g.3 some r.result r.ensures.0 N W)))

pub returns : goal.returns
returns c = λ b O.
    let g = c.loop-k.invariant.1 in
    rw (one_booklet O g.1) (going_end g.0 _ _ g.1 _ g.3 (omega (arith, g.3.counted, g.3.stands, g.2, c.loop-k-test.false)))
