-- `instrument::judge_within` meets its contract: 9 with no room; else the refusal for the whole, or what is judged of each condition.
use mathlib.Core.Path.{refl, ap, ◌∙◌}
use native.Mathlib.Omega.{arith}
use lib.ListN.{length}
use Rattle.rules.proofs.booklet.Sent.{under_one}
use Rattle.rules.proofs.booklet.Room.{without_room, whole_refused, whole_got}
use Rattle.rules.proofs.walk.Refusals as refusals
use Rattle.std.specs.Prelude.{Err}
use Rattle.rules.specs.Outcome.{refused}
use Rattle.instrument.specs.Sent.{number_sent}
use Rattle.instrument.proofs.Sending.{placed}
use Rattle.instrument.proofs.Rooms.{few_conditions, room_enough, room_short, refused_whole, opened, given, whole_sends, sent_whole, sent_each, reply_within}
use Rattle.instrument.proofs.judge_within.Goals as goal

pub returns-then-report-lt-REPORT : goal.returns-then-report-lt-REPORT
returns-then-report-lt-REPORT c =
    let a = c.args in
    let p = given a.limit refl (under_one _ a.text.now a.report.now c.if-report-lt-REPORT.true) in
    record { number_value = p.0; length_value = p.1.0; report_after = p.1.1; within_buffer = omega arith }

pub overflow_mul-conditions : goal.overflow_mul-conditions
overflow_mul-conditions c = omega (arith, few_conditions _ _ c.read_text-read.result c.read_text-read.ensures)

pub returns-then-report-conditions : goal.returns-then-report-conditions
returns-then-report-conditions c =
    let a = c.args in
    let p = given a.limit c.min.ensures (without_room _ a.text.now a.report.now (room_short _ _ c.read_text-read.result c.read_text-read.ensures (length a.report.now) c.if-report-conditions.true)) in
    record { number_value = p.0; length_value = p.1.0; report_after = p.1.1; within_buffer = omega arith }

pub judge_conditions-requires : goal.judge_conditions-requires
judge_conditions-requires c =
    let o = opened _ _ c.read_text-read.result c.read_text-read.ensures _ c.in-Ok.is (omega (arith, c.min.ensures)) in
    rw c.in-Ok.front-is (o.booklet, o.opens, o.counted, omega (arith, c.if-report-conditions.false))

pub send-requires-clause-line_bound : goal.send-requires-clause-line_bound
send-requires-clause-line_bound c =
    let w = refused_whole _ _ c.read_text-read.result c.read_text-read.ensures _ c.in-Err.is in
    let s = whole_sends _ _ (omega (arith, c.min.ensures)) w.is in
    placed (refused w.number w.line w.offset) (refusals.plain s) _ (ap Err w.told)

pub returns-in-Ok : goal.returns-in-Ok
returns-in-Ok c =
    let a = c.args in
    let o = opened _ _ c.read_text-read.result c.read_text-read.ensures _ c.in-Ok.is (omega (arith, c.min.ensures)) in
    let h = room_enough _ _ c.read_text-read.result c.read_text-read.ensures (length a.report.now) c.if-report-lt-REPORT.false c.if-report-conditions.false in
    let J = rw c.in-Ok.front-is at c.judge_conditions.ensures in
    let p = given a.limit c.min.ensures (sent_each o.booklet (J o.booklet o.opens) o.counted (whole_got _ a.text.now a.report.now h o.booklet o.read)) in
    record { number_value = c.number_sent.ensures ∙ p.0; length_value = p.1.0; report_after = p.1.1; within_buffer = omega (arith, reply_within a.limit a.text.now a.report.now _ p) }

pub returns-in-Err : goal.returns-in-Err
returns-in-Err c =
    let a = c.args in
    let w = refused_whole _ _ c.read_text-read.result c.read_text-read.ensures _ c.in-Err.is in
    let h = room_enough _ _ c.read_text-read.result c.read_text-read.ensures (length a.report.now) c.if-report-lt-REPORT.false c.if-report-conditions.false in
    let s = whole_sends _ _ (omega (arith, c.min.ensures)) w.is in
    let p = given a.limit c.min.ensures (sent_whole _ w.told s c.send.ensures.report_after (whole_refused _ a.text.now a.report.now h w.is)) in
    record { number_value = c.number_sent-in-Err.ensures ∙ ap number_sent c.send.ensures.fault ∙ p.0; length_value = p.1.0; report_after = p.1.1; within_buffer = omega (arith, reply_within a.limit a.text.now a.report.now _ p) }
