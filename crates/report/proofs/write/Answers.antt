-- The frame's characters and LF are the report's line; what follows keeps its value.
use Rattle.std.proofs.Common.{◌≡◌, ◌++◌, map, length, drop, sym, ap, ◌∙◌, arith}
use Rattle.rules.specs.Text.{LF, hex}
use Rattle.rules.specs.Blocks.{block}
use Rattle.rules.specs.Report.{report_tag, report_body, report_line}
use Rattle.book.specs.Book.{verdict_value}
use Rattle.report.specs.Said.{heading_of}
use Rattle.report.proofs.Parts.{stored}
use Rattle.rules.proofs.layout.Lines.{length_hex}
use Rattle.report.proofs.write.Goals as goal

pub returns : goal.returns
unfolding report_line
returns c =
    let h = heading_of c.args.refusal in
    let j = c.args.judgement in
    let l = c.args.report.now in
    let b = block report_tag (report_body h.number h.line h.offset (map verdict_value j.verdicts) j.figures) in
    let f : c.put_frame.new.frame ≡ b = rw (← c.headed-heading.ensures) c.put_frame.ensures in
    let n : length b ≡ 104 = sym (ap length f) ∙ c.put_frame.auto.frame in
    let e : c.put.new.out ≡ hex b ++ drop 208 l = rw (f, n) at c.put.ensures in
    rw e (stored (hex b) l 208 LF (length_hex b ∙ omega arith) (omega (arith, c.requires.report_length_in_bounds)))
