-- The head, the verdicts and the figures fill the frame.
use Rattle.std.proofs.Common.{◌≡◌, map, length, rules}
use Rattle.book.specs.Book.{verdict_value}
use Rattle.report.proofs.Frame.{framed}
use Rattle.report.proofs.put_frame.Goals as goal

pub returns : goal.returns
returns c =
    let j = c.args.judgement in
    let p = c.args.heading in
    let eight : length (map verdict_value j.verdicts) ≡ 8 = search rules in
    let eleven : length j.figures ≡ 11 = search rules in
    rw (c.put_head.ensures, c.put_verdicts.ensures, c.put_figures.ensures)
    (framed p.number p.line p.offset (map verdict_value j.verdicts) j.figures eight eleven c.args.frame.now c.requires)
