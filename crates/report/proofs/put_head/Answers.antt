-- Eight bytes, of which line and offset are two each.
use Rattle.std.proofs.Common.{◌≡◌, ◌∙◌, div-one, rules}
use Rattle.rules.specs.Numbers.{digits}
use Rattle.report.proofs.Digits.{be_bytes_two}
use Rattle.report.proofs.put_head.Goals as goal

pub returns : goal.returns
unfolding digits
returns c =
    let p = c.args.heading in
    let line : c.to_be_bytes-line.result ≡ digits 2 p.line = c.to_be_bytes-line.ensures ∙ be_bytes_two p.line (search rules) in
    let offset : c.to_be_bytes-offset.result ≡ digits 2 p.offset = c.to_be_bytes-offset.ensures ∙ be_bytes_two p.offset (search rules) in
    rw (c.copy_from_slice.ensures.after, line, offset, div-one c.args.heading.number)
