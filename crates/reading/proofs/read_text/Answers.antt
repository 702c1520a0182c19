-- What is left of the text, from the state, the rows and the tally reached so far, comes to what the whole comes to.
use mathlib.Core.Path.{ap, sym, ◌∙◌}
use native.Mathlib.Omega.{arith}
use borrow.Author.Rules.{rules}
use Rattle.std.specs.Prelude.{Ok}
use Rattle.frames.specs.Sizes.{row_bytes}
use Rattle.reading.specs.TextAnswers.{refused_read}
use Rattle.reading.proofs.Lines.{read_long, reached_none, reached_not, reached_end, line_within, room_here, reached_more}
use Rattle.reading.proofs.read_text.Goals as goal
use Rattle.reading.proofs.read_text.Goals.{in-Some-row, in_default-row}

pub returns-then-most-text : goal.returns-then-most-text
returns-then-most-text c = c.refused.ensures ∙ ap (λ r. refused_read r 0) c.into.ensures ∙ sym (read_long c.args.most c.args.text.now (omega arith))

pub loop-read-init : goal.loop-read-init
loop-read-init c = rw c.new-rows.ensures (reached_none c.args.most c.args.text.now (search rules) (omega arith))

pub returns-in_default : goal.returns-in_default
returns-in_default c =
    c.refused-in_default.ensures ∙ ap (λ r. refused_read r 0) c.in_line.ensures ∙ reached_not c.loop-read.invariant c.line_at.result c.line_at.ensures.0 c.in_default.is

pub returns-in_default-read : goal.returns-in_default-read
returns-in_default-read c = c.finish.ensures ∙ reached_end c.loop-read.invariant c.line_at.result c.line_at.ensures.0 (c.in-Ok.is ∙ ap Ok c.in_default-read.is)

-- A line stands here.
pub push-requires : goal.push-requires
unfolding row_bytes
push-requires c =
    let i = c.loop-read in
    let l = c.line_at in
    let h = c.new-held in
    let is = c.in-Ok.is ∙ ap Ok c.in-Some.is in
    room_here i.invariant _ l.ensures.0 _ is i.bytes l.new.out l.ensures.1 h.result (search rules) h.ensures.0 h.ensures.1 h.ensures.2 c.moved-moved.result c.moved-moved.ensures (omega (arith, c.len.ensures.value)) _ c.in-Some-row.is

pub overflow_mul-rest : goal.overflow_mul-rest
overflow_mul-rest c =
    let within = line_within c.loop-read.invariant _ c.line_at.ensures.0 c.in-Some.n (c.in-Ok.is ∙ ap Ok c.in-Some.is) in
    omega (arith, within, c.loop-read.invariant.within, c.loop-read.invariant.room)

pub overflow_add-rest : goal.overflow_add-rest
overflow_add-rest c =
    let within = line_within c.loop-read.invariant _ c.line_at.ensures.0 c.in-Some.n (c.in-Ok.is ∙ ap Ok c.in-Some.is) in
    omega (arith, within, c.loop-read.invariant.within, c.loop-read.invariant.room)

pub slice_bounds-rest-count : goal.slice_bounds-rest-count
slice_bounds-rest-count c = line_within c.loop-read.invariant _ c.line_at.ensures.0 c.in-Some.n (c.in-Ok.is ∙ ap Ok c.in-Some.is)

pub slice_bounds-rest-start : goal.slice_bounds-rest-start
slice_bounds-rest-start c = line_within c.loop-read.invariant _ c.line_at.ensures.0 c.in-Some.n (c.in-Ok.is ∙ ap Ok c.in-Some.is)

pub loop-read-smaller : goal.loop-read-smaller
loop-read-smaller c =
    let within = line_within c.loop-read.invariant _ c.line_at.ensures.0 c.in-Some.n (c.in-Ok.is ∙ ap Ok c.in-Some.is) in
    omega (arith, within)

pub loop-read-preserved : goal.loop-read-preserved
unfolding row_bytes
loop-read-preserved c =
    let i = c.loop-read in
    let l = c.line_at in
    let h = c.new-held in
    let is = c.in-Ok.is ∙ ap Ok c.in-Some.is in
    reached_more i.invariant _ l.ensures.0 _ is i.bytes l.new.out l.ensures.1 h.result (search rules) h.ensures.0 h.ensures.1 h.ensures.2 c.moved-moved.result c.moved-moved.ensures (omega (arith, c.len.ensures.value)) c.tallied-tally.result c.tallied-tally.ensures c.match-moved.rows
    (elim c.match-moved.branch [ in-Some-row w ↦ rw (w.rows-is, w.in-Some-row.is, w.push.ensures) | in_default-row w ↦ rw (w.rows-is, w.in_default-row.is) ])
