-- `inside` meets its contract: the first block chooses the weather, and the load stands after it: 5, 2.
use mathlib.Core.Path.{ap, sym, ◌∙◌}
use native.Mathlib.Omega.{arith}
use Rattle.book.specs.Book.{answered}
use Rattle.blocks.proofs.Answered.{was_refused, was_got, passed}
use Rattle.cursor.proofs.Heads.{begins_fault, begins_block}
use Rattle.frames.specs.FrameAnswers.{plain_condition}
use Rattle.frames.proofs.Frame.{nothing_inside, head_refused, inside_part, weather_refused, rest_length, load_refused, condition_got}
use Rattle.frames.proofs.inside.Goals as goal

pub returns-then-len-eq0 : goal.returns-then-len-eq0
returns-then-len-eq0 c = rw c.in_line.ensures (sym (ap (answered plain_condition) (nothing_inside _ _ c.args.frame.bytes c.args.frame.inside c.if-len-eq0.true)))

pub returns-in_err-head : goal.returns-in_err-head
returns-in_err-head c =
    passed _ _ c.from_residual.ensures.1 ∙ head_refused _ _ c.args.frame.bytes c.args.frame.inside _ _ c.new.ensures c.body-body.ensures (omega arith) _ _ (begins_fault _ _ _ _ c.begins.ensures _ c.in_err-head.was) (omega arith)

pub body-requires : goal.body-requires
body-requires c =
    let h = begins_block _ _ _ _ c.begins.ensures _ c.in_ok-head.was in
    (h.0, inside_part _ _ c.args.frame.bytes c.args.frame.inside _ _ c.new.ensures c.body-body.ensures _ c.requires h.0)

pub returns-in_err-weather : goal.returns-in_err-weather
returns-in_err-weather c =
    let h = begins_block _ _ _ _ c.begins.ensures _ c.in_ok-head.was in
    passed _ _ c.from_residual-in_err-weather.ensures.1
    ∙ weather_refused _ _ c.args.frame.bytes c.args.frame.inside _ _ c.new.ensures c.body-body.ensures _ _ _ h (omega arith) _ c.body.ensures _ (was_refused _ _ _ c.weather_at.ensures _ c.in_err-weather.was)

pub rest-requires : goal.rest-requires
rest-requires c =
    let h = begins_block _ _ _ _ c.begins.ensures _ c.in_ok-head.was in
    (h.0, inside_part _ _ c.args.frame.bytes c.args.frame.inside _ _ c.new.ensures c.body-body.ensures _ c.requires h.0)

pub load_at-requires : goal.load_at-requires
load_at-requires c =
    let h = begins_block _ _ _ _ c.begins.ensures _ c.in_ok-head.was in
    omega (arith, rest_length _ _ c.args.frame.bytes c.args.frame.inside _ _ c.new.ensures c.body-body.ensures _ _ _ h (omega arith) _ c.body.ensures _ c.rest.ensures, c.requires)

pub returns-in_err-sums : goal.returns-in_err-sums
returns-in_err-sums c =
    let h = begins_block _ _ _ _ c.begins.ensures _ c.in_ok-head.was in
    passed _ _ c.from_residual-in_err-sums.ensures.1
    ∙ load_refused _ _ c.args.frame.bytes c.args.frame.inside _ _ c.new.ensures c.body-body.ensures _ _ _ h (omega arith) _ c.body.ensures _ (was_got _ _ _ c.weather_at.ensures _ c.in_ok-weather.was) _ c.rest.ensures _ (was_refused _ _ _ c.load_at.ensures _ c.in_err-sums.was)

pub returns : goal.returns
returns c =
    let h = begins_block _ _ _ _ c.begins.ensures _ c.in_ok-head.was in
    condition_got _ _ c.args.frame.bytes c.args.frame.inside _ _ c.new.ensures c.body-body.ensures _ _ _ h (omega arith) _ c.body.ensures _ (was_got _ _ _ c.weather_at.ensures _ c.in_ok-weather.was) _ c.rest.ensures _ (was_got _ _ _ c.load_at.ensures _ c.in_ok-sums.was)
