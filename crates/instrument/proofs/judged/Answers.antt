-- `judged` meets its contract: the line's own refusal, 7 or 8 by the weighing, else the judgement of the loaded ship.
use mathlib.Core.Path.{ap, sym, ◌∙◌}
use Rattle.std.proofs.Common.{rules}
use Rattle.std.proofs.lemmas.Result.{err_from_is_err_and}
use Rattle.book.specs.Book.{answered, judgement_of}
use Rattle.instrument.proofs.Judging.{sound_of, whole_of, outside_is, in_table_lem, fair_of, judged_is, line_refused, line_read}
use Rattle.instrument.proofs.judged.Goals as goal

pub returns-in_err-condition : goal.returns-in_err-condition
returns-in_err-condition c = λ s vs ln l T. let e = line_refused s vs ln l _ _ _ T _ c.in_err-condition.was in search rules

pub weigh-requires : goal.weigh-requires
weigh-requires c = let P = c.requires in let k = line_read P.0 P.1 P.2 P.3 _ _ _ P.4 _ c.in_ok-condition.was in sound_of _ _ _ _ k.2

pub returns-in_err-weight : goal.returns-in_err-weight
returns-in_err-weight c = λ s vs ln l T.
    let k = line_read s vs ln l _ _ _ T _ c.in_ok-condition.was in
    let p = err_from_is_err_and _ c.from_residual-in_err-weight.ensures.1 in
    p.1 ∙ outside_is _ _ _ _ k.2 _ c.weigh.ensures _ c.in_err-weight.was _ p.2 ∙ sym (ap (answered judgement_of) k.1)

pub loaded-loaded-requires : goal.loaded-loaded-requires
loaded-loaded-requires c =
    let P = c.requires in
    let k = line_read P.0 P.1 P.2 P.3 _ _ _ P.4 _ c.in_ok-condition.was in
    (whole_of _ _ _ _ k.2, in_table_lem _ _ _ _ k.2 _ c.weigh.ensures _ c.in_ok-weight.was)

pub judge-requires : goal.judge-requires
judge-requires c =
    let P = c.requires in
    let k = line_read P.0 P.1 P.2 P.3 _ _ _ P.4 _ c.in_ok-condition.was in
    fair_of _ _ _ _ k.2 _ c.weigh.ensures _ c.in_ok-weight.was _ c.loaded-loaded.ensures

pub returns : goal.returns
returns c = λ s vs ln l T.
    let k = line_read s vs ln l _ _ _ T _ c.in_ok-condition.was in
    judged_is _ _ _ _ k.2 _ c.weigh.ensures _ c.in_ok-weight.was _ c.loaded-loaded.ensures _ c.judge.ensures ∙ sym (ap (answered judgement_of) k.1)
