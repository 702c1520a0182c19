-- `is_smooth` meets its contract: window after window.
use mathlib.Core.Path.{◌≡◌, subst}
use Rattle.std.proofs.Common.{rules, arith, tests}
use Rattle.std.specs.Iterator.Runs.{IsWindowsRun}
use Rattle.blocks.proofs.Stations.{windows_said}
use Rattle.blocks.proofs.row.is_smooth.Goals as goal

pub returns : goal.returns
returns c =
    let p = c.all.ensures.runs.0 in
    let n : p.from.size ≡ 3 = cc in
    let e : p.from.rest.now ≡ c.args.kn = cc in
    windows_said p c.args.kn (subst (λ xs. IsWindowsRun p 3 xs) e (subst (λ k. IsWindowsRun p k p.from.rest.now) n (c.windows.ensures.runs p p.seen (omega arith)))) c.all.result c.all.ensures.runs.2 (λ a r g k. search (rules, tests)) (λ x b. search (rules, tests)) (λ x b. search (rules, tests))
