-- `rounding::table_up` meets its contract: from each point on, the table is what it is from its first point on. Assumes nothing.
use native.Mathlib.Omega.{arith}
use mathlib.Core.Path.{sym, ◌∙◌}
use Rattle.std.proofs.lemmas.List.{nil_from_length}
use Rattle.rules.specs.Rounding.{up, table}
use Rattle.rounding.proofs.TablePoints.{first_small, each_small, from_first, from_last, from_between, from_past}
use Rattle.rounding.proofs.table_up.Goals as goal

pub returns-in_default : goal.returns-in_default
unfolding table
returns-in_default c = rw (nil_from_length c.args.points.now c.in_default.ensures.cases)

pub loop-to-init : goal.loop-to-init
loop-to-init c =
    let t = c.in-Some.ensures.cases.0 in
    record {
      before = omega (arith, c.max-at.ensures);
      value = (first_small _ c.in-Some.others.now (rw t at c.requires)).0.1;
      onward = rw (t, c.max-at.ensures) (from_first up _ _ _);
    }

pub line-requires : goal.line-requires
line-requires c =
    let t = c.in-Some.ensures.cases.0 in
    let to = each_small _ (first_small c.in-Some.field-0-0.now c.in-Some.others.now (rw t at c.requires)).1 _ _ c.loop-to-test.true in
    record { rise = omega (arith, c.if-at-to, c.loop-to); from = c.loop-to.invariant.before; to = omega (arith, c.if-at-to.true); far = omega (arith, to.0); first = c.loop-to.invariant.value; second = to.1 }

pub returns-then-at-to : goal.returns-then-at-to
returns-then-at-to c = c.line.ensures ∙ sym (from_between up _ _ _ _ _ c.loop-to-test.true c.if-at-to.true) ∙ c.loop-to.invariant.onward

pub loop-to-preserved : goal.loop-to-preserved
loop-to-preserved c = record {
  before = c.if-at-to.false;
  value = (each_small _ (first_small c.in-Some.field-0-0.now c.in-Some.others.now (rw c.in-Some.ensures.cases.0 at c.requires)).1 _ _ c.loop-to-test.true).1;
  onward = sym (from_past up _ _ _ _ _ c.loop-to-test.true c.if-at-to.false) ∙ c.loop-to.invariant.onward;
}

pub returns : goal.returns
returns c = sym (from_last up _ _ _ _ c.loop-to-test.false) ∙ c.loop-to.invariant.onward
