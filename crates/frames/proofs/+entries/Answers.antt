-- `entries` meets its contract: a turn of the loop reads a block; an entry is added, a group is read first, as its own body, and what is left stands after it.
use mathlib.Core.Path.{refl, ap, sym, ◌∙◌}
use Prim.Native.Nat.{◌+◌}
use native.Mathlib.Omega.{arith}
use lib.ListN.{length}
use borrow.Author.Tests.{eqb-true, eqb-false}
use Rattle.std.specs.Prelude.{Ok, Err}
use Rattle.std.proofs.lemmas.Result.{IfOk-at_ok}
use Rattle.rules.proofs.layout.Parts.{length_part}
use Rattle.rules.proofs.walk.BlockExits.{entries_empty, entries_short}
use Rattle.book.specs.Book.{answered}
use Rattle.blocks.proofs.Answered.{was_refused, was_got, passed}
use Rattle.cursor.proofs.Heads.{begins_fault, begins_block}
use Rattle.frames.specs.Sums.{Bounded}
use Rattle.frames.specs.FrameAnswers.{on_top}
use Rattle.frames.proofs.Adding.{plus_end}
use Rattle.frames.proofs.Load.{body_length, refused_here, Behind, room_for, behind_entry, deep, refused_inside, behind_group, one_further}
use Rattle.frames.proofs.+entries.Goals as goal
use Rattle.frames.proofs.+entries.Goals.{in-Entry, in-Group+in_ok-sums-in-Group}

pub loop-rest-init : goal.loop-rest-init
loop-rest-init t c = record { placed = c.requires.0; bounded = c.requires.1; same = refl }

pub returns-in_err-head-clause-sums : goal.returns-in_err-head-clause-sums
returns-in_err-head-clause-sums t c =
    let h = begins_fault _ _ _ _ c.begins.ensures _ (c.in_err-head.was) in
    passed _ _ c.from_residual.ensures.1 ∙ ap Err h.0 ∙ sym (ap (answered (on_top _)) (entries_short c.loop-rest.rest.src.now _ _ _ _ (let n = eqb-false (length c.loop-rest.rest.src.now) 0 (sym c.is_empty.ensures ∙ c.loop-rest-test.true) in omega arith) h.1)) ∙ c.loop-rest.invariant.same

pub body-body-requires : goal.body-body-requires
body-body-requires t c = let h = begins_block _ _ _ _ c.begins.ensures _ (c.in_ok-head.was) in (h.0, omega (arith, h.0, c.loop-rest.invariant.placed))

pub overflow_sub-left : goal.overflow_sub-left
overflow_sub-left t c = c.loop-rest.invariant.bounded.count

pub returns-in_err-e-clause-sums : goal.returns-in_err-e-clause-sums
returns-in_err-e-clause-sums t c =
    let h = begins_block _ _ _ _ c.begins.ensures _ (c.in_ok-head.was) in
    passed _ _ c.from_residual-in_err-e.ensures.1 ∙ refused_here _ _ _ c.loop-rest.rest _ c.loop-rest.sums h.0 h.1 c.body-body.ensures _ (was_refused _ _ _ c.block_at.ensures _ (c.in_err-e.was)) ∙ c.loop-rest.invariant.same

pub add-sums-requires : goal.add-sums-requires
add-sums-requires t c =
    let h = begins_block _ _ _ _ c.begins.ensures _ (c.in_ok-head.was) in
    let m = room_for _ _ _ c.loop-rest.rest _ c.loop-rest.sums h.0 h.1 c.body-body.ensures _ (was_got _ _ _ c.block_at.ensures _ (c.in_ok-e.was ∙ ap Ok c.in-Entry.is)) in
    (c.loop-rest.invariant.bounded, m.0, m.1)

pub overflow_sub-depth : goal.overflow_sub-depth
overflow_sub-depth t c =
    let h = begins_block _ _ _ _ c.begins.ensures _ (c.in_ok-head.was) in
    deep _ _ _ c.loop-rest.rest _ c.loop-rest.sums h.0 h.1 c.body-body.ensures (was_got _ _ _ c.block_at.ensures _ (c.in_ok-e.was ∙ ap Ok c.in-Group.is))

pub entries-requires : goal.entries-requires
entries-requires t c =
    let h = begins_block _ _ _ _ c.begins.ensures _ (c.in_ok-head.was) in
    let d = deep _ _ _ c.loop-rest.rest _ c.loop-rest.sums h.0 h.1 c.body-body.ensures (was_got _ _ _ c.block_at.ensures _ (c.in_ok-e.was ∙ ap Ok c.in-Group.is)) in
    let l = body_length c.args.depth _ _ c.loop-rest.rest _ c.loop-rest.sums h.0 h.1 c.body-body.ensures in
    (omega (arith, c.decreases, d), (rw c.body-body.ensures.place (omega (arith, h.0, l, c.loop-rest.invariant.placed)), c.loop-rest.invariant.bounded))

pub returns-in_err-sums-in-Group-clause-sums : goal.returns-in_err-sums-in-Group-clause-sums
returns-in_err-sums-in-Group-clause-sums t c =
    let h = begins_block _ _ _ _ c.begins.ensures _ (c.in_ok-head.was) in
    passed _ _ c.from_residual-in_err-sums-in-Group.ensures.1
    ∙ refused_inside _ _ _ c.loop-rest.rest _ c.loop-rest.sums h.0 h.1 c.body-body.ensures (was_got _ _ _ c.block_at.ensures _ (c.in_ok-e.was ∙ ap Ok c.in-Group.is)) _ (was_refused _ _ _ c.entries.ensures.sums _ (c.in_err-sums-in-Group.was))
    ∙ c.loop-rest.invariant.same

pub rest-rest-requires : goal.rest-rest-requires
rest-rest-requires t c = let h = begins_block _ _ _ _ c.begins.ensures _ (c.in_ok-head.was) in (h.0, omega (arith, h.0, c.loop-rest.invariant.placed))

pub loop-rest-smaller : goal.loop-rest-smaller
loop-rest-smaller t c =
    let h = begins_block _ _ _ _ c.begins.ensures _ c.in_ok-head.was in
    let l = ap length c.rest-rest.ensures.bytes ∙ length_part c.loop-rest.rest.src.now (3 + c.in_ok-head.head.len) (length c.loop-rest.rest.src.now) (omega arith) in
    omega (arith, l, h.0)

pub loop-rest-preserved : goal.loop-rest-preserved
loop-rest-preserved t c =
    let h = begins_block _ _ _ _ c.begins.ensures _ (c.in_ok-head.was) in
    let p = c.loop-rest.invariant in
    let k : Behind _ _ _ c.loop-rest.rest _ c.loop-rest.sums h.0 h.1 c.body-body.ensures c.match-branch-3.sums = elim c.match-branch-3.branch [
      | in-Entry w ↦ rw w.sums-is (behind_entry _ _ _ c.loop-rest.rest _ c.loop-rest.sums h.0 h.1 c.body-body.ensures _ _ p.bounded (was_got _ _ _ c.block_at.ensures _ (c.in_ok-e.was ∙ ap Ok w.in-Entry.is)) w.add-sums.ensures)
      | in-Group+in_ok-sums-in-Group w ↦
          let g = was_got _ _ _ c.block_at.ensures _ (c.in_ok-e.was ∙ ap Ok w.in-Group.is) in
          rw w.sums-is (behind_group _ _ _ c.loop-rest.rest _ c.loop-rest.sums h.0 h.1 c.body-body.ensures g _ (IfOk-at_ok Bounded w.in_ok-sums-in-Group.was w.entries.ensures.bounded) (was_got _ _ _ w.entries.ensures.sums _ w.in_ok-sums-in-Group.was))
    ] in
    one_further _ _ _ _ _ _ _ _ p h.0 c.rest-rest.ensures k.0 k.1

pub returns-clause-sums : goal.returns-clause-sums
returns-clause-sums t c = ap Ok (sym (plus_end _)) ∙ sym (ap (answered (on_top _)) (entries_empty _ _ _ _ _ (eqb-true (length c.loop-rest.rest.src.now) 0 (sym c.is_empty.ensures ∙ c.loop-rest-test.false)))) ∙ c.loop-rest.invariant.same
