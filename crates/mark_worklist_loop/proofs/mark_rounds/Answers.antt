-- The first round tests every silent hop, and the later ones go on from there. Assumes nothing.
use Rattle.std.proofs.Common.{◌≤◌, length, refl, arith}
use Rattle.std.proofs.lemmas.List.{length-take-le}
use Rattle.graph.specs.Hops.{count}
use Rattle.mark_confluence.specs.Rounds.{survives, marked}
use Rattle.mark_confluence.proofs.Marks.{marks_over}
use Rattle.mark_worklist_loop.proofs.Rounds.{after_first, after_still, after_itself, after_tests, after_marks}
use Rattle.mark_worklist_loop.proofs.mark_rounds.Goals as goal

pub returns-then-lost-eq0-clause-tests : goal.returns-then-lost-eq0-clause-tests
returns-then-lost-eq0-clause-tests c =
    let hs = c.args.index.hops.now in
    let n = c.list_silent-n in
    let many = length-take-le n.result n.new.queue (omega (arith, n.ensures.within, n.array_long)) in
    after_tests hs (after_still hs _ _ c.requires c.start_marks.ensures many n.ensures.lists (rw c.if-lost-eq0.true at c.test_first-lost.ensures.tested)) refl

pub returns-then-lost-eq0-clause-writes : goal.returns-then-lost-eq0-clause-writes
returns-then-lost-eq0-clause-writes c =
    let hs = c.args.index.hops.now in
    let n = c.list_silent-n in
    let many = length-take-le n.result n.new.queue (omega (arith, n.ensures.within, n.array_long)) in
    after_marks hs (after_still hs _ _ c.requires c.start_marks.ensures many n.ensures.lists (rw c.if-lost-eq0.true at c.test_first-lost.ensures.tested)) refl

pub later_rounds-requires-clause-after : goal.later_rounds-requires-clause-after
later_rounds-requires-clause-after c =
    let hs = c.args.index.hops.now in
    let n = c.list_silent-n in
    let many = length-take-le n.result n.new.queue (omega (arith, n.ensures.within, n.array_long)) in
    let m : count hs ≤ length c.unmark_fallen.new.marks = omega arith in
    (0, after_itself hs m (after_first hs _ _ c.requires c.start_marks.ensures many n.ensures.lists c.test_first-lost.ensures.tested c.unmark_fallen.ensures m))

pub returns-clause-writes : goal.returns-clause-writes
returns-clause-writes c =
    let hs = c.args.index.hops.now in
    let n = c.list_silent-n in
    let many = length-take-le n.result n.new.queue (omega (arith, n.ensures.within, n.array_long)) in
    let m : count hs ≤ length c.unmark_fallen.new.marks = omega arith in
    let a = after_first hs _ _ c.requires c.start_marks.ensures many n.ensures.lists c.test_first-lost.ensures.tested c.unmark_fallen.ensures m in
    marks_over hs (marked hs) (survives hs 1) c.args.marks.now a.marks c.later_rounds.ensures.writes
