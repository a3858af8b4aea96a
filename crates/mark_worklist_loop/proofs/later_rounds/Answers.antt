-- What is pushed is what the round tests, and testing it and taking the marks of what falls makes
-- the round. Assumes nothing.
use Rattle.std.proofs.Common.{◌≡◌, ℕ, ◌≤◌, Bool, false, List, [], length, take, refl, arith}
use Prim.Native.Nat.{suc}
use Rattle.std.proofs.lemmas.List.{length-replicate, length-take-le}
use lib.ListN.{replicate}
use Rattle.graph.specs.Hops.{count}
use Rattle.graph.specs.Answers.{most_hops}
use Rattle.mark_worklist_push.proofs.Pushing.{queue_none}
use Rattle.mark_worklist_loop.proofs.Rounds.{pushed_most, pushed_skipped, falls_listed, tested_queue, after_next, leaving_next, after_less, after_early, after_tests, after_marks, tests_most, none_set}
use Rattle.mark_worklist_loop.proofs.later_rounds.Goals as goal

-- the fallen hops are as many as `left` says
as_many : (xs : List ℕ) {n : ℕ} → length xs ≡ most_hops → n ≤ most_hops → length (take n xs) ≡ n
as_many xs {n} e l = length-take-le n xs (omega arith)

none_left : (xs : List ℕ) {n : ℕ} → n ≤ 0 → take n xs ≡ []
none_left xs {n} l = let z : n ≡ 0 = omega arith in rw z

pub loop-left-init : goal.loop-left-init
loop-left-init c =
    let hs = c.args.index.hops.now in
    let most : count hs ≤ most_hops = c.args.index.ready.hops_most in
    let l : count hs ≤ length (replicate most_hops false) = omega (arith, length-replicate {A = Bool} most_hops false) in
    record {
      leaving = c.leaving_of-leaving.ensures;
      queue = queue_none hs c.args.marks.now l (omega (arith, c.told-queue)) refl (none_set hs most);
      empty = refl;
      most = c.requires.lost;
      long = c.told-fallen;
      after = c.requires.after;
    }

pub next_queue-requires-clause-fallen : goal.next_queue-requires-clause-fallen
next_queue-requires-clause-fallen c = falls_listed c.args.index.hops.now c.loop-left.invariant.after.1.falls

pub overflow_add-sum : goal.overflow_add-sum
overflow_add-sum c =
    let hs = c.args.index.hops.now in
    let v = c.loop-left.invariant in
    let a = v.after.1 in
    let l = after_early hs a (omega (arith, as_many _ v.long v.most, c.loop-left-test.true)) in
    let most : count hs ≤ most_hops = c.args.index.ready.hops_most in
    omega (arith, pushed_most hs a v.empty v.queue c.next_queue.ensures, a.tests, tests_most hs (suc v.after.0) most)

pub test_dirty-left-requires-clause-most : goal.test_dirty-left-requires-clause-most
test_dirty-left-requires-clause-most c =
    let v = c.loop-left.invariant in
    omega (arith, pushed_most c.args.index.hops.now v.after.1 v.empty v.queue c.next_queue.ensures, c.args.index.ready.hops_most)

pub test_dirty-left-requires-clause-capacity : goal.test_dirty-left-requires-clause-capacity
test_dirty-left-requires-clause-capacity c =
    let v = c.loop-left.invariant in
    omega (arith, pushed_most c.args.index.hops.now v.after.1 v.empty v.queue c.next_queue.ensures, c.next_queue.ensures.queue.capacity)

pub test_dirty-left-requires-clause-clean : goal.test_dirty-left-requires-clause-clean
test_dirty-left-requires-clause-clean c =
    let v = c.loop-left.invariant in
    λ d e. pushed_skipped c.args.index.hops.now v.after.1 v.empty v.queue c.next_queue.ensures d e

pub loop-left-smaller : goal.loop-left-smaller
loop-left-smaller c =
    let hs = c.args.index.hops.now in
    let v = c.loop-left.invariant in
    let t = c.test_dirty-left in
    let m : count hs ≤ length c.unmark_fallen.new.marks = omega arith in
    after_less hs v.after.1 v.empty v.queue c.next_queue.ensures t.ensures.tested m c.unmark_fallen.ensures c.loop-left-test.true
    (λ l. omega (arith, l, as_many _ t.array_long t.ensures.within))

pub loop-left-preserved : goal.loop-left-preserved
loop-left-preserved c =
    let hs = c.args.index.hops.now in
    let v = c.loop-left.invariant in
    let a = v.after.1 in
    let g = c.next_queue.ensures in
    let t = c.test_dirty-left.ensures in
    let w = c.unmark_fallen.ensures in
    let m : count hs ≤ length c.unmark_fallen.new.marks = omega arith in
    record {
      leaving = leaving_next hs a v.empty v.queue g t.tested m w _ v.leaving;
      queue = tested_queue hs a v.empty v.queue g t.cleared t.emptied;
      empty = t.emptied.empty;
      most = t.within;
      long = c.test_dirty-left.array_long;
      after = (suc v.after.0, after_next hs a v.empty v.queue g t.tested m w);
    }

pub returns-clause-tests : goal.returns-clause-tests
returns-clause-tests c =
    after_tests c.args.index.hops.now c.loop-left.invariant.after.1 (none_left _ c.loop-left-test.false)

pub returns-clause-writes : goal.returns-clause-writes
returns-clause-writes c =
    after_marks c.args.index.hops.now c.loop-left.invariant.after.1 (none_left _ c.loop-left-test.false)
