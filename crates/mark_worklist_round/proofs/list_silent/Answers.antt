-- A place is put behind the list, and stays in it if its hop is silent. Assumes nothing.
use Rattle.std.proofs.Common.{◌<◌, length, arith, length-set}
use Rattle.std.proofs.lemmas.List.{take-set, take_more_set}
use Rattle.mark_worklist_round.proofs.Parts.{lists_none, lists_more, lists_skip, first_yes, first_no}
use Rattle.mark_worklist_round.proofs.list_silent.Goals as goal
use Rattle.mark_worklist_round.proofs.list_silent.Goals.{then-is_silent, else-is_silent}

pub loop-i-init : goal.loop-i-init
loop-i-init c = record { capacity = c.told-queue; within = omega arith; listed = lists_none _ }

pub loop-i-preserved : goal.loop-i-preserved
loop-i-preserved c =
    let hs = c.args.hops.now in
    let v = c.loop-i.invariant in
    let e = c.label_at-is_silent.ensures in
    let fits : c.loop-i.n < length c.loop-i.queue = omega (arith, c.requires.hops_most, v.within, v.capacity) in
    elim c.if-is_silent.branch [
      | then-is_silent w ↦ rw w.n-is (record {
        capacity = simp length-set v.capacity;
        within = omega (arith, v.within);
        listed = rw (take_more_set c.loop-i.queue c.loop-i.n c.loop-i.i fits) (lists_more _ v.listed (first_yes hs _ e w.if-is_silent.true));
      })
      | else-is_silent w ↦ rw w.n-is (record {
        capacity = simp length-set v.capacity;
        within = omega (arith, v.within);
        listed = rw (take-set c.loop-i.queue c.loop-i.n c.loop-i.i) (lists_skip _ v.listed (first_no hs _ e w.if-is_silent.false));
      })
    ]
