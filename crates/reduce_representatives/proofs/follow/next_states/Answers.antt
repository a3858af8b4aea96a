-- One hop more is entered.
use Rattle.std.proofs.Common.{◌≡◌, ◌<◌, ◌-◌, suc, arith, rules}
use Rattle.graph.specs.Hops.{count}
use Rattle.reduce_representatives.specs.Internal.Tables.{IdentityTable, FromIn, NextTable}
use Rattle.reduce_representatives.proofs.Nexts.{ends_none, ends_next_state, entered_ends, length_entered}
use Rattle.reduce_representatives.proofs.follow.next_states.Goals as goal

pub loop-i-init : goal.loop-i-init
unfolding IdentityTable
loop-i-init c =
    record { long = search rules; ends = λ s l. rw c.hop_count-i.ensures (ends_none _ _ s _ (c.identity_table-next.ensures s l)) }

pub enter-requires-clause-tabled : goal.enter-requires-clause-tabled
unfolding FromIn
enter-requires-clause-tabled c = c.requires.tabled _ (omega arith)

pub loop-i-preserved : goal.loop-i-preserved
unfolding FromIn
loop-i-preserved c =
    let v = c.loop-i.invariant in
    let i = c.loop-i.i in
    let q : i ≡ suc (i - 1) = omega arith in
    let l : i - 1 < count c.args.hops.now = omega arith in
    let f = c.requires.tabled (i - 1) l in
    record {
      long = length_entered _ _ _ _ c.enter.ensures v.long;
      ends = λ s m. rw c.enter.ensures (entered_ends _ _ (i - 1) l _ _ (c.requires.marks.marks (i - 1) l) (omega arith) s (rw q at (v.ends s m)));
    }

pub returns : goal.returns
unfolding NextTable
returns c =
    let q : c.loop-i.i ≡ 0 = omega arith in
    λ s l. ends_next_state _ _ (rw q at (c.loop-i.invariant.ends s l))
