-- The loop of `audit_matched::stamp_state`: the stamps are those of the hops passed so far. Assumes
-- nothing.
use Rattle.std.proofs.Common.{map}
use Rattle.graph.specs.Search.{first_of}
use Rattle.audit_matched.specs.Internal.Stamps.{StampedFrom}
use Rattle.audit_matched.proofs.stamp_state.Given as goal

abbrev pub invariant-loop-i : goal.invariant-loop-i
invariant-loop-i g l =
    let h1 = l.located.mapped.hops1.now in
    StampedFrom h1 l.located.mapped.hops2.now l.located.mapped.map.now (map g.F.Flag.raised l.seen) l.fn.r.0 l.k (first_of h1 l.fn.u.0) l.i l.initial.stamps
    l.stamps
