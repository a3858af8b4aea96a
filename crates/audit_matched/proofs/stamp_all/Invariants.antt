-- The loop of `audit_matched::stamp_all`: the stamps are those of the hops of the states passed so
-- far. Assumes nothing.
use Rattle.std.proofs.Common.{map}
use Rattle.graph.specs.Search.{first_of}
use Rattle.audit_matched.specs.Internal.Stamps.{StampedUpTo}
use Rattle.audit_matched.proofs.stamp_all.Given as goal

abbrev pub invariant-loop-u : goal.invariant-loop-u
invariant-loop-u g l =
    let h1 = l.located.mapped.hops1.now in
    StampedUpTo h1 l.located.mapped.hops2.now l.located.mapped.map.now (map g.F.Flag.raised l.seen) l.r.0 l.k (first_of h1 l.u) l.initial.stamps l.stamps
