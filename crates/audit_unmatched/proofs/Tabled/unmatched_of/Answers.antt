-- `audit_unmatched::Tabled::unmatched_of` meets its contract: the states that the search from s
-- visited stamp what s matches. Assumes nothing.
use Rattle.std.proofs.Common.{◌∙◌, ap, refl, drop, map-id}
use Rattle.graph.specs.Hops.{count}
use Rattle.graph_check.specs.Internal.Places.{place_below}
use Rattle.audit_unmatched.proofs.Unmatched.{counted_unmatched, first_unmatched_lem, fresh_next}
use Rattle.audit_unmatched.proofs.Tabled.unmatched_of.Goals as goal

pub returns : goal.returns
returns c =
    let m = c.args.self.located.mapped in
    let h1 = m.hops1.now in
    let h2 = m.hops2.now in
    let past = drop m.shape1.states c.args.work.now.seen in
    let seen = map-id _ ∙ c.reach.ensures in
    let found = first_unmatched_lem m.shape1 h1 h2 m.map.now m.auditable.admitted.range c.args.self.silent.now c.args.self.chosen c.args.s.0
    past c.image-r.ensures.maps seen c.args.work.now.stamps _ c.stamp_all.ensures c.requires.fresh refl in
    record {
      counts =
          counted_unmatched m.shape1 h1 h2 m.map.now m.auditable.admitted.range c.args.self.silent.now c.args.self.chosen c.args.s.0
          past c.image-r.ensures.maps seen c.args.work.now.stamps _ c.stamp_all.ensures c.requires.fresh c.unstamped.ensures.counts;
      names = c.unstamped.ensures.names ∙ ap (place_below (count h2)) found;
      fresh =
          fresh_next m.shape1 h1 h2 m.map.now m.auditable.admitted.range c.args.self.silent.now c.args.self.chosen c.args.s.0
          past c.image-r.ensures.maps seen c.args.work.now.stamps _ c.stamp_all.ensures c.requires.fresh;
    }
