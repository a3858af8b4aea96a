-- The flags of the states are those of the table, and what is ranked is written back. Assumes
-- nothing.
use mathlib.Core.Logic.{⊎_elim}
use native.Mathlib.Omega.{arith}
use Rattle.std.proofs.Common.{◌≡◌, ◌∙◌, ◌+◌, ◌≤◌, ap, map, sym}
use Rattle.base_bounded.specs.Quantifiers.{tally}
use Rattle.base_bounded.proofs.Bools.{or_left, or_yes}
use Rattle.base_bounded.proofs.Quantifiers.{tally_same, tally_mono}
use Rattle.walk_reach.specs.Internal.Frontier.{visited}
use Rattle.walk_acyclic.specs.Internal.Ranks.{OffRings}
use Rattle.walk_acyclic.proofs.rank_all.Goals as goal

pub invariant_of-ranking : goal.invariant_of-ranking
invariant_of-ranking g c = record { unringed = λ t l e w. c.requires.unringed t l (sym (c.flags_of.ensures t l) ∙ e) w }

pub returns-clause-unringed : goal.returns-clause-unringed
returns-clause-unringed g c =
    let k = c.rank_all-got.new.self in
    let unringed : OffRings c.args.graph.index.hops.now c.args.graph.shape.states k.ranked = rw c.rank_all-got.ensures.same_graph at k.unringed in
    λ t l e w. ⊎_elim (λ d. unringed t l d w) (λ d. c.requires.unringed t l d w) (or_yes _ _ (sym (c.put_flags.ensures.states t l) ∙ e))

pub returns-clause-gained : goal.returns-clause-gained
returns-clause-gained g c =
    let n = c.args.graph.shape.states in
    let old = visited (map g.F.Flag.raised c.args.ranked.now) in
    let new = visited (map g.F.Flag.raised c.put_flags.new.ranked) in
    let flags = visited c.rank_all-got.new.self.ranked in
    let read : tally n (visited c.flags_of.result) ≡ tally n old = tally_same _ _ n (λ t l. c.flags_of.ensures t l) in
    let put : tally n flags ≤ tally n new = tally_mono flags new n (λ t l e. c.put_flags.ensures.states t l ∙ or_left (old t) e) in
    let more : tally n (visited c.flags_of.result) + c.rank_all-got.result ≤ tally n flags =
    rw (ap (λ h. h.shape.states) c.rank_all-got.ensures.same_graph) at c.rank_all-got.ensures.gained in
    omega arith
