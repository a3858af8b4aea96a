-- An iteration writes one record more (`Flats.antt`'s `done`), and all are written when the loop
-- ends.
use Rattle.std.proofs.Common.{◌≡◌, ℕ, ◌≤◌, ◌+◌, ◌∙◌, List, length, get_or, refl, arith, ap}
use Rattle.graph.specs.Hops.{between, count, flat}
use Rattle.graph.specs.Internal.Hops.{over, put, no_hop}
use Rattle.graph.proofs.Fronts.{over_flat}
use Rattle.mark_entry_records.proofs.Flats.{done, done_n, done_step}
use Rattle.mark_entry_records.proofs.flat_of.Goals as goal

pub loop-i-init : goal.loop-i-init
unfolding over flat
loop-i-init c = refl

pub loop-i-preserved : goal.loop-i-preserved
loop-i-preserved c =
    let ys = c.args.hops.now in
    let i = c.loop-i.i in
    let capacity : length ys ≤ count c.args.nums.now = omega arith in
    let more : put (done ys c.args.nums.now i) i (get_or ys i no_hop) ≡ done ys c.args.nums.now (i + 1) = done_step ys c.args.nums.now capacity i (omega arith) in
    c.put_hop.ensures ∙ (ap (λ (z : List ℕ). put z i (get_or ys i no_hop)) c.loop-i.invariant ∙ more)

pub returns-clause-flat : goal.returns-clause-flat
returns-clause-flat c =
    let ys = c.args.hops.now in
    let xs = c.args.nums.now in
    let all : c.loop-i.i ≡ length ys = omega arith in
    c.part.ensures.shows
    ∙ ap (λ (z : List ℕ). between z 0 (length ys)) (c.loop-i.invariant ∙ (ap (done ys xs) all ∙ done_n ys xs)) ∙ over_flat xs ys
