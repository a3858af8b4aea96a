-- A silent hop of v is appended where there is capacity for it, and the row ends where none stands.
-- Assumes nothing.
use native.Mathlib.Omega.{arith}
use Rattle.std.proofs.Common.{◌∙◌, sym}
use Rattle.graph.proofs.Lookup.{first_within}
use Rattle.walk_topological_order.proofs.Rows.{putting_none, putting_own, putting_capacity, putting_more, putting_done}
use Rattle.walk_topological_order.proofs.put_row.Goals as goal

pub loop-i-init : goal.loop-i-init
loop-i-init c =
    rw c.first-i.ensures (putting_none (first_within c.args.graph.index.hops.now c.args.graph.admitted.ascending c.args.v.0))

pub returns-then-label_at-ne0 : goal.returns-then-label_at-ne0
returns-then-label_at-ne0 c =
    putting_done c.args.graph.admitted.ascending c.loop-i.invariant (λ l e. c.if-label_at-ne0.true (c.label_at.ensures ∙ e))

pub bounds-sorted-at : goal.bounds-sorted-at
bounds-sorted-at c =
    let p = c.loop-i.invariant in
    let (w, e) = putting_own c.args.graph.admitted.ascending p (omega arith) (sym c.label_at.ensures ∙ c.if-label_at-ne0.false) in
    omega (arith, putting_capacity p w e, c.requires.fits, c.args.graph.admitted.hops_most)

pub loop-i-preserved : goal.loop-i-preserved
loop-i-preserved c =
    let p = c.loop-i.invariant in
    let (w, e) = putting_own c.args.graph.admitted.ascending p (omega arith) (sym c.label_at.ensures ∙ c.if-label_at-ne0.false) in
    putting_more p w e (omega (arith, putting_capacity p w e, c.requires.fits, c.requires.capacity))

pub returns : goal.returns
returns c = putting_done c.args.graph.admitted.ascending c.loop-i.invariant (λ l e. absurd (omega arith))
