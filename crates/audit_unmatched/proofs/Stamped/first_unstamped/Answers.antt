-- `audit_unmatched::Stamped::first_unstamped` meets its contract: the loop finds the least place
-- of the hops of r, and no place before or behind them is unstamped. Assumes nothing.
use Rattle.std.proofs.Common.{◌≡◌, ◌∙◌, ◌+◌, ◌≤◌, sym, arith, ℕ, Bool}
use Rattle.base_bounded.specs.Quantifiers.{least}
use Rattle.base_bounded.proofs.Quantifiers.{least_found, least_more, least_within}
use Rattle.graph.specs.Hops.{count}
use Rattle.graph.specs.Search.{first_of}
use Rattle.graph.proofs.Lookup.{first_within}
use Rattle.graph_successors.proofs.Firsts.{first_next}
use Rattle.graph_check.proofs.Placed.{place_none, none_place}
use Rattle.audit_unmatched.specs.Internal.States.{unstamped}
use Rattle.audit_unmatched.specs.declared.Stamped.{Stamped}
use Rattle.audit_unmatched.proofs.Own.{first_begins, found_ends}
use Rattle.audit_unmatched.proofs.Stamped.first_unstamped.Goals as goal

-- what is looked for
abbrev test : Stamped → ℕ → Bool
test s = unstamped s.index2.hops.now s.stamps.now s.r.0 s.k

pub loop-j-init : goal.loop-j-init
loop-j-init c =
    let s = c.args.self in
    rw c.first-j.ensures (first_begins s.index2.hops.now s.stamps.now s.index2.ready.ascending s.r.0 s.k)

pub loop-j-preserved : goal.loop-j-preserved
loop-j-preserved c = least_more (test c.args.self) _ c.loop-j.invariant (sym c.is_unstamped.ensures ∙ c.if-is_unstamped.false)

pub returns-then-is_unstamped : goal.returns-then-is_unstamped
returns-then-is_unstamped c =
    let s = c.args.self in
    let within = first_within s.index2.hops.now s.index2.ready.ascending (s.r.0 + 1) in
    sym (least_found (test s) _ (omega (arith, within)) c.loop-j.invariant (sym c.is_unstamped.ensures ∙ c.if-is_unstamped.true))

pub returns : goal.returns
returns c =
    let s = c.args.self in
    let hs = s.index2.hops.now in
    let up = s.index2.ready.ascending in
    let rising = first_next hs up s.r.0 in
    let e : c.loop-j.j ≡ first_of hs (s.r.0 + 1) = omega arith in
    let none : least (first_of hs (s.r.0 + 1)) (test s) ≡ first_of hs (s.r.0 + 1) = rw e at c.loop-j.invariant in
    let low : first_of hs (s.r.0 + 1) ≤ least (first_of hs (s.r.0 + 1)) (test s) = omega (arith, none) in
    let all : count hs ≤ least (count hs) (test s) = none_place (found_ends hs s.stamps.now up s.r.0 s.k) (sym (place_none low)) in
    omega (arith, all, least_within (test s) (count hs))
