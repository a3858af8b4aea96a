-- Going over the hops of one state only, by the table of first places: what they stamp. Assumes
-- nothing.
use Prim.Native.Nat.{ℕ, ◌+◌, ◌<◌, ◌≤◌}
use mathlib.Core.Path.{◌≡◌, sym, ap, ◌∙◌}
use mathlib.Core.Bool.{Bool, true, false, cond, ◌&&◌}
use mathlib.Core.List.{List, map}
use native.Mathlib.Nat.{le_refl}
use native.Mathlib.Omega.{arith}
use lib.ListN.{length, get_or, set}
use lib.Dec.{eqb}
use Rattle.std.proofs.lemmas.Bool.{and_left}
use Rattle.std.proofs.lemmas.List.{get_or-map}
use Rattle.graph.specs.Hops.{count, from}
use Rattle.graph.specs.Order.{Ascending}
use Rattle.graph.specs.Search.{first_of, past_of}
use Rattle.graph_check.specs.Check.{InRange}
use Rattle.graph.specs.declared.Shape.{Shape}
use Rattle.base_bounded.proofs.Quantifiers.{any_rest}
use Rattle.graph.proofs.Lookup.{first_within, range_only}
use Rattle.graph_successors.proofs.Firsts.{first_is, first_next}
use Rattle.graph_successors.specs.Internal.SuccessorIndex.{Indexable}
use Rattle.walk_reach.specs.Internal.Frontier.{visited}
use Rattle.graph.specs.Map.{mapped}
use Rattle.audit_faults.specs.Internal.Images.{Imaged}
use Rattle.audit_matched.specs.Internal.Stamps.{seen_in_class, stamps_hop, StampedUpTo, StampedFrom}
use Rattle.audit_matched.proofs.Stamping.{stamped_none, stamped_more}

-- what the element at a place stands for is what stands there in the table of yes and no
pub flag_at : {X : Type 0} (raised : X → Bool) (flags : List X) {i u : ℕ} {x : X} {yes : Bool} → i ≡ u → u < length flags → x ≡ get_or flags i x → yes ≡ raised x →
    yes ≡ get_or (map raised flags) u false
flag_at raised flags {i} {u} {x} e l is asked = rw (← e, get_or-map raised flags i x false (omega arith)) (asked ∙ ap raised is)

module _ (h1 h2 m : List ℕ) (seen : List Bool) (r k : ℕ) where
  -- the first place of all, and the last
  pub stamped_first : Ascending h1 → (stamps : List ℕ) → StampedUpTo h1 h2 m seen r k (first_of h1 0) stamps stamps
  stamped_first up stamps =
      let q : 0 ≡ first_of h1 0 = first_is h1 up 0 (omega arith) (λ j l. absurd (omega arith)) (λ l. omega arith) in
      rw (← q) (stamped_none h1 h2 m seen r k stamps)

  pub stamped_last : {sh1 : Shape} → InRange sh1 h1 → Ascending h1 → (before after : List ℕ) {u : ℕ} → u ≡ sh1.states →
      StampedUpTo h1 h2 m seen r k (first_of h1 u) before after → StampedUpTo h1 h2 m seen r k (count h1) before after
  stamped_last ranged up before after {u} e t =
      let q : count h1 ≡ first_of h1 u = first_is h1 up u (le_refl (count h1)) (λ j l. rw e (ranged.from_in j l)) (λ l. absurd (omega arith)) in
      rw q t

  -- the hops of the state u
  module _ (up : Ascending h1) (u : ℕ) {v : ℕ} (ev : v ≡ mapped m u) where
    state_seen : {i : ℕ} → first_of h1 u ≤ i → i < first_of h1 (u + 1) → seen_in_class h1 m seen r i ≡ (get_or seen u false && eqb v r)
    unfolding past_of seen_in_class visited
    state_seen {i} lo hi =
        let q : from h1 i ≡ u = range_only h1 up u (omega (arith, first_within h1 up (u + 1))) lo hi in
        rw (q, ev)

    pub state_skipped : (get_or seen u false && eqb v r) ≡ false → (stamps : List ℕ) →
        StampedFrom h1 h2 m seen r k (first_of h1 u) (first_of h1 (u + 1)) stamps stamps
    unfolding StampedFrom StampedUpTo stamps_hop
    state_skipped e stamps first t j l =
        t j l ∙
        ap (λ (x : Bool). cond x k (get_or first j 0))
        (sym (any_rest (stamps_hop h1 h2 m seen r j) (first_of h1 (u + 1)) (first_next h1 up u) (λ i lo hi. and_left _ _ (state_seen lo hi ∙ e))))

    pub state_more : Indexable h2 → (images : List ℕ) → Imaged h1 h2 m images → (get_or seen u false && eqb v r) ≡ true →
        (before stamps : List ℕ) → count h2 ≤ length stamps → {i : ℕ} → first_of h1 u ≤ i → i < first_of h1 (u + 1) →
        {after : List ℕ} → after ≡ set stamps (get_or images i 0) k →
        StampedFrom h1 h2 m seen r k (first_of h1 u) i before stamps → StampedFrom h1 h2 m seen r k (first_of h1 u) (i + 1) before after
    unfolding StampedFrom Imaged
    state_more ready images im e before stamps capacity {i} lo hi d o first t =
        rw (d, im i (omega (arith, first_within h1 up (u + 1)))) (stamped_more h1 h2 m seen r k ready stamps capacity i (state_seen lo hi ∙ e) first (o first t))

  pub on_none : (n : ℕ) (stamps : List ℕ) → StampedFrom h1 h2 m seen r k n n stamps stamps
  unfolding StampedFrom
  on_none n stamps first t = t

  pub on_done : (before after : List ℕ) (lo : ℕ) {i hi : ℕ} → i ≤ hi → hi ≤ i → StampedFrom h1 h2 m seen r k lo i before after →
      StampedFrom h1 h2 m seen r k lo hi before after
  on_done before after lo {i} {hi} a b t = let q : hi ≡ i = omega arith in rw q t
