-- A state is normal exactly when no hop of the set leaves it. The walk along first hops of the set
-- terminates; where it ends is the representative of the state's class, if the set is weakly
-- confluent. Assumes nothing.
use Prim.Native.Nat.{ℕ, zero, suc, ◌<◌, ◌≤◌}
use mathlib.Core.Path.{◌≡◌, refl, sym, ap, ◌∙◌, subst}
use mathlib.Core.Bool.{true, false}
use mathlib.Core.List.{List}
use mathlib.Core.Logic.{◌⊎◌, inl, inr, ⊎_elim, ◌↔◌}
use native.Mathlib.Omega.{arith}
use borrow.Author.Tests.{eqb-true, eq-eqb, ne_eqb, not-true, not-false}
use lib.Dec.{eqb}
use Rattle.std.proofs.lemmas.Bool.{and_from, and_parts, cases_Bool, cases_lt}
use Rattle.base_bounded.specs.Quantifiers.{any, least}
use Rattle.graph.specs.Hops.{count, from, label, to}
use Rattle.graph_check.specs.Check.{InRange}
use Rattle.graph.specs.declared.Shape.{Shape}
use Rattle.base_bounded.proofs.Bools.{clash}
use Rattle.base_bounded.proofs.Quantifiers.{any_at, any_found, least_passes, least_before, least_within}
use Rattle.graph.proofs.Places.{has_place}
use Rattle.lts.specs.Star.{Star, stay, go}
use Rattle.lts.specs.Sense.{Normal}
use Rattle.lts.specs.Internal.Reduction.{Confluent, NormalForms}
use Rattle.lts.proofs.Star.{star→joined}
use Rattle.lts.proofs.Confluence.{rep_normal, joined→rep}
use Rattle.walk_silent.specs.Silent.{HopOf}
use Rattle.base_fixpoint.specs.Pairs.{Pairs, In}
use Rattle.reduce_representatives.specs.Internal.Representative.{Terminating}
use Rattle.reduce_representatives.specs.Representative.{IsRepresentative, marked_from, is_normal, next_state, after_steps, rep_of}

module _ (hs : List ℕ) (u : Pairs) (s i : ℕ) where
  marked_from_lem : marked_from hs u s i ≡ true → from hs i ≡ s
  unfolding marked_from
  marked_from_lem e = eqb-true _ _ (and_parts (eqb (from hs i) s) _ e).0

  marked_hop : marked_from hs u s i ≡ true → In u s (to hs i)
  unfolding marked_from
  marked_hop e =
      subst (λ (x : ℕ). u x (to hs i) ≡ true) (marked_from_lem e)
      (and_parts (eqb (label hs i) 0) _ (and_parts (eqb (from hs i) s) _ e).1).1

module _ (hs : List ℕ) (u : Pairs) where
  -- the first hop in u of a state that is not normal
  pub first_marked : (s : ℕ) → is_normal hs u s ≡ false →
      (least (count hs) (marked_from hs u s) < count hs) × (marked_from hs u s (least (count hs) (marked_from hs u s)) ≡ true)
  unfolding is_normal
  first_marked s e =
      let (i, l, p) = any_at (marked_from hs u s) (count hs) (not-false (any (count hs) (marked_from hs u s)) e) in
      let w = least_within (marked_from hs u s) (count hs) in
      let below : least (count hs) (marked_from hs u s) < count hs = ⊎_elim (λ q. q) (λ q. clash p (least_before (marked_from hs u s) (count hs) (omega arith))) (cases_lt (least (count hs) (marked_from hs u s)) (count hs)) in
      (below, least_passes (marked_from hs u s) (count hs) below)

  pub rests_next_state : (s : ℕ) → is_normal hs u s ≡ true → next_state hs u s ≡ s
  unfolding next_state
  rests_next_state s e = rw e

  pub moves_next_state : (s : ℕ) → is_normal hs u s ≡ false → next_state hs u s ≡ to hs (least (count hs) (marked_from hs u s))
  unfolding next_state
  moves_next_state s e = rw e

  pub next_state_marked : (s : ℕ) → is_normal hs u s ≡ false → In u s (next_state hs u s)
  next_state_marked s e = rw (moves_next_state s e) (marked_hop hs u s _ (first_marked s e).1)

  pub normal_is_normal : (s : ℕ) → Normal (In u) s → is_normal hs u s ≡ true
  normal_is_normal s n = ⊎_elim (λ e. e) (λ e. absurd (n _ (next_state_marked s e))) (cases_Bool (is_normal hs u s))

  -- a walk from a normal state stays there
  pub after_steps_rest : (k s : ℕ) → next_state hs u s ≡ s → after_steps hs u k s ≡ s
  unfolding after_steps
  after_steps_rest zero s e = refl
  after_steps_rest (suc k) s e = rw e (after_steps_rest k s e)

  pub after_steps_down : (k s : ℕ) → Star (In u) s (after_steps hs u k s)
  unfolding after_steps
  after_steps_down zero s = stay
  after_steps_down (suc k) s = on (cases_Bool (is_normal hs u s)) (after_steps_down k (next_state hs u s)) where
    on : (is_normal hs u s ≡ true) ⊎ (is_normal hs u s ≡ false) → Star (In u) (next_state hs u s) (after_steps hs u k (next_state hs u s)) →
        Star (In u) s (after_steps hs u k (next_state hs u s))
    on (inl e) p = subst (λ (x : ℕ). Star (In u) x (after_steps hs u k (next_state hs u s))) (rests_next_state s e) p
    on (inr e) p = go (next_state_marked s e) p

  -- each hop of a walk inside the graph ends in the graph
  module _ {sh : Shape} (ranged : InRange sh hs) where
    pub next_state_in : (s : ℕ) → s < sh.states → next_state hs u s < sh.states
    next_state_in s l = ⊎_elim (λ e. rw (rests_next_state s e) l) (λ e. rw (moves_next_state s e) (ranged.to_in _ (first_marked s e).0)) (cases_Bool (is_normal hs u s))

    pub after_steps_in : (k s : ℕ) → s < sh.states → after_steps hs u k s < sh.states
    unfolding after_steps
    after_steps_in zero s l = l
    after_steps_in (suc k) s l = after_steps_in k (next_state hs u s) (next_state_in s l)

module _ {sh : Shape} {hs : List ℕ} {u : Pairs} (sett : Terminating sh hs u) where
  pub is_normal_normal : (s : ℕ) → is_normal hs u s ≡ true → Normal (In u) s
  unfolding is_normal marked_from
  is_normal_normal s e t m =
      let p = has_place hs s 0 t (sett.silent s t m) in
      clash
      (any_found (marked_from hs u s) (count hs) p.within
      (and_from _ _ (eq-eqb _ _ p.from_is) (and_from _ _ (eq-eqb _ _ p.label_is) (rw (p.from_is, p.to_is) m))))
      (not-true (any (count hs) (marked_from hs u s)) e)

  -- a state is normal exactly when no hop of u leaves it
  pub is_normal_iff : (s : ℕ) → (is_normal hs u s ≡ true) ↔ Normal (In u) s
  is_normal_iff s = (is_normal_normal s, normal_is_normal hs u s)

  -- a state that is not normal moves on to another
  pub next_state_falls : (s : ℕ) → is_normal hs u s ≡ false → sett.rank (next_state hs u s) < sett.rank s
  next_state_falls s e = sett.falls s _ (next_state_marked hs u s e)

  -- a state is normal exactly when the walk stays there
  pub is_normal_stays : (s : ℕ) → is_normal hs u s ≡ eqb (next_state hs u s) s
  is_normal_stays s = ⊎_elim (λ e. e ∙ sym (eq-eqb _ _ (rests_next_state hs u s e))) (λ e. e ∙ sym (ne_eqb _ _ (λ q. moved e q))) (cases_Bool (is_normal hs u s)) where
    moved : is_normal hs u s ≡ false → next_state hs u s ≡ s → ⊥
    moved e q = let l : sett.rank (next_state hs u s) < sett.rank s = next_state_falls s e in omega (arith, ap sett.rank q)

  followed_rests : (k s : ℕ) → sett.rank s ≤ k → is_normal hs u (after_steps hs u k s) ≡ true
  unfolding after_steps
  followed_rests zero s l = ⊎_elim (λ e. e) (λ e. let m : sett.rank (next_state hs u s) < sett.rank s = next_state_falls s e in absurd (omega arith)) (cases_Bool (is_normal hs u s))
  followed_rests (suc k) s l = on (cases_Bool (is_normal hs u s)) (λ r. followed_rests k (next_state hs u s) r) where
    on : (is_normal hs u s ≡ true) ⊎ (is_normal hs u s ≡ false) → (sett.rank (next_state hs u s) ≤ k → is_normal hs u (after_steps hs u k (next_state hs u s)) ≡ true) →
        is_normal hs u (after_steps hs u k (next_state hs u s)) ≡ true
    on (inl e) ih = rw (rests_next_state hs u s e, after_steps_rest hs u k s (rests_next_state hs u s e)) e
    on (inr e) ih = ih (let m : sett.rank (next_state hs u s) < sett.rank s = next_state_falls s e in omega arith)

  pub rep_is_normal : (s : ℕ) → is_normal hs u (rep_of sh hs u s) ≡ true
  unfolding rep_of
  rep_is_normal s = followed_rests sh.states s (sett.bound s)

  pub rep_rests : NormalForms (In u) (rep_of sh hs u)
  unfolding rep_of
  rep_rests = record { down = after_steps_down hs u sh.states; rest = λ s. is_normal_normal _ (rep_is_normal s) }

  -- the state that the walk comes to is the representative of its class
  pub rep_is_representative : Confluent (HopOf hs) (In u) → (s : ℕ) → IsRepresentative u s (rep_of sh hs u s)
  rep_is_representative conf s = record {
    joined = star→joined (rep_rests.down s);
    rests = rep_rests.rest s;
    only = λ q j n. sym (rep_normal conf rep_rests n) ∙ sym (joined→rep conf rep_rests j);
  }

-- a weakly confluent set without rings is terminating, if its rank is bounded
pub confluent_terminating : (sh : Shape) {hs : List ℕ} {u : Pairs} (conf : Confluent (HopOf hs) (In u)) → ((s : ℕ) → conf.rank s ≤ sh.states) → Terminating sh hs u
confluent_terminating sh conf bound = record { silent = conf.silent; rank = conf.rank; falls = λ s t m. conf.falls s t (conf.silent s t m); bound = bound }
