-- Path compression: a table that has the representative of some states in place of their next
-- states leads where the first one does, and its walks terminate no later. Assumes nothing.
use Prim.Native.Nat.{ℕ, zero, suc, ◌<◌, ◌≤◌}
use mathlib.Core.Path.{◌≡◌, refl, sym, ap, ◌∙◌}
use mathlib.Core.List.{List}
use mathlib.Core.Logic.{◌⊎◌, inl, inr, ⊎_elim, ∥∥₁_elim, ∥∥₁_map}
use native.Mathlib.Omega.{arith}
use lib.ListN.{length, get_or, set, length-set}
use lib.Seq.{get_or-set_same, get_or-set_other}
use Rattle.std.proofs.Props.{props}
use Rattle.std.proofs.lemmas.Bool.{cases_eq}
use Rattle.reduce_representatives.specs.Internal.Tables.{ClosedTable, RankFalls, TerminatingTable, Compressed, table_steps}
use Rattle.reduce_representatives.proofs.Nexts.{table_steps_rest, table_steps_in}

-- no representative entered yet
pub compressed_none : (n : ℕ) (next : List ℕ) → ClosedTable n next → Compressed n next next
compressed_none n next closed = record { long = refl; closed = closed; same = λ s l. refl; falls = λ rank f. f }

-- one compression after another
pub compressed_then : {n : ℕ} {next known more : List ℕ} → Compressed n next known → Compressed n known more → Compressed n next more
compressed_then a b = record { long = b.long ∙ a.long; closed = b.closed; same = λ s l. b.same s l ∙ a.same s l; falls = λ rank f. b.falls rank (a.falls rank f) }

-- and walks by a table along which every such rank falls terminate, too
pub falling_terminating : {n : ℕ} {next known : List ℕ} → ((rank : ℕ → ℕ) → RankFalls n rank next → RankFalls n rank known) →
    ∥ TerminatingTable n next ∥₁ → ∥ TerminatingTable n known ∥₁
falling_terminating f ends = ∥∥₁_map ends (λ sinks. record { rank = sinks.rank; bound = sinks.bound; falls = f sinks.rank sinks.falls })

-- a table in which some states have their representative
pub record Way (n : ℕ) (next known : List ℕ) : Type 0 where
  pub long : length known ≡ length next
  pub within : ClosedTable n known
  pub leads : (s : ℕ) → s < n → table_steps next n (get_or known s 0) ≡ table_steps next n s
  pub rests : (s : ℕ) → s < n → get_or known s 0 ≡ s → table_steps next n s ≡ s
  pub falling : (rank : ℕ → ℕ) → RankFalls n rank next → RankFalls n rank known

module _ (n : ℕ) (next : List ℕ) (closed : ClosedTable n next) where
  -- along a walk no rank rises
  stepped_low : (rank : ℕ → ℕ) → RankFalls n rank next → (k s : ℕ) → s < n → rank (table_steps next k s) ≤ rank s
  unfolding table_steps RankFalls ClosedTable
  stepped_low rank f zero s l = omega arith
  stepped_low rank f (suc k) s l =
      let h : rank (table_steps next k (get_or next s 0)) ≤ rank (get_or next s 0) = stepped_low rank f k (get_or next s 0) (closed s l) in
      ⊎_elim (λ q. omega (arith, ap rank q)) (λ q. omega arith) (f s l)

  module _ (sinks : TerminatingTable n next) where
    -- a step more than a walk needs changes nothing
    stepped_enough : (k s : ℕ) → s < n → sinks.rank s ≤ k → table_steps next (suc k) s ≡ table_steps next k s
    unfolding table_steps RankFalls ClosedTable
    stepped_enough zero s l m = ⊎_elim (λ q. q) (λ q. absurd (omega arith)) (sinks.falls s l)
    stepped_enough (suc k) s l m =
        ⊎_elim (λ q. table_steps_rest next (suc (suc k)) s q ∙ sym (table_steps_rest next (suc k) s q)) (λ q. stepped_enough k (get_or next s 0) (closed s l) (omega arith)) (sinks.falls s l)

  module _ (ends : ∥ TerminatingTable n next ∥₁) where
    -- a step of the way leads to the same state
    step_leads : (s : ℕ) → s < n → table_steps next n (get_or next s 0) ≡ table_steps next n s
    unfolding table_steps
    step_leads s l = ∥∥₁_elim ends (hlevel props) (λ sinks. stepped_enough sinks n s l (sinks.bound s l))

    way_leads : (k s : ℕ) → s < n → table_steps next n (table_steps next k s) ≡ table_steps next n s
    unfolding table_steps ClosedTable
    way_leads zero s l = refl
    way_leads (suc k) s l = way_leads k (get_or next s 0) (closed s l) ∙ step_leads s l

    pub way_starts : Way n next next
    way_starts = record { long = refl; within = closed; leads = step_leads; rests = λ s l e. table_steps_rest next n s e; falling = λ rank f. f }

    -- one state more
    pub way_more : {known : List ℕ} → Way n next known → (at rep : ℕ) → at < n → n ≤ length next → rep ≡ table_steps next n at → Way n next (set known at rep)
    unfolding ClosedTable RankFalls
    way_more {known} w at rep l m e = record { long = length-set known at rep ∙ w.long; within = within_more; leads = leads_more; rests = rests_more; falling = falling_more } where
      here : {s : ℕ} → s ≡ at → get_or (set known at rep) s 0 ≡ table_steps next n s
      here {s} q = ap (λ (x : ℕ). get_or (set known at rep) x 0) q ∙ get_or-set_same known at rep 0 (omega (arith, w.long)) ∙ e ∙ ap (table_steps next n) (sym q)

      there : {s : ℕ} → (s ≡ at → ⊥) → get_or (set known at rep) s 0 ≡ get_or known s 0
      there {s} q = get_or-set_other known at s rep 0 q

      within_more : (s : ℕ) → s < n → get_or (set known at rep) s 0 < n
      within_more s k = ⊎_elim (λ q. rw (here q) (table_steps_in next n closed n s k)) (λ q. rw (there q) (w.within s k)) (cases_eq s at)

      leads_more : (s : ℕ) → s < n → table_steps next n (get_or (set known at rep) s 0) ≡ table_steps next n s
      leads_more s k = ⊎_elim (λ q. rw (here q) (way_leads n s k)) (λ q. rw (there q) (w.leads s k)) (cases_eq s at)

      rests_more : (s : ℕ) → s < n → get_or (set known at rep) s 0 ≡ s → table_steps next n s ≡ s
      rests_more s k d = ⊎_elim (λ q. sym (here q) ∙ d) (λ q. w.rests s k (sym (there q) ∙ d)) (cases_eq s at)

      falling_more : (rank : ℕ → ℕ) → ((s : ℕ) → s < n → (get_or next s 0 ≡ s) ⊎ (rank (get_or next s 0) < rank s)) →
          (s : ℕ) → s < n → (get_or (set known at rep) s 0 ≡ s) ⊎ (rank (get_or (set known at rep) s 0) < rank s)
      falling_more rank f s k = ⊎_elim (λ q. rw (here q) (own q)) (λ q. rw (there q) (w.falling rank f s k)) (cases_eq s at) where
        own : s ≡ at → (table_steps next n s ≡ s) ⊎ (rank (table_steps next n s) < rank s)
        own q =
            ⊎_elim (λ r. inl (table_steps_rest next n s r))
            (λ r. inr (omega (arith, ap rank (step_leads s k), stepped_low rank f n (get_or next s 0) (closed s k))))
            (f s k)

    -- it leads where the first one does
    way_same_by : (sinks : TerminatingTable n next) {known : List ℕ} → Way n next known → (k s : ℕ) → s < n → sinks.rank s ≤ k → table_steps known k s ≡ table_steps next n s
    unfolding table_steps RankFalls ClosedTable
    way_same_by sinks {known} w zero s l m =
        ⊎_elim (λ q. sym (w.rests s l q)) (λ q. absurd (omega arith)) (w.falling sinks.rank sinks.falls s l)
    way_same_by sinks {known} w (suc k) s l m =
        ⊎_elim (λ q. table_steps_rest known (suc k) s q ∙ sym (w.rests s l q)) (λ q. way_same_by sinks w k (get_or known s 0) (w.within s l) (omega arith) ∙ w.leads s l)
        (w.falling sinks.rank sinks.falls s l)

    pub way_compressed : {known : List ℕ} → Way n next known → Compressed n next known
    way_compressed w = record { long = w.long; closed = w.within; same = λ s l. ∥∥₁_elim ends (hlevel props) (λ sinks. way_same_by sinks w n s l (sinks.bound s l)); falls = w.falling }
