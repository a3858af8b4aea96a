-- What the tables of next states and of new numbers hold, in the words of the definitions: a walk
-- by the one is a walk along first hops of the set, and the two together give the map. Assumes
-- nothing.
use Prim.Native.Nat.{ℕ, zero, suc, ◌<◌, ◌≤◌}
use mathlib.Core.Path.{◌≡◌, refl, sym, ◌∙◌}
use mathlib.Core.List.{List}
use mathlib.Core.Logic.{inl, inr, ⊎_elim}
use native.Mathlib.Omega.{arith}
use lib.ListN.{get_or}
use Rattle.std.proofs.lemmas.Bool.{cases_Bool}
use Rattle.base_bounded.specs.Quantifiers.{tally}
use Rattle.graph.specs.Answers.{most_states}
use Rattle.graph_check.specs.Check.{Admitted}
use Rattle.graph.specs.declared.Shape.{Shape}
use Rattle.base_fixpoint.specs.Pairs.{Pairs}
use Rattle.base_bounded.proofs.Quantifiers.{tally_same}
use Rattle.reduce_representatives.specs.Internal.Representative.{Terminating}
use Rattle.reduce_representatives.specs.Representative.{is_normal, next_state, after_steps, new_of, rep_of, map_of}
use Rattle.reduce_representatives.specs.Internal.Tables.{NextTable, ClosedTable, RankFalls, TerminatingTable, NewNumbers, is_fixed, table_steps, new_number}
use Rattle.reduce_representatives.proofs.NormalForm.{rests_next_state, next_state_in, next_state_falls, after_steps_in, is_normal_stays}

module _ {sh : Shape} {hs : List ℕ} {u : Pairs} (adm : Admitted sh hs) (sett : Terminating sh hs u) (next : List ℕ) (on : NextTable hs u next) where
  pub states_fit : sh.states ≤ most_states
  states_fit = adm.states_most

  at_next : (s : ℕ) → s < sh.states → get_or next s 0 ≡ next_state hs u s
  unfolding NextTable
  at_next s l = on s (omega (arith, states_fit))

  pub tabled_closed : ClosedTable sh.states next
  unfolding ClosedTable
  tabled_closed s l = rw (at_next s l) (next_state_in hs u adm.range s l)

  pub tabled_stays : (s : ℕ) → s < most_states → is_fixed next s ≡ is_normal hs u s
  unfolding is_fixed NextTable
  tabled_stays s l = rw (on s l) (sym (is_normal_stays sett s))

  -- a walk by the table terminates, as one along the hops does
  pub tabled_terminating : TerminatingTable sh.states next
  unfolding RankFalls
  tabled_terminating = record { rank = sett.rank; bound = λ s l. sett.bound s; falls = falling } where
    falling : RankFalls sh.states sett.rank next
    falling s l =
        ⊎_elim (λ e. inl (at_next s l ∙ rests_next_state hs u s e)) (λ e. inr (rw (at_next s l) (next_state_falls sett s e))) (cases_Bool (is_normal hs u s))

  tabled_steps : (k s : ℕ) → s < sh.states → table_steps next k s ≡ after_steps hs u k s
  unfolding table_steps after_steps
  tabled_steps zero s l = refl
  tabled_steps (suc k) s l = rw (at_next s l) (tabled_steps k (next_state hs u s) (next_state_in hs u adm.range s l))

  module _ (news : List ℕ) (fill : NewNumbers next news) where
    pub tabled_new : (s : ℕ) → s ≤ most_states → get_or news s 0 ≡ tally s (is_normal hs u)
    unfolding NewNumbers
    tabled_new s l = fill s l ∙ tally_same (is_fixed next) (is_normal hs u) s (λ j k. tabled_stays j (omega arith))

    pub tabled_map : (s : ℕ) → s < sh.states → new_number next news sh.states s ≡ map_of sh hs u s
    unfolding new_number map_of rep_of new_of
    tabled_map s l =
        rw (tabled_steps sh.states s l)
        (tabled_new (after_steps hs u sh.states s) (omega (arith, after_steps_in hs u adm.range sh.states s l, states_fit)))
