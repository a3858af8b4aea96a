-- The bounded test `leads` and the walk `Leads` agree once the bound is the state count, as they do
-- for every chosen set. Assumes nothing.
use Prim.Native.Nat.{ℕ, ◌<◌}
use mathlib.Core.Path.{◌≡◌, ◌∙◌}
use mathlib.Core.Bool.{Bool, true}
use mathlib.Core.List.{List, ◌++◌}
use mathlib.Core.Logic.{◌↔◌}
use Rattle.graph_check.specs.Check.{InRange}
use Rattle.graph.specs.declared.Shape.{Shape}
use Rattle.lts.proofs.Star.{star_mono}
use Rattle.walk_reach.specs.Internal.Reach.{chosen_in, Chooses}
use Rattle.walk_reach.specs.Internal.Frontier.{visited, reached_flags}
use Rattle.walk_reach.proofs.Leads as by
use Rattle.walk_reach.proofs.Search.{visited_reached}
use Rattle.walk_silent.specs.Silent.{Leads, silent_at, leads}
use Rattle.walk_silent.proofs.Hops.{silent_chosen, chosen_silent}

module _ (hs : List ℕ) where
  pub leads_self : (k s : ℕ) → leads hs k s s ≡ true
  leads_self = by.leads_self hs (silent_at hs)

  -- a bounded walk is a walk
  pub leads_walk : (k s t : ℕ) → leads hs k s t ≡ true → Leads hs s t
  leads_walk k s t e = star_mono (chosen_silent hs) (by.leads_walk hs (silent_at hs) k s t e)

  -- what the flags say of a state that a search along the silent hops leaves
  pub visited_leads : (flags : List Bool) → Chooses hs (silent_at hs) flags → (n s : ℕ) (rest : List Bool) {t : ℕ} → t < n →
      visited (reached_flags hs (chosen_in flags) n s ++ rest) t ≡ leads hs n s t
  unfolding Chooses
  visited_leads flags e n s rest {t} l =
      visited_reached hs (chosen_in flags) n s rest t l ∙ by.leads_same hs (chosen_in flags) (silent_at hs) e n s t

module _ {sh : Shape} {hs : List ℕ} (ranged : InRange sh hs) where
  pub walk_leads : {s t : ℕ} → Leads hs s t → leads hs sh.states s t ≡ true
  walk_leads w = by.walk_leads ranged (silent_at hs) (star_mono (silent_chosen hs) w)

  pub leads_iff : (s t : ℕ) → (leads hs sh.states s t ≡ true) ↔ Leads hs s t
  leads_iff s t = (leads_walk hs sh.states s t, walk_leads)
