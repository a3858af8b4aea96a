-- What a graph that no row refuses has, and what `shrink` returns and writes of it, from what its
-- checks and its repetition promise. Assumes nothing.
use Prim.Native.Nat.{ℕ}
use mathlib.Core.Path.{◌≡◌, refl, ap, ◌∙◌}
use mathlib.Core.List.{List}
use lib.ListN.{length}
use Rattle.std.proofs.Common.{Ok}
use Rattle.base_outputs.specs.Output.{on_front}
use Rattle.graph.specs.Answers.{accepted}
use Rattle.graph.specs.declared.Shape.{Shape}
use Rattle.graph.proofs.Accepts.{accepts}
use Rattle.reduce_entry.specs.Reduce.{reduce_answer}
use Rattle.reduce_entry.proofs.Answering.{reduce_reducible, reduce_map_capacity, reduce_short_capacity}
use Rattle.shrink_iterate.specs.Iterate.{last_stage}
use Rattle.shrink_entry.specs.declared.LastGraph.{LastGraph}
use Rattle.shrink_entry.specs.Internal.Last.{last_graph}
use Rattle.shrink_entry.specs.Shrink.{shrinking_of, shrink_of, shrink_map_output, shrink_hops_output}
use Rattle.shrink_entry.proofs.Answering.{accepted_returns, accepted_map, accepted_short}

-- g is the number of the sense that the checks give for the number k
module _ (sh : Shape) (hs : List ℕ) (k g : ℕ) (map short : List ℕ) (e : accepted ≡ reduce_answer sh hs k (length map) (length short)) (s : g ≡ k) where
  pub shrunk_returns : {last : LastGraph} → last ≡ last_graph (last_stage g sh hs) → shrinking_of (Ok last) ≡ shrink_of sh hs k (length map) (length short)
  shrunk_returns {last} l =
      let q : last ≡ last_graph (last_stage k sh hs) = rw s at l in
      ap (λ (x : LastGraph). shrinking_of (Ok x)) q ∙ accepted_returns sh hs k map short e refl

  pub shrunk_map : {x : List ℕ} → x ≡ on_front (last_stage g sh hs).map map → x ≡ shrink_map_output sh hs k map short
  shrunk_map l = accepted_map sh hs k map short e refl (rw s at l)

  pub shrunk_short : {x : List ℕ} → x ≡ on_front (last_stage g sh hs).hops short → x ≡ shrink_hops_output sh hs k map short
  shrunk_short l = accepted_short sh hs k map short e refl (rw s at l)

-- for `using`: what the repetition requires, and what it leaves
pub ruleset goes_on = (accepts, reduce_reducible, reduce_map_capacity, reduce_short_capacity, shrunk_returns, shrunk_map, shrunk_short)
