-- What `shrink` returns and writes where every row lets the graph pass: the last stage. Assumes
-- nothing.
use Prim.Native.Nat.{ℕ, ◌-◌, ◌≤◌}
use mathlib.Core.Path.{◌≡◌, sym, ap, ◌∙◌}
use mathlib.Core.List.{List, ◌++◌}
use native.Mathlib.Omega.{arith}
use lib.ListN.{length, drop}
use lib.Seq.{take_at}
use Rattle.base_outputs.specs.Output.{on_front}
use Rattle.graph.specs.Hops.{count, between, number_place}
use Rattle.graph.specs.declared.Shape.{Shape}
use Rattle.graph.proofs.Fronts.{between_count}
use Rattle.graph_check.specs.Check.{Admitted}
use Rattle.reduce_representatives.specs.Reducible.{Reducible}
use Rattle.shrink_iterate.specs.Iterate.{Stage, last_stage}
use Rattle.shrink_iterate.proofs.Last.{last_staged}
use Rattle.shrink_step.specs.Internal.Progress.{stage_of}
use Rattle.shrink_entry.specs.Internal.Last.{last_graph}
use Rattle.shrink_step.specs.declared.Progress.{Progress}
use Rattle.shrink_entry.specs.declared.LastGraph.{LastGraph}

-- the hops of an admitted graph at the front of a list are the front
pub front_hops : {sh : Shape} {hs : List ℕ} → Admitted sh hs → (old : List ℕ) {new : List ℕ} {n : ℕ} → n ≡ count hs → new ≡ on_front hs old → between new 0 n ≡ hs
front_hops {hs = hs} adm old {n = n} c e =
    ap (λ (x : List ℕ). between x 0 n) e ∙ take_at hs (drop (length hs) old) (number_place n - number_place 0) (omega (arith, adm.whole_hops))

-- the loop stands at the last stage: what is returned, and what is written over what the outputs
-- held
module _
    (k : ℕ) (sh : Shape) {hs : List ℕ} (r : Progress) (last map : List ℕ)
    {seen : List ℕ} (s : seen ≡ hs) (e : stage_of r last map ≡ last_stage k sh seen) (l : r.hops ≤ count last)
  where
    is : stage_of r last map ≡ last_stage k sh hs
    is = rw s at e

    hops_are : between last 0 r.hops ≡ (last_stage k sh hs).hops
    hops_are = ap (λ (g : Stage). g.hops) is

    counted : r.hops ≡ count (last_stage k sh hs).hops
    counted = sym (between_count last l) ∙ ap count hops_are

    pub returned : ◌≡◌ {A = LastGraph} (record { shape = r.shape; hops = r.hops; reductions = r.reductions }) (last_graph (last_stage k sh hs))
    returned = λ d. record { shape = (is d).shape; hops = counted d; reductions = (is d).reductions }

    pub mapped : (old : List ℕ) {n : ℕ} → length map ≡ n → map ++ drop n old ≡ on_front (last_stage k sh hs).map old
    mapped old q = ap (λ (n : ℕ). map ++ drop n old) (sym q) ∙ ap (λ (g : Stage). on_front g.map old) is

    module _ {part : List ℕ} (p : part ≡ between last 0 r.hops) where
      pub shortened : (old : List ℕ) {out : List ℕ} → out ≡ on_front part old → out ≡ on_front (last_stage k sh hs).hops old
      shortened old q = q ∙ ap (λ (x : List ℕ). on_front x old) (p ∙ hops_are)

      -- the last hops fit where the first did
      pub capacity : Reducible sh hs → {n : ℕ} → length hs ≤ n → length part ≤ n
      capacity red q = omega (arith, ap length (p ∙ hops_are), (last_staged k red).fits)
