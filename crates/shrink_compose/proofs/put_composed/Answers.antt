-- `shrink_compose::put_composed` meets its contract: an entry that was not passed is as it was, so
-- what is read is what the map had. Assumes nothing.
use Rattle.std.proofs.Common.{◌≡◌, ℕ, ◌∙◌, List, length, ap, arith}
use Rattle.base_bounded.specs.Quantifiers.{tabulate}
use Rattle.base_bounded.proofs.Quantifiers.{length_tabulate}
use Rattle.graph.specs.Map.{mapped}
use Rattle.base_outputs.specs.Output.{on_front}
use Rattle.base_outputs.proofs.Front.{front_past, front_all, tabulate_none, tabulate_more, tabulate_done}
use Rattle.shrink_compose.specs.Composed.{composed}
use Rattle.shrink_compose.proofs.put_composed.Goals as goal

-- where the two maps lead
abbrev on : List ℕ → List ℕ → ℕ → ℕ
on map next s = mapped next (mapped map s)

-- an entry that was not passed
unpassed : (map₀ next : List ℕ) {map : List ℕ} (s : ℕ) → map ≡ on_front (tabulate s (on map₀ next)) map₀ → mapped map s ≡ mapped map₀ s
unpassed map₀ next s e =
    ap (λ (x : List ℕ). mapped x s) e ∙ front_past (tabulate s (on map₀ next)) map₀ (omega (arith, length_tabulate (on map₀ next) s))

pub loop-to-init : goal.loop-to-init
loop-to-init c = tabulate_none (on c.args.map.now c.args.next.now) c.args.map.now

pub map_at-requires : goal.map_at-requires
map_at-requires c =
    let l = c.loop-to in
    omega (arith, unpassed c.args.map.now c.args.next.now l.to-index l.invariant, c.requires.into l.to-index (omega arith))

pub loop-to-preserved : goal.loop-to-preserved
loop-to-preserved c =
    let l = c.loop-to in
    let old = c.args.map.now in
    let next = c.args.next.now in
    tabulate_more (on old next) old l.invariant (c.map_at.ensures ∙ ap (mapped next) (unpassed old next l.to-index l.invariant)) (omega arith)

pub returns : goal.returns
unfolding composed
returns c =
    let old = c.args.map.now in
    let f = on old c.args.next.now in
    tabulate_done f old c.loop-to.invariant (omega arith) (omega arith) ∙ front_all (tabulate (length old) f) old (length_tabulate f (length old))
