-- One state more has the new number of its representative.
use Rattle.std.proofs.Common.{ℕ, refl, ap, ◌∙◌, get_or, arith}
use Rattle.base_outputs.proofs.Front.{tabulate_none, tabulate_more}
use Rattle.reduce_representatives.specs.Internal.Tables.{new_number}
use Rattle.reduce_representatives.proofs.Nexts.{table_steps_in}
use Rattle.reduce_representatives.proofs.Compressed.{compressed_none, compressed_then}
use Rattle.reduce_representatives.proofs.renumber.fill_map.Goals as goal

pub loop-s-init : goal.loop-s-init
loop-s-init c = record { states = refl; filled = tabulate_none _ _; compressed = compressed_none _ _ c.args.walks.closed }

pub map_at-requires : goal.map_at-requires
map_at-requires c =
    let v = c.loop-s in
    let w = c.args.walks in
    omega (
      arith,
      rw v.invariant.states at c.follow-rep.ensures,
      v.invariant.compressed.same v.s (omega arith),
      table_steps_in _ w.states w.closed w.states v.s (omega arith),
    )

pub loop-s-preserved : goal.loop-s-preserved
unfolding new_number
loop-s-preserved c =
    let v = c.loop-s in
    let w = c.args.walks in
    let put = c.compress_path.ensures in
    record {
      states = put.states ∙ v.invariant.states;
      filled =
          tabulate_more (new_number _ c.args.news.now w.states) c.args.map.now v.invariant.filled
          (c.map_at.ensures ∙ ap (λ (k : ℕ). get_or c.args.news.now k 0) (rw v.invariant.states at c.follow-rep.ensures ∙ v.invariant.compressed.same v.s (omega arith)))
          (omega arith);
      compressed = compressed_then v.invariant.compressed (rw v.invariant.states at put.compressed);
    }
