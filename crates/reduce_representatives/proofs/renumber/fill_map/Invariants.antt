-- The map is filled below s, and the table leads where it led at first.
use Rattle.std.proofs.Common.{◌≡◌}
use Rattle.base_bounded.specs.Quantifiers.{tabulate}
use Rattle.base_outputs.specs.Output.{on_front}
use Rattle.reduce_representatives.specs.Internal.Tables.{Compressed, new_number}
use Rattle.reduce_representatives.proofs.renumber.fill_map.Given as goal

abbrev pub invariant-loop-s : goal.invariant-loop-s
invariant-loop-s l =
    record {
      states : l.walks.states ≡ l.initial.walks.states;
      filled : l.map ≡ on_front (tabulate l.s (new_number l.initial.walks.next l.news l.initial.walks.states)) l.initial.map;
      compressed : Compressed l.initial.walks.states l.initial.walks.next l.walks.next;
    }
