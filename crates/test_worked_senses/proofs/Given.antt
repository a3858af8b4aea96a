-- The definitions give every figure of the table: one proof, by computation. Assumes nothing.
use mathlib.Core.Path.{◌≡◌, refl}
use Rattle.base_bounded.specs.Quantifiers.{all, any, least, tabulate, tally}
use Rattle.graph.specs.Hops.{flat, is, labelled, has}
use Rattle.graph.specs.Order.{before}
use Rattle.graph_check.specs.Check.{check_of, counts_fit, inside, first_outside, ascends_at, first_not_ascending}
use Rattle.walk_reach.specs.Reach.{leads_by}
use Rattle.walk_silent.specs.Silent.{on_ring, lowest_on_ring, ring_answer}
use Rattle.base_fixpoint.specs.Approximants.{approximant}
use Rattle.mark_confluence.specs.Rounds.{tried}
use Rattle.mark_confluence.specs.Marks.{marks_of, mark_of}
use Rattle.mark_senses.specs.Senses.{in_set_at, reaches_by, hop_or_stay, joins_at, answers_to, answers_from, answered_in, closes_in, marked_in, is_sense, sense_of, sense_answer}
use Rattle.reduce_representatives.specs.Representative.{marked_from, is_normal, next_state, after_steps, rep_of, new_of, map_of}
use Rattle.reduce_insertion.specs.Insertion.{insert, collected}
use Rattle.reduce_short_graph.specs.Short.{short_up_to, short_hops, short_shape, map_list}
use Rattle.reduce_entry.specs.Reduce.{reduce_answer, reduce_of}
use Rattle.test_worked_senses.specs.Table.{table_of, table}

pub table_holds : table_of table ≡ table
unfolding
    all any least tabulate tally flat is labelled has before check_of counts_fit inside first_outside ascends_at first_not_ascending leads_by on_ring lowest_on_ring ring_answer approximant tried marks_of mark_of
    in_set_at reaches_by hop_or_stay joins_at answers_to answers_from answered_in closes_in marked_in is_sense sense_of sense_answer marked_from is_normal next_state after_steps rep_of new_of map_of
    insert collected short_up_to short_hops short_shape map_list reduce_answer reduce_of
table_holds = refl
