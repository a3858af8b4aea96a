-- The definitions give every answer of the table: one proof, by computation. Assumes nothing.
use mathlib.Core.Path.{◌≡◌, refl}
use Rattle.base_bounded.specs.Quantifiers.{all, any, least, tabulate, tally, total}
use Rattle.graph.specs.Hops.{flat, is, labelled, has}
use Rattle.graph.specs.Order.{before}
use Rattle.graph_check.specs.Check.{check_of, counts_fit, inside, first_outside, ascends_at, first_not_ascending}
use Rattle.walk_reach.specs.Reach.{leads_by}
use Rattle.walk_silent.specs.Silent.{on_ring, lowest_on_ring, ring_answer}
use Rattle.base_fixpoint.specs.Approximants.{approximant}
use Rattle.mark_confluence.specs.Rounds.{tried}
use Rattle.mark_senses.specs.Senses.{in_set_at, reaches_by, hop_or_stay, joins_at, answers_to, answers_from, answered_in, closes_in, marked_in, is_sense, sense_of, sense_answer}
use Rattle.mark_entry.specs.Mark.{mark_answer}
use Rattle.reduce_representatives.specs.Representative.{marked_from, is_normal, next_state, after_steps, rep_of, new_of, map_of}
use Rattle.reduce_insertion.specs.Insertion.{insert, collected}
use Rattle.reduce_short_graph.specs.Short.{short_up_to, short_hops, short_shape}
use Rattle.reduce_entry.specs.Reduce.{reduce_answer, reduce_of}
use Rattle.audit_faults.specs.Faults.{initial_fault, preserved, lost_faults, match_at, matched_from, matched, unmatched, unmatched_faults, faults_of}
use Rattle.audit_faults.specs.First.{first_initial, lost_place, first_lost, unmatched_place, unmatched_state, first_unmatched, first_fault}
use Rattle.audit_admitted.specs.Admitted.{first_high, map_fits, audit_answer}
use Rattle.audit_entry.specs.Audit.{audit_of}
use Rattle.test_worked_answers.specs.Table.{table_of, table}

pub table_holds : table_of table ≡ table
unfolding
    all any least tabulate tally total flat is labelled has before check_of counts_fit inside first_outside ascends_at first_not_ascending leads_by on_ring lowest_on_ring ring_answer approximant tried
    in_set_at reaches_by hop_or_stay joins_at answers_to answers_from answered_in closes_in marked_in is_sense sense_of sense_answer mark_answer marked_from is_normal next_state after_steps rep_of new_of map_of
    insert collected short_up_to short_hops short_shape reduce_answer reduce_of
    initial_fault preserved lost_faults match_at matched_from matched unmatched unmatched_faults faults_of first_initial lost_place first_lost unmatched_place unmatched_state first_unmatched first_fault first_high map_fits audit_answer audit_of
table_holds = refl
