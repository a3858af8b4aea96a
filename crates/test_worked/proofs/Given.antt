-- The definitions give every figure of the table of graphs worked by hand: one proof, by
-- computation. Assumes nothing.
use mathlib.Core.Path.{◌≡◌, refl}
use Rattle.base_bounded.specs.Quantifiers.{all, any, least, tabulate, tally, total}
use Rattle.graph.specs.Hops.{flat, is, labelled, has}
use Rattle.graph.specs.Order.{before}
use Rattle.graph_check.specs.Check.{check_of, counts_fit, inside, first_outside, ascends_at, first_not_ascending}
use Rattle.walk_reach.specs.Reach.{leads_by}
use Rattle.walk_silent.specs.Silent.{on_ring, lowest_on_ring, ring_answer}
use Rattle.base_fixpoint.specs.Approximants.{approximant}
use Rattle.mark_confluence.specs.Rounds.{survives, marked, closes, tried, answers, hop_answers, answer, closing}
use Rattle.mark_confluence.specs.Internal.Rounds.{answered}
use Rattle.mark_confluence.specs.Marks.{marks_of, mark_of}
use Rattle.mark_senses.specs.Senses.{in_set_at, reaches_by, hop_or_stay, joins_at, answers_to, answers_from, answered_in, closes_in, marked_in, is_sense, sense_of, sense_answer}
use Rattle.mark_entry.specs.Mark.{mark_answer}
use Rattle.mark_worklist.specs.Tests.{fell, still_marked, affected_at, affected, tested_in, tests_in, tests_up_to, tests_of}
use Rattle.mark_entry_fast.specs.Fast.{mark_fast_of}
use Rattle.reduce_representatives.specs.Representative.{marked_from, is_normal, next_state, after_steps, rep_of, new_of, map_of}
use Rattle.reduce_insertion.specs.Insertion.{insert, collected}
use Rattle.reduce_short_graph.specs.Short.{short_up_to, short_hops, short_shape, map_list}
use Rattle.reduce_entry.specs.Reduce.{reduce_answer, reduce_of}
use Rattle.audit_faults.specs.Faults.{initial_fault, preserved, lost_faults, match_at, matched_from, matched, unmatched, unmatched_faults, faults_of}
use Rattle.audit_faults.specs.First.{first_initial, lost_place, first_lost, unmatched_place, unmatched_state, first_unmatched, first_fault}
use Rattle.audit_admitted.specs.Admitted.{first_high, map_fits, audit_answer}
use Rattle.audit_entry.specs.Audit.{audit_of}
use Rattle.graph_find.specs.Find.{hops_before, find_of}
use Rattle.test_worked.specs.Table.{table_of, table, outcome_of, falls_in}

pub table_holds : table_of table ≡ table
unfolding
    all any least tabulate tally total flat is labelled has before check_of counts_fit inside first_outside ascends_at first_not_ascending leads_by on_ring lowest_on_ring ring_answer
    approximant survives marked closes tried answered answers hop_answers answer closing in_set_at reaches_by hop_or_stay joins_at answers_to answers_from answered_in closes_in marked_in is_sense sense_of sense_answer marks_of mark_of mark_answer fell still_marked affected_at affected tested_in tests_in tests_up_to tests_of mark_fast_of marked_from is_normal next_state after_steps rep_of new_of map_of
    insert collected short_up_to short_hops short_shape map_list initial_fault preserved lost_faults match_at matched_from matched unmatched unmatched_faults faults_of first_initial lost_place first_lost unmatched_place unmatched_state first_unmatched first_fault reduce_answer reduce_of first_high map_fits audit_answer audit_of hops_before find_of outcome_of falls_in
table_holds = refl
