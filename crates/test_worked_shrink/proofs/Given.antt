-- The definitions give every figure of the table: one proof. The stages of a repetition are
-- computed one by one, each from the one before as the table says it, and the last of them is the
-- last stage. Assumes nothing.
use Prim.Native.Nat.{ℕ, zero, suc, ◌≤◌}
use mathlib.Core.Path.{◌≡◌, refl, sym, ap, ◌∙◌}
use mathlib.Core.Bool.{Bool, true, false}
use mathlib.Core.List.{List, [], ◌∷◌, map}
use native.Mathlib.Omega.{arith}
use borrow.Author.Tests.{leb-true}
use lib.ListN.{length}
use lib.Dec.{leb}
use Rattle.base_bounded.specs.Quantifiers.{all, any, least, tabulate, tally}
use Rattle.graph.specs.Hops.{count, flat, is, labelled, has}
use Rattle.graph.specs.Order.{before}
use Rattle.graph_check.specs.Check.{check_of, counts_fit, inside, first_outside, ascends_at, first_not_ascending}
use Rattle.walk_reach.specs.Reach.{leads_by}
use Rattle.walk_silent.specs.Silent.{on_ring, lowest_on_ring, ring_answer}
use Rattle.base_fixpoint.specs.Approximants.{approximant}
use Rattle.base_fixpoint.specs.Pairs.{Pairs}
use Rattle.mark_confluence.specs.Rounds.{tried}
use Rattle.mark_confluence.specs.Internal.MarkSet.{is_marked, mark_set_at, mark_set}
use Rattle.mark_confluence.specs.Marks.{mark_of, marks_of}
use Rattle.mark_senses.specs.Senses.{in_set_at, reaches_by, hop_or_stay, joins_at, answers_to, answers_from, answered_in, closes_in, marked_in, is_sense, sense_of, sense_answer}
use Rattle.reduce_representatives.specs.Representative.{marked_from, is_normal, next_state, after_steps, rep_of, new_of, map_of}
use Rattle.reduce_insertion.specs.Insertion.{insert, collected}
use Rattle.reduce_short_graph.specs.Short.{short_up_to, short_hops, short_shape, map_list}
use Rattle.reduce_entry.specs.Reduce.{reduce_answer}
use Rattle.shrink_compose.specs.Composed.{composed, identity_map}
use Rattle.shrink_iterate.specs.Iterate.{Stage, first_stage, next_stage, stage_marked, some_marked, marks_some, iterated, last_of, last_stage}
use Rattle.shrink_entry.specs.Shrink.{shrink_of, shrink_map_output, shrink_hops_output}
use Rattle.base_outputs.specs.Output.{on_front}
use Rattle.graph.specs.Answers.{accepted}
use Rattle.shrink_entry.specs.declared.Shrinking.{Shrinking}
use Rattle.test_worked_shrink.specs.Table.{Step, Shrunk, steps_of, shrunk_of, refused_of, table_of, chain_r1, chain_r2, chain_r3, chain_r8, p1_r1, p2_r1, twice_r2, table}
use Rattle.test_worked_shrink.proofs.Settled.{closes_at, left_at, settled}

-- the marks of a stage, by what there is to compute
data Marks (k : ℕ) (g : Stage) (ms : List ℕ) : Type 0 where
  marks : all (count g.hops) (closes_at (sense_of k) g.shape g.hops ms) ≡ true →
      all (count g.hops) (left_at (sense_of k) g.shape g.hops ms) ≡ true → Marks k g ms

marks_are : {k : ℕ} {g : Stage} {ms : List ℕ} → Marks k g ms → stage_marked k g ≡ mark_set g.hops ms
marks_are {k} {g} {ms} (marks c l) = sym (settled (sense_of k) g.shape g.hops ms c l)

-- a stage's test and its next stage, along any set
abbrev some : Stage → Pairs → Bool
some g u = any (count g.hops) (in_set_at g.hops u)

abbrev next : Stage → Pairs → Stage
next g u = record {
  shape = short_shape g.shape g.hops u;
  hops = flat (short_hops g.shape g.hops u);
  map = composed g.map (map_list g.shape g.hops u);
  reductions = suc g.reductions;
}

-- the reductions from g on: each marks something and leads to the next stage, and in the last stage
-- nothing is marked
data Steps (k : ℕ) : Stage → List Step → Type 0 where
  still : {g : Stage} → Marks k g [] → some g (mark_set g.hops []) ≡ false → Steps k g []
  step : {g : Stage} {t : Step} {ts : List Step} → Marks k g t.marks → some g (mark_set g.hops t.marks) ≡ true →
      marks_of g.hops (mark_set g.hops t.marks) ≡ t.marks → next g (mark_set g.hops t.marks) ≡ t.stage → Steps k t.stage ts → Steps k g (t ∷ ts)

unfoldable end : Stage → List Step → Stage
end g [] = g
end g (t ∷ ts) = end t.stage ts

-- what a step says, in the definitions' words
module _ {k : ℕ} {g : Stage} {ms : List ℕ} (m : Marks k g ms) where
  some_is : {b : Bool} → some g (mark_set g.hops ms) ≡ b → marks_some k g ≡ b
  unfolding some_marked
  some_is e = ap (some g) (marks_are m) ∙ e

  next_is : {h : Stage} → next g (mark_set g.hops ms) ≡ h → next_stage k g ≡ h
  next_is e = ap (next g) (marks_are m) ∙ e

  marks_is : marks_of g.hops (mark_set g.hops ms) ≡ ms → marks_of g.hops (stage_marked k g) ≡ ms
  marks_is e = ap (marks_of g.hops) (marks_are m) ∙ e

-- so the repetition ends in the last of them
steps_end : (k n : ℕ) (g : Stage) (ts : List Step) → length ts ≤ n → Steps k g ts → iterated k n g ≡ end g ts
unfolding iterated end
steps_end k zero g [] l e = refl
steps_end k (suc n) g [] l (still m e) = rw (some_is m e)
steps_end k zero g (t ∷ ts) l e = absurd (omega arith)
steps_end k (suc n) g (t ∷ ts) l (step m e _ p r) = rw (some_is m e, next_is m p) (steps_end k n t.stage ts (omega arith) r)

steps_are : (k : ℕ) (g : Stage) (ts : List Step) → Steps k g ts → steps_of k g ts ≡ ts
unfolding steps_of
steps_are k g [] e = refl
steps_are k g (t ∷ ts) (step m e q p r) = λ d. record { marks = marks_is m q d; stage = next_is m p d } ∷ ((ap (λ (h : Stage). steps_of k h ts) (next_is m p) ∙ steps_are k t.stage ts r) d)

-- the last stage of a graph as the table says it, and what is returned of a stage
abbrev last : Shrunk → Stage
last m = end (first_stage m.graph (flat m.hops)) m.steps

abbrev figures : Stage → Shrinking
figures g = record { answer = accepted; shape = g.shape; hops = count g.hops; reductions = g.reductions }

-- what there is to compute of one graph
record Row (m : Shrunk) : Type 0 where
  answers : reduce_answer m.graph (flat m.hops) m.sense (length m.map) (length m.short) ≡ accepted
  few : leb (length m.steps) m.graph.states ≡ true
  steps : Steps m.sense (first_stage m.graph (flat m.hops)) m.steps
  returns : figures (last m) ≡ m.returned
  maps : on_front (last m).map m.map ≡ m.map_after
  shorts : on_front (last m).hops m.short ≡ m.short_after

row_given : {m : Shrunk} → Row m → shrunk_of m ≡ m
unfolding last_of shrink_of shrink_map_output shrink_hops_output
row_given {m} r = λ d. record {
  graph = m.graph;
  hops = m.hops;
  sense = m.sense;
  map = m.map;
  short = m.short;
  steps = steps_are m.sense (first_stage m.graph (flat m.hops)) m.steps r.steps d;
  returned = returned d;
  map_after = mapped d;
  short_after = shortened d;
}
  where
    is : last_stage m.sense m.graph (flat m.hops) ≡ last m
    is = steps_end m.sense m.graph.states (first_stage m.graph (flat m.hops)) m.steps (leb-true _ _ r.few) r.steps

    returned : shrink_of m.graph (flat m.hops) m.sense (length m.map) (length m.short) ≡ m.returned
    returned = rw r.answers (ap figures is ∙ r.returns)

    mapped : shrink_map_output m.graph (flat m.hops) m.sense m.map m.short ≡ m.map_after
    mapped = rw r.answers (ap (λ (g : Stage). on_front g.map m.map) is ∙ r.maps)

    shortened : shrink_hops_output m.graph (flat m.hops) m.sense m.map m.short ≡ m.short_after
    shortened = rw r.answers (ap (λ (g : Stage). on_front g.hops m.short) is ∙ r.shorts)

data Rows : List Shrunk → Type 0 where
  none : Rows []
  row : {m : Shrunk} {ms : List Shrunk} → Row m → Rows ms → Rows (m ∷ ms)

rows_given : {ms : List Shrunk} → Rows ms → map shrunk_of ms ≡ ms
rows_given none = refl
rows_given (row r rs) = λ d. row_given r d ∷ rows_given rs d

rows : Rows table.shrunk
unfolding
    all any least tabulate tally flat is labelled has before check_of counts_fit inside first_outside ascends_at first_not_ascending leads_by on_ring lowest_on_ring ring_answer approximant tried
    in_set_at reaches_by hop_or_stay joins_at answers_to answers_from answered_in closes_in marked_in is_sense sense_of sense_answer marked_from is_normal next_state after_steps rep_of new_of map_of
    insert collected short_up_to short_hops short_shape map_list reduce_answer
    composed identity_map is_marked mark_set_at mark_set marks_of mark_of closes_at left_at end
rows = row chain_r1_row (row chain_r2_row (row chain_r3_row (row chain_r8_row (row p1_r1_row (row p2_r1_row (row twice_r2_row none)))))) where
  chain_r1_row : Row chain_r1
  chain_r1_row = record { answers = refl; few = refl; steps = step (marks refl refl) refl refl refl (step (marks refl refl) refl refl refl (still (marks refl refl) refl)); returns = refl; maps = refl; shorts = refl }

  chain_r2_row : Row chain_r2
  chain_r2_row = record { answers = refl; few = refl; steps = step (marks refl refl) refl refl refl (step (marks refl refl) refl refl refl (still (marks refl refl) refl)); returns = refl; maps = refl; shorts = refl }

  chain_r3_row : Row chain_r3
  chain_r3_row = record { answers = refl; few = refl; steps = step (marks refl refl) refl refl refl (step (marks refl refl) refl refl refl (still (marks refl refl) refl)); returns = refl; maps = refl; shorts = refl }

  chain_r8_row : Row chain_r8
  chain_r8_row = record { answers = refl; few = refl; steps = step (marks refl refl) refl refl refl (still (marks refl refl) refl); returns = refl; maps = refl; shorts = refl }

  p1_r1_row : Row p1_r1
  p1_r1_row = record { answers = refl; few = refl; steps = step (marks refl refl) refl refl refl (still (marks refl refl) refl); returns = refl; maps = refl; shorts = refl }

  p2_r1_row : Row p2_r1
  p2_r1_row = record { answers = refl; few = refl; steps = still (marks refl refl) refl; returns = refl; maps = refl; shorts = refl }

  twice_r2_row : Row twice_r2
  twice_r2_row = record { answers = refl; few = refl; steps = step (marks refl refl) refl refl refl (step (marks refl refl) refl refl refl (still (marks refl refl) refl)); returns = refl; maps = refl; shorts = refl }

refusals : map refused_of table.refused ≡ table.refused
unfolding
    all any least tabulate tally flat is labelled has before check_of counts_fit inside first_outside ascends_at first_not_ascending leads_by on_ring lowest_on_ring ring_answer approximant tried
    in_set_at reaches_by hop_or_stay joins_at answers_to answers_from answered_in closes_in marked_in is_sense sense_of sense_answer marked_from is_normal next_state after_steps rep_of new_of map_of
    insert collected short_up_to short_hops short_shape map_list reduce_answer
    shrink_of
refusals = refl

pub table_holds : table_of table ≡ table
table_holds = λ d. record { shrunk = rows_given rows d; refused = refusals d }
