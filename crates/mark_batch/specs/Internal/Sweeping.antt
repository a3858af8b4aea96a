-- What marks keep, and what tests leave of them, for what a sweep needs. Assumes nothing: these are
-- definitions.
use Rattle.std.specs.Prelude.{ℕ, List}
use Rattle.mark_removal.specs.Internal.Removal.{Marking, Swept}
use Rattle.mark_senses.specs.Senses.{marked_by}
use Rattle.mark_senses.specs.Internal.Numbers.{sense_number}
use Rattle.mark_batch.specs.declared.input.SweepInput.{SweepInput}

-- what marks keep while sweeps run, in the sense and the graph that are swept
abbrev pub MarkingIn : SweepInput → List ℕ → Type 0
MarkingIn s ms = Marking s.silent.hops.now (marked_by (sense_number s.sense) s.shape s.silent.hops.now) ms

-- r marks went, and if none went then something is known of the marks
abbrev pub SweptIn : SweepInput → (List ℕ → Type 0) → List ℕ → List ℕ → ℕ → Type 0
SweptIn s Known ms new r = Swept s.silent.hops.now (marked_by (sense_number s.sense) s.shape s.silent.hops.now) Known ms new r
