-- The audit of what an accepted `reduce` left in its outputs. Assumes nothing: these are
-- definitions.
use Rattle.std.specs.Prelude.{ℕ, cond, List, take, eqb}
use Rattle.graph.specs.Hops.{between}
use Rattle.graph.specs.declared.Shape.{Shape}
use Rattle.reduce_entry.specs.declared.Reduction.{Reduction}
use Rattle.audit_faults.specs.First.{no_fault}
use Rattle.audit_entry.specs.Audit.{audit_of}
use Rattle.audit_entry.specs.declared.Audit.{Audit}

-- "What an accepted reduce left is the front of the map output, one element a state, and the front
-- of the output for short hops, as long as the returned hop count takes, with the returned counts
-- and initial state." Where `reduce` refused it left nothing to audit: its own answer again, and no
-- count
unfoldable pub audit_of_reduce : Shape → List ℕ → Reduction → List ℕ → List ℕ → Audit
audit_of_reduce sh hs red map short =
    cond (eqb red.answer.number 0) (audit_of sh red.shape hs (between short 0 red.hops) (take sh.states map))
    (record { answer = red.answer; faults = 0; first = no_fault })
