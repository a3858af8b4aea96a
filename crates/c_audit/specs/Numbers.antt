-- The figures of the audit in the answer slice of the C ABI. Assumes nothing: this is a definition.
use Rattle.std.specs.Prelude.{ℕ, List, [], ◌∷◌}
use Rattle.audit_entry.specs.declared.Audit.{Audit}
use Rattle.c_answer.specs.Numbers.{numbers_of}

-- "7: fault count, kind, place, state"
abbrev pub audit_numbers : Audit → List ℕ
audit_numbers a = numbers_of a.answer (a.faults ∷ a.first.kind ∷ a.first.place ∷ a.first.state ∷ [])
