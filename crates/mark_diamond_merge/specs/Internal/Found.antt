-- The mark of a hop that was searched for. Assumes nothing: this is a definition.
use Rattle.std.specs.Prelude.{Result, Ok, Err}
use Rattle.std.specs.Prelude.{ℕ, Bool, false, List}
use Rattle.mark_confluence.specs.Internal.MarkSet.{is_marked}

-- a hop that was found is marked; one that was not found has no mark
abbrev pub found_marked : List ℕ → Result ℕ ℕ → Bool
found_marked ms (Ok i) = is_marked ms i
found_marked ms (Err i) = false
