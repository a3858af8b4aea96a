-- Lists one behind the other, as the hops and the lines of a file and the lines of a report stand.
-- Assumes nothing: this is a definition.
use Rattle.std.specs.Prelude.{ℕ, zero, suc, List, [], ◌++◌}

-- f 0, f 1, .. up to f (n - 1), one behind the other.
-- In the field: concatenation.
unfoldable pub concat : ℕ → (ℕ → List ℕ) → List ℕ
concat zero f = []
concat (suc n) f = concat n f ++ f n
