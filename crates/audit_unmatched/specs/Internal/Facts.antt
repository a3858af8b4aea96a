-- That the flags are those of a set of hops is a proposition, so that a value may hold it as a
-- ghost field. Assumes nothing.
use Rattle.std.specs.Prelude.{ℕ, Bool, List}
use Rattle.std.proofs.Props.{props}
use Rattle.walk_reach.specs.Internal.Reach.{Chooses}

pub chooses_prop : (hs : List ℕ) (c : ℕ → Bool) (flags : List Bool) → IsProp (Chooses hs c flags)
unfolding Chooses
chooses_prop hs c flags = hlevel props
