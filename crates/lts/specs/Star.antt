-- Closures of a relation on states: `Star R`, the reflexive transitive closure (zero or more
-- steps); `Joined R`, the equivalence closure (zero or more steps, each taken either way). Assumes
-- nothing: these are definitions.
use Rattle.std.specs.Prelude.{ℕ}

pub data Star (R : ℕ → ℕ → Type 0) : ℕ → ℕ → Type 0 where
  stay : {s : ℕ} → Star R s s
  go : {s m t : ℕ} → R s m → Star R m t → Star R s t

-- document 01's class: "states joined by marked hops taken either way"
-- In the field: the equivalence closure of a relation; a class is one of its equivalence classes.
pub data Joined (R : ℕ → ℕ → Type 0) : ℕ → ℕ → Type 0 where
  same : {s : ℕ} → Joined R s s
  fore : {s m t : ℕ} → R s m → Joined R m t → Joined R s t
  back : {s m t : ℕ} → R m s → Joined R m t → Joined R s t
