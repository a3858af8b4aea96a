-- What stands in one map after another, and in the map of own numbers. Assumes nothing.
use Prim.Native.Nat.{ℕ, ◌<◌}
use mathlib.Core.Path.{◌≡◌}
use mathlib.Core.List.{List}
use lib.ListN.{length}
use Rattle.base_bounded.proofs.Quantifiers.{length_tabulate, get_d_tabulate}
use Rattle.graph.specs.Map.{mapped}
use Rattle.graph.specs.declared.Shape.{Shape}
use Rattle.audit_admitted.specs.Admitted.{AdmittedMap}
use Rattle.shrink_compose.specs.Composed.{composed, identity_map}

pub composed_length : (m n : List ℕ) → length (composed m n) ≡ length m
unfolding composed
composed_length m n = length_tabulate _ _

pub composed_at : (m n : List ℕ) {s : ℕ} → s < length m → mapped (composed m n) s ≡ mapped n (mapped m s)
unfolding composed
composed_at m n l = get_d_tabulate (λ (s : ℕ). mapped n (mapped m s)) (length m) l

pub identity_length : (n : ℕ) → length (identity_map n) ≡ n
unfolding identity_map
identity_length n = length_tabulate _ n

pub identity_at : (n : ℕ) {s : ℕ} → s < n → mapped (identity_map n) s ≡ s
unfolding identity_map
identity_at n l = get_d_tabulate (λ (s : ℕ). s) n l

-- of two admitted maps one after the other is admitted
pub composed_admitted : {sh1 sh2 sh3 : Shape} {m n : List ℕ} → AdmittedMap sh1 sh2 m → AdmittedMap sh2 sh3 n → AdmittedMap sh1 sh3 (composed m n)
composed_admitted {m = m} {n = n} f g = record {
  one_a_state = rw (composed_length m n) f.one_a_state;
  entries_in = λ s l. rw (composed_at m n {s = s} (rw f.one_a_state l)) (g.entries_in (mapped m s) (f.entries_in s l));
}
