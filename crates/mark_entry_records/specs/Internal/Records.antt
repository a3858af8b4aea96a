-- What it is that a flat list holds records. Assumes nothing: this is a definition.
use Rattle.std.specs.Prelude.{ℕ, ◌<◌, ◌≡◌, true, List, length, get_or}
use Rattle.graph.specs.Hops.{count, whole, hop_at}
use Rattle.graph.specs.Internal.Hops.{no_hop}
use Rattle.graph.specs.declared.Hop.{Hop}

-- "lends hops as a list of records", now of four numbers: a flat list holds the records ys, whole
-- hops only, as many, and at each place the same, its line too
pub record Holds (hs : List ℕ) (ys : List Hop) : Type 0 where
  pub whole_hops : whole hs ≡ true
  pub as_many : count hs ≡ length ys
  pub at_each : (i : ℕ) → i < length ys → hop_at hs i ≡ get_or ys i no_hop
