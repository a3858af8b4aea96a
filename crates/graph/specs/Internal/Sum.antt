-- A hop's sum (a sort key), by which hops are compared. The meaning is the order by from, label and
-- to (Order); the law that joins the two is proofs/Sums. Assumes nothing: these are definitions.
use Rattle.std.specs.Prelude.{ℕ, ◌+◌, ◌*◌, ◌<◌}
use Rattle.graph.specs.declared.Hop.{Hop}

-- "from times 65,536 plus label, the whole times 65,536 plus to"
abbrev pub sum_of : Hop → ℕ
sum_of h = (h.from * 65536 + h.label) * 65536 + h.to

-- a hop whose label and to have 16 bits: the sums of such hops have the order of the hops, those of
-- others need not
pub record Narrow (h : Hop) : Type 0 where
  pub label_narrow : h.label < 65536
  pub to_narrow : h.to < 65536
