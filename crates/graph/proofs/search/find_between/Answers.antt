-- `graph::search::find_between` meets its contract: it asks at the place that the search came to.
-- Assumes nothing.
use mathlib.Core.Path.{◌∙◌}
use native.Mathlib.Omega.{arith}
use Rattle.graph.proofs.Lookup.{find_found, find_end}
use Rattle.graph.proofs.search.find_between.Goals as goal

pub returns-then-at-past : goal.returns-then-at-past
returns-then-at-past c = c.found_or_gap.ensures ∙ find_found _ _ c.lower_between-at.ensures (omega arith) c.is_hop_at.ensures

pub returns : goal.returns
returns c = c.found_or_gap-2.ensures ∙ find_end _ _ c.lower_between-at.ensures c.if-at-past.false c.requires.absent
