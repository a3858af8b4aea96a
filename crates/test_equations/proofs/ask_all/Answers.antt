-- What `check` accepts is admitted. Assumes nothing.
use Rattle.graph.proofs.Accepts.{accepts}
use Rattle.graph_check.proofs.Checked.{check_admitted}
use Rattle.test_equations.proofs.ask_all.Goals as goal

pub ask_each-requires : goal.ask_each-requires
ask_each-requires g c = check_admitted _ _ (accepts c.in-Ok.ensures)
