-- `file_lines::line_in`: each way out is a case of the definition. Assumes nothing.
use Rattle.file_lines.specs.LineField.{line_in}
use Rattle.file_lines.proofs.line_in.Goals as goal

pub returns-in-Some : goal.returns-in-Some
unfolding line_in
returns-in-Some c = rw c.in-Some.is c.number_in.ensures

pub returns-in-None : goal.returns-in-None
unfolding line_in
returns-in-None c = rw c.in-None.is
