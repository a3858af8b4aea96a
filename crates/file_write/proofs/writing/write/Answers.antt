-- A refusal writes nothing, and acceptance says that the output is long enough. Assumes nothing.
use Rattle.std.proofs.Common.{refl}
use Rattle.graph.proofs.Accepts.{refusal_ne0}
use Rattle.file_write.proofs.Given.{refused_writes, gives_length, gives_writable, accepted_writes}
use Rattle.file_write.proofs.writing.write.Goals as goal

pub returns-in_err-length-clause-writes : goal.returns-in_err-length-clause-writes
returns-in_err-length-clause-writes c = refused_writes _ _ _ _ c.in_err-length.ensures (refusal_ne0 _)

pub put_file-requires-clause-writable : goal.put_file-requires-clause-writable
put_file-requires-clause-writable c = gives_writable _ _ _ _ c.in_ok-length.ensures refl

pub put_file-requires-clause-size : goal.put_file-requires-clause-size
put_file-requires-clause-size c = gives_length _ _ _ _ c.in_ok-length.ensures refl

pub returns-clause-writes : goal.returns-clause-writes
returns-clause-writes c = accepted_writes _ _ _ _ c.in_ok-length.ensures refl c.put_file.ensures
