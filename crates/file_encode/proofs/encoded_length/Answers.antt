-- Each part of the file is short, and its length is the sum of its parts. Assumes nothing.
use native.Mathlib.Omega.{arith}
use Rattle.file_encode.proofs.Encoded.{length_encode, initial_most, hop_bytes_most, line_bytes_most}
use Rattle.file_encode.proofs.encoded_length.Goals as goal

pub overflow_add-result : goal.overflow_add-result
overflow_add-result c = omega (arith, initial_most c.args.shape, hop_bytes_most c.args.hops.now, line_bytes_most c.args.hops.now)

pub overflow_add-result-2 : goal.overflow_add-result-2
overflow_add-result-2 c = omega (arith, initial_most c.args.shape, hop_bytes_most c.args.hops.now, line_bytes_most c.args.hops.now)

pub overflow_add-result-3 : goal.overflow_add-result-3
overflow_add-result-3 c = omega (arith, initial_most c.args.shape, hop_bytes_most c.args.hops.now, line_bytes_most c.args.hops.now)

pub overflow_add-result-4 : goal.overflow_add-result-4
overflow_add-result-4 c = omega (arith, initial_most c.args.shape, hop_bytes_most c.args.hops.now, line_bytes_most c.args.hops.now)

pub returns : goal.returns
returns c = omega (arith, length_encode c.args.shape c.args.hops.now c.args.names.now)
