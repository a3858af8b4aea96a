-- Each way out is a case of the definition. Assumes nothing.
use native.Mathlib.Omega.{arith}
use Rattle.file_format.proofs.Answers.{over_length, high_bits, place_early}
use Rattle.file_fields.proofs.Laws.{rest_part}
use Rattle.file_format.proofs.check_format.Goals as goal

pub returns-then-file-gt-MOST_BYTES-clause-answers : goal.returns-then-file-gt-MOST_BYTES-clause-answers
returns-then-file-gt-MOST_BYTES-clause-answers c = over_length _ c.if-file-gt-MOST_BYTES.true

pub returns-then-byte_at-ge16-clause-answers : goal.returns-then-byte_at-ge16-clause-answers
returns-then-byte_at-ge16-clause-answers c = high_bits _ (omega arith) (omega arith)

pub returns-then-file-place-clause-answers : goal.returns-then-file-place-clause-answers
returns-then-file-place-clause-answers c = place_early _ (omega arith) (omega arith) c.names_place-place.ensures c.if-file-place.true

pub check_rest-requires : goal.check_rest-requires
check_rest-requires c = record {
  short = omega arith;
  low = omega arith;
  begins = c.names_place-place.ensures;
  follows = rest_part _ c.names_place-place.ensures;
  within = omega arith;
}
