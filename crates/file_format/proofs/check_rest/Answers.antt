-- Each way out is a case of the definition. Assumes nothing.
use mathlib.Core.Path.{◌∙◌}
use native.Mathlib.Omega.{arith}
use Rattle.file_names.proofs.Blocks.{name_most}
use Rattle.file_fields.proofs.Laws.{line_bytes_most}
use Rattle.file_format.proofs.Answers.{rest_exact, rest_early, rest_left, rest_searchable, rest_redundant, rest_bad, rest_good}
use Rattle.file_format.proofs.check_rest.Goals as goal

pub overflow_add-end : goal.overflow_add-end
overflow_add-end c =
    let a = c.args in
    omega (
      arith,
      name_most a.rest.now (λ i. omega (arith, c.type_inv.rest i)) c.from-n.result,
      line_bytes_most a.file.now (λ i. omega (arith, c.type_inv.file i)),
    )

pub returns-then-rest-end-clause-answers : goal.returns-then-rest-end-clause-answers
returns-then-rest-end-clause-answers c =
    rest_early c.requires (c.from-n.ensures ∙ c.names_in.ensures) c.end_of-names_end.ensures c.line_bytes_in.ensures c.if-rest-end.true

pub returns-then-end-rest-clause-answers : goal.returns-then-end-rest-clause-answers
returns-then-end-rest-clause-answers c =
    rest_left c.requires (c.from-n.ensures ∙ c.names_in.ensures) c.end_of-names_end.ensures c.line_bytes_in.ensures c.if-end-rest.true

pub invariant_of-exact : goal.invariant_of-exact
invariant_of-exact c = record {
  exact = rest_exact c.requires (c.from-n.ensures ∙ c.names_in.ensures) c.end_of-names_end.ensures c.line_bytes_in.ensures (omega arith);
}

pub returns-then-redundant_bit-clause-answers : goal.returns-then-redundant_bit-clause-answers
returns-then-redundant_bit-clause-answers c =
    rest_redundant c.requires (c.from-n.ensures ∙ c.names_in.ensures) c.end_of-names_end.ensures c.line_bytes_in.ensures (omega arith) c.redundant_bit.ensures
    c.if-redundant_bit.true

pub first_bad-bad-requires : goal.first_bad-bad-requires
first_bad-bad-requires c =
    rest_searchable c.requires (c.from-n.ensures ∙ c.names_in.ensures) c.end_of-names_end.ensures c.line_bytes_in.ensures (omega arith) (omega arith)

pub returns-then-bad-names_end-clause-answers : goal.returns-then-bad-names_end-clause-answers
returns-then-bad-names_end-clause-answers c =
    rest_bad c.requires (c.from-n.ensures ∙ c.names_in.ensures) c.end_of-names_end.ensures c.line_bytes_in.ensures (omega arith) c.redundant_bit.ensures
    c.if-redundant_bit.false c.first_bad-bad.ensures c.if-bad-names_end.true

pub returns-clause-answers : goal.returns-clause-answers
returns-clause-answers c =
    rest_good c.requires (c.from-n.ensures ∙ c.names_in.ensures) c.end_of-names_end.ensures c.line_bytes_in.ensures (omega arith) c.redundant_bit.ensures
    c.if-redundant_bit.false c.first_bad-bad.ensures c.if-bad-names_end.false
