-- The figures of read and write in the answer slice of the C ABI. Assumes nothing: these are
-- definitions.
use Rattle.std.specs.Prelude.{ℕ, List, [], ◌∷◌}
use Rattle.file_read.specs.declared.Contents.{Contents}
use Rattle.file_write.specs.declared.Written.{Written}
use Rattle.c_answer.specs.Numbers.{numbers_of}

-- "9: + states, labels, initial, hops, name block's place and length"
abbrev pub contents_numbers : Contents → List ℕ
contents_numbers c =
    numbers_of c.answer
    (c.shape.states ∷ c.shape.labels ∷ c.shape.initial ∷ c.hops ∷ c.names_place ∷ c.names_len ∷ [])

-- "4: + length"
abbrev pub written_numbers : Written → List ℕ
written_numbers w = numbers_of w.answer (w.length ∷ [])
