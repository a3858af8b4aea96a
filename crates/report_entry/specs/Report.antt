-- What the program prints (document 01, after "Graphs worked by hand"). Assumes nothing: these are
-- definitions.
use Rattle.std.specs.Prelude.{ℕ, ◌+◌, ◌*◌, cond, List, [], length, eqb, leb, ltb}
use Rattle.graph.specs.Hops.{flat}
use Rattle.graph.specs.Answers.{most_states, most_hops, refused}
use Rattle.graph_check.specs.Check.{check_of}
use Rattle.graph.specs.declared.Shape.{Shape}
use Rattle.graph.specs.declared.Answer.{Answer}
use Rattle.walk_silent.specs.Silent.{ring_answer}
use Rattle.mark_confluence.specs.Rounds.{marked}
use Rattle.mark_confluence.specs.Marks.{mark_of}
use Rattle.reduce_representatives.specs.Representative.{map_of}
use Rattle.reduce_short_graph.specs.Short.{short_hops, short_shape}
use Rattle.file_fields.specs.Format.{shape_in, hop_list_in}
use Rattle.file_format.specs.Rows.{format_answer}
use Rattle.report_rows.specs.Rows.{lines_of, refusal_of}

-- the report of an accepted graph: its marks, its map and its short graph ("the program keeps 1",
-- whose marked set is document 01's)
unfoldable pub report_of : Shape → List ℕ → List ℕ
report_of sh hs = lines_of sh hs (mark_of hs (marked hs)) (map_of sh hs (marked hs)) (short_shape sh hs (marked hs)) (flat (short_hops sh hs (marked hs)))

-- the refusal, or what follows an acceptance
unfoldable pub unless_refused : Answer → List ℕ → List ℕ
unless_refused a text = cond (eqb a.number 0) text (refusal_of a)

-- of a graph: 1 to 4, then 5
unfoldable pub printed_graph : Shape → List ℕ → List ℕ
printed_graph sh hs = unless_refused (check_of sh hs) (unless_refused (ring_answer sh hs) (report_of sh hs))

-- of a file: its format, then its graph
unfoldable pub printed_file : List ℕ → List ℕ
printed_file b = unless_refused (format_answer b) (printed_graph (shape_in b) (hop_list_in b))

-- "the program stops at 65,536"
abbrev pub most_input : ℕ
most_input = 65536

-- "The program reads a file from standard input, reduces and prints"; it "prints `no 13 65536` for
-- more"
unfoldable pub printed_of : List ℕ → List ℕ
printed_of b = cond (ltb most_input (length b)) (refusal_of (refused 13 most_input)) (printed_file b)

-- a buffer of this many bytes holds whatever is printed; a shorter one is given nothing. `in` takes
-- 13 bytes at most, a state's `map` 14, `out` 19; a hop is either marked and printed with 17, or
-- becomes a short hop with 25, alone or with others, or is not printed
abbrev pub most_text : ℕ
most_text = 13 + 14 * most_states + 19 + 25 * most_hops

unfoldable pub printed_in : ℕ → List ℕ → List ℕ
printed_in capacity text = cond (leb most_text capacity) text []
