-- The tables are those of a batch, and the filter by them is a step of a sweep. Assumes nothing.
use Rattle.mark_senses.specs.Internal.Numbers.{condition_of}
use Rattle.mark_batch.proofs.Trying.{Tables, filtered_swept}
use Rattle.mark_batch.proofs.try_batch.Goals as goal

pub returns : goal.returns
returns c =
    let s = c.args.input in
    let b = c.args.batch in
    let tables : Tables (condition_of s.sense) s.silent.hops.now _ b.base b.m _ =
    record {
      ends = _;
      closed = _;
      followed = _;
      labels = _;
      taken = _;
      ends_are = c.put_keys.ensures;
      closed_are = c.closing_table.ensures;
      followed_are = c.after_table.ensures;
      labels_are = c.put_keys-2.ensures;
      taken_are = c.put_answers.ensures;
      answers_are = c.before_table.ensures;
    } in
    filtered_swept (condition_of s.sense) s.shape s.silent.hops.now c.args.marks.now c.requires.marking b.base b.m _ _
    b.few c.requires.within c.put_keys-3.ensures tables _ _ c.filter.ensures
