-- What `clear` leaves has as many words as a table. Assumes nothing.
use Rattle.mark_batch_tables.proofs.clear.Goals as goal

pub returns : goal.returns
returns c = rw c.told-words at (c.fill.ensures.after (λ y e. e))
