use Rattle.lisp_reading.proofs.Discardings.{empty_is_discarded, discarded_is_empty}
use Rattle.lisp_reading.proofs.laws.empty_texts_are_discarded.Goals as goal

pub returns : goal.returns
returns c = record { discarded = empty_is_discarded; empty = discarded_is_empty }
