use Rattle.lisp_reading.proofs.Refusals.{refusal_stays}
use Rattle.lisp_reading.proofs.laws.refusals_are_decided.Goals as goal

pub returns : goal.returns
returns c = record {
  inside = λ setting text code offset e. (refusal_stays setting text code offset e).0;
  decided = λ setting text more code offset e lt. (refusal_stays setting text code offset e).1 lt more;
}
