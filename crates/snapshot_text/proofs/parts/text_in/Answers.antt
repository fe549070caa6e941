use Rattle.lisp_object.proofs.Restored.{from_text}
use Rattle.snapshot_text.proofs.parts.text_in.Goals as goal

pub returns-in_default-clause-read : goal.returns-in_default-clause-read
returns-in_default-clause-read c = λ proper bytes e. c.in_default.not-Text bytes (from_text c.args.datum.now bytes proper e)
