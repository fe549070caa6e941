use Rattle.std.specs.Prelude.{pos}
use Rattle.lisp_object.proofs.Restored.{from_integer}
use Rattle.snapshot_text.proofs.parts.character_in.Goals as goal

pub returns-in_default-clause-read : goal.returns-in_default-clause-read
returns-in_default-clause-read c = λ proper n e small. c.in_default.not-Integer (pos n) (from_integer c.args.datum.now (pos n) proper e)
