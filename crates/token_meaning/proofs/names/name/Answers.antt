use Rattle.token_meaning.proofs.Ascii.{ascii_name}
use Rattle.token_meaning.proofs.names.name.Goals as goal

pub returns-in-Ok-clause-ascii : goal.returns-in-Ok-clause-ascii
returns-in-Ok-clause-ascii c e =
    rw c.in-Ok.ensures (ascii_name c.args.marks.now _ c.in_ok-parts.ensures e)
