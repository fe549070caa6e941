use Rattle.std.proofs.Common.{sym}
use Rattle.lisp_object.specs.Datum.{object_of}
use Rattle.lisp_operators.proofs.Storable.{character_kind}
use Rattle.lisp_operators.proofs.readtables.set_syntax.Goals as goal

pub set_syntax_from_char-made-requires-clause-to : goal.set_syntax_from_char-made-requires-clause-to
set_syntax_from_char-made-requires-clause-to c =
    let u = c.args.world.now.0.packages in
    character_kind u (object_of c.in_ok-to.to.now) c.in_ok-to-2.to (sym c.in_ok-to-2.ensures) (c.in_ok-to.ensures.arguments u c.requires).0.value

pub set_syntax_from_char-made-requires-clause-from : goal.set_syntax_from_char-made-requires-clause-from
set_syntax_from_char-made-requires-clause-from c =
    let u = c.args.world.now.0.packages in
    character_kind u (object_of c.in_ok-to.from.now) c.in_ok-from.from (sym c.in_ok-from.ensures) (c.in_ok-to.ensures.arguments u c.requires).1.value
