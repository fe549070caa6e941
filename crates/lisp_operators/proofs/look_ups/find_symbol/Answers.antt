use Rattle.lisp_object.specs.Datum.{object_of}
use Rattle.lisp_operators.proofs.PropertyRows.{text_ascii}
use Rattle.lisp_operators.proofs.look_ups.find_symbol.Goals as goal

pub found-requires-clause-name : goal.found-requires-clause-name
found-requires-clause-name c =
    let u = c.args.world.now.0.packages in
    text_ascii u (object_of c.in_ok-name.name.now) c.in_ok-name-2.name.now c.in_ok-name-2.ensures (c.in_ok-name.ensures.arguments u c.requires).0.value
