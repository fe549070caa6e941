use Rattle.lisp_object.specs.Datum.{object_of}
use Rattle.lisp_operators.proofs.PropertyRows.{name_ascii}
use Rattle.lisp_operators.proofs.packages.make.Goals as goal

pub returns-clause-proper : goal.returns-clause-proper
returns-clause-proper c =
    let u = c.args.world.now.0.packages in
    c.in_ok-text.ensures.proper
    (name_ascii u (object_of c.in_ok-one.field-0.now) c.in_ok-name.name.now c.in_ok-name.ensures (c.in_ok-one.ensures.arguments u c.requires).value)
