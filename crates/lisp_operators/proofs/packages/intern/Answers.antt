use Rattle.std.proofs.Common.{sym, ap, ◌∙◌}
use Rattle.std.specs.List.{list_all}
use Rattle.lisp_object.specs.Ascii.{is_ascii}
use Rattle.lisp_object.specs.Datum.{object_of}
use Rattle.lisp_operators.proofs.PropertyRows.{home_ascii, text_ascii}
use Rattle.lisp_operators.proofs.Storable.{text_kind}
use Rattle.lisp_operators.proofs.packages.intern.Goals as goal

pub intern-requires : goal.intern-requires
intern-requires c =
    let u = c.args.world.now.0.packages in
    text_kind u (object_of c.in_ok-name.name.now) c.in_ok-name-2.name.now (sym c.in_ok-name-2.ensures) (c.in_ok-name.ensures.arguments u c.requires).0.value

pub returns-clause-proper : goal.returns-clause-proper
returns-clause-proper c =
    let u = c.args.world.now.0.packages in
    c.in_ok-symbol.ensures.proper
    (ap (list_all is_ascii) c.as_slice-2.ensures
    ∙ home_ascii c.intern.new.self.0 c.as_slice.result.now c.in_ok-name-2.name.now c.in_ok-interned.interned.home c.soundness.ensures.present c.in_ok-interned.ensures.finds)
    (text_ascii u (object_of c.in_ok-name.name.now) c.in_ok-name-2.name.now c.in_ok-name-2.ensures (c.in_ok-name.ensures.arguments u c.requires).0.value)
