use Rattle.std.proofs.Common.{ap, refl, ◌∙◌}
use Rattle.std.specs.List.{list_all}
use Rattle.lisp_object.specs.Ascii.{is_ascii}
use Rattle.lisp_operators.proofs.PropertyRows.{package_name_ascii}
use Rattle.lisp_operators.proofs.packages.enter.Goals as goal

pub returns-clause-proper : goal.returns-clause-proper
returns-clause-proper c =
    let s = c.args.world.now.0 in
    c.in_ok-value.ensures.proper
    (ap (list_all is_ascii) (c.as_slice.ensures.value ∙ c.in_ok-package.ensures.items)
    ∙ package_name_ascii s s.packages c.in_ok-package_named.field-0.now c.soundness.ensures.present refl c.in_ok-package_named.ensures.there)
