use Rattle.std.proofs.Common.{None, Some, refl, ap, ◌∙◌}
use Rattle.std.specs.Option.{option_and_then}
use Rattle.lisp_operators.specs.ArgumentKinds.{case_named}
use Rattle.lisp_operators.proofs.CaseNames.{case_told}
use Rattle.lisp_operators.proofs.kinds.case.Goals as goal

pub returns-in-Some : goal.returns-in-Some
returns-in-Some c =
    case_told c.in_ok-name.name.now (Some c.in-Some.letters) c.in-Some.ensures.variant c.in-Some.ensures.some
    ∙ ap (option_and_then case_named) c.in_ok-name.ensures

pub returns-in-None : goal.returns-in-None
returns-in-None c =
    (refl, case_told c.in_ok-name.name.now None c.in-None.ensures.variant tt ∙ ap (option_and_then case_named) c.in_ok-name.ensures)
