use Rattle.std.proofs.Common.{Some, ap, ◌∙◌}
use Rattle.std.specs.Option.{option_or}
use Rattle.evaluator.specs.Operations.{among, operators_on_packages, operators_on_readtables}
use Rattle.evaluator.proofs.Heads.{operator_named_among}
use Rattle.evaluator.proofs.operation.Operation.named.Goals as goal

pub returns-in-Some : goal.returns-in-Some
returns-in-Some c = λ names.
    let name = c.args.name.now in
    operator_named_among names name (Some c.in-Some.operation)
    (ap (λ r. option_or r (option_or (among operators_on_packages name) (among operators_on_readtables name))) c.in-Some.ensures)

pub returns-in-Some-on_packages : goal.returns-in-Some-on_packages
returns-in-Some-on_packages c = λ names.
    let name = c.args.name.now in
    operator_named_among names name (Some c.in-Some-on_packages.operation)
    (ap (λ r. option_or r (among operators_on_readtables name)) c.in-Some-on_packages.ensures
    ∙ ap (λ r. option_or r (option_or (among operators_on_packages name) (among operators_on_readtables name))) c.in-None.ensures)
