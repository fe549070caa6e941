use Rattle.std.proofs.Common.{Some, ap, ◌∙◌}
use Rattle.prevalence_store.specs.meaning.BeforeOperators.{rules_before_operators}
use Rattle.user_macros.specs.Functions.{no_functions}
use Rattle.wider_functions.proofs.Keeping.{earlier_among, none_are_among}
use Rattle.program_tests.proofs.earlier.opened_later.Goals as goal

pub returns : goal.returns
returns g c = λ world honest meant.
    let opened = c.in-Ok.ensures.opened in
    let functions = g.M.Meaning.Meaning.functions in
    opened.known ∙ ap (λ w. Some w)
    (c.newer_programs_open.ensures.opened rules_before_operators no_functions functions c.args.disk c.args.macros _ _ world earlier_among (none_are_among functions) honest meant opened)
