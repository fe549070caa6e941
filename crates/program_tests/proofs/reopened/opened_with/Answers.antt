use Rattle.std.proofs.Common.{Some, ap, ◌∙◌}
use Rattle.user_macros.specs.Functions.{no_functions}
use Rattle.wider_functions.proofs.Keeping.{none_are_among}
use Rattle.program_tests.proofs.reopened.opened_with.Goals as goal

pub returns : goal.returns
returns g c = λ world honest meant.
    let opened = c.in-Ok.ensures.opened in
    opened.known ∙ ap (λ w. Some w)
    (c.more_functions_open.ensures.opened no_functions g.M.Meaning.Meaning.functions c.args.disk c.args.macros _ _ world (none_are_among g.M.Meaning.Meaning.functions) honest meant opened)
