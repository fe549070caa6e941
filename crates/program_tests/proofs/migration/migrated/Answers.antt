use Rattle.std.proofs.Common.{Some, ap, ◌∙◌}
use Rattle.program_tests.proofs.migration.migrated.Goals as goal

pub returns : goal.returns
returns g c = λ world honest meant.
    let opened = c.in-Ok.ensures.opened in
    opened.known ∙ ap (λ w. Some w)
    (c.version_1_opens.ensures.opened g.M.Meaning.Meaning.functions c.args.disk c.args.macros _ _ world honest meant opened).0
