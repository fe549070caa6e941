use Rattle.std.proofs.Common.{Some, ap, sym, ◌∙◌}
use Rattle.law_tests.proofs.earlier_files.opened.Goals as goal

pub returns : goal.returns
returns g c = λ world honest meant.
    let opened = c.in-Ok.ensures.opened in
    let means = c.version_2_stays.ensures.files g.M.Meaning.Meaning.functions (g.D.Disk.state c.args.disk).reads world meant in
    opened.known ∙ ap (λ w. Some w) (sym ((opened.reopens honest).only world means))
