use Rattle.program_tests.proofs.same.is_covered.Goals as goal

pub returns : goal.returns
returns g c = λ world known honest.
    c.kept_worlds_are_covered.ensures g.M.Meaning.Meaning.functions c.args.store.now.disk world honest (c.keeps_its_world.ensures world known honest)
