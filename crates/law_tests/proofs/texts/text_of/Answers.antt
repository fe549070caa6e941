use Rattle.law_tests.proofs.texts.text_of.Goals as goal

pub returns-clause-properties : goal.returns-clause-properties
returns-clause-properties c = λ functions rest fits.
    c.snapshot_lines_are_read.ensures.properties c.args.world.now.0 functions rest c.soundness.ensures.present fits
