use Rattle.std.proofs.Common.{subst, IfOk}
use Rattle.form_reader.specs.Reader.{begun, HasBegunAfter, IsAfterBytes, IsOutcome, RefusesFrom}
use Rattle.lisp_reading.specs.Reading.{reads}
use Rattle.lisp_reading.specs.Setting.{Setting}
use Rattle.prevalence_store.proofs.steps.Settings.{called_setting}
use Rattle.sessions.proofs.input.finish_in.Goals as goal

pub returns-clause-outcome : goal.returns-clause-outcome
returns-clause-outcome g c = λ bytes.
    subst (λ (s : Setting). IsAfterBytes s c.args.reader bytes → IfOk c.finish.result (λ outcome. IsOutcome outcome (reads s bytes)))
    (called_setting c.args.world.now.0 c.args.mode g.R.Meaning.Meaning.functions (g.R.MacroFunctions.functions c.functions-functions.result.now)
    _ _ _ _ _ (g.met.R.MacroFunctions.as_meant c.functions-functions.result.now) c.functions-functions.ensures.whole (g.met.R.MacroFunctions.known c.functions-functions.result.now c.functions-functions.ensures.answers) c.requires.limits c.readtable_in-readtable.ensures c.base_in-base.ensures.base c.packages.ensures c.package_in-package.ensures.name)
    (c.finish.ensures.outcome bytes)

pub returns-clause-has_begun : goal.returns-clause-has_begun
returns-clause-has_begun g c = λ bytes.
    subst (λ (s : Setting). HasBegunAfter s c.args.reader bytes → IfOk c.finish.result (RefusesFrom s bytes (begun c.args.reader)))
    (called_setting c.args.world.now.0 c.args.mode g.R.Meaning.Meaning.functions (g.R.MacroFunctions.functions c.functions-functions.result.now)
    _ _ _ _ _ (g.met.R.MacroFunctions.as_meant c.functions-functions.result.now) c.functions-functions.ensures.whole (g.met.R.MacroFunctions.known c.functions-functions.result.now c.functions-functions.ensures.answers) c.requires.limits c.readtable_in-readtable.ensures c.base_in-base.ensures.base c.packages.ensures c.package_in-package.ensures.name)
    (c.finish.ensures.has_begun bytes)
