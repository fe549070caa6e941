use Rattle.std.proofs.Common.{◌∷◌, [], ◌++◌, subst, IfOk}
use Rattle.form_reader.specs.Reader.{HasBegunAfter, IsAfterBytes, Steps, StepsBegun}
use Rattle.lisp_reading.specs.Setting.{Setting}
use Rattle.prevalence_store.proofs.steps.Settings.{called_setting}
use Rattle.sessions.proofs.input.step_in.Goals as goal

pub returns-clause-steps : goal.returns-clause-steps
returns-clause-steps g c = λ bytes.
    subst (λ (s : Setting). IsAfterBytes s c.args.reader.now bytes → IfOk c.step.result (Steps s c.step.new.self (bytes ++ c.args.byte ∷ [])))
    (called_setting c.args.world.now.0 c.args.mode g.R.Meaning.Meaning.functions (g.R.MacroFunctions.functions c.functions-functions.result.now)
    _ _ _ _ _ (g.met.R.MacroFunctions.as_meant c.functions-functions.result.now) c.functions-functions.ensures.whole (g.met.R.MacroFunctions.known c.functions-functions.result.now c.functions-functions.ensures.answers) c.requires.limits c.requires.table c.base_in-base.ensures.base c.packages.ensures c.package_in-package.ensures.name)
    (c.step.ensures.steps bytes)

pub returns-clause-has_begun : goal.returns-clause-has_begun
returns-clause-has_begun g c = λ bytes.
    subst (λ (s : Setting). IsAfterBytes s c.args.reader.now bytes → HasBegunAfter s c.args.reader.now bytes → IfOk c.step.result (StepsBegun s c.step.new.self (bytes ++ c.args.byte ∷ [])))
    (called_setting c.args.world.now.0 c.args.mode g.R.Meaning.Meaning.functions (g.R.MacroFunctions.functions c.functions-functions.result.now)
    _ _ _ _ _ (g.met.R.MacroFunctions.as_meant c.functions-functions.result.now) c.functions-functions.ensures.whole (g.met.R.MacroFunctions.known c.functions-functions.result.now c.functions-functions.ensures.answers) c.requires.limits c.requires.table c.base_in-base.ensures.base c.packages.ensures c.package_in-package.ensures.name)
    (c.step.ensures.has_begun bytes)
