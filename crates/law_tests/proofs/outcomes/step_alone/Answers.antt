use Rattle.std.proofs.Common.{◌∷◌, ◌++◌, [], IfOk, subst}
use Rattle.form_reader.specs.Reader.{Steps, limits_of}
use Rattle.lisp_reading.specs.Setting.{setting_of}
use Rattle.law_tests.proofs.outcomes.step_alone.Goals as goal

pub returns-clause-undecided : goal.returns-clause-undecided
returns-clause-undecided g c = λ bytes outcome after more_decides same.
    let setting = setting_of (limits_of c.args.reader.now) c.args.readtable.now c.args.base c.args.packages.now.0 c.args.current.now (g.R.MacroFunctions.functions c.args.macros.now) in
    let text = bytes ++ c.args.byte ∷ [] in
    c.what_is_decided_is_answered.ensures setting c.step.new.self text outcome
    (subst (λ r. IfOk r (Steps setting c.step.new.self text)) more_decides (c.step.ensures.steps bytes after)) same

pub returns-clause-begins : goal.returns-clause-begins
returns-clause-begins g c = λ bytes more after between.
    let setting = setting_of (limits_of c.args.reader.now) c.args.readtable.now c.args.base c.args.packages.now.0 c.args.current.now (g.R.MacroFunctions.functions c.args.macros.now) in
    (c.texts_begin_between_forms.ensures.discarded setting c.args.reader.now bytes after between, c.texts_begin_between_forms.ensures.begins setting c.args.reader.now bytes more after between)
