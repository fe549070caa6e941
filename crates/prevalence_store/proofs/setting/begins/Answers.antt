use Rattle.std.proofs.Common.{◌≡◌, ℕ, true, List, [], Option, IfSome, append-nil, subst}
use Rattle.lisp_object.specs.Object.{IsSound}
use Rattle.lisp_object.specs.Datum.{is_proper, object_of}
use Rattle.form_reader.specs.Reader.{IsOutcome}
use Rattle.lisp_reading.specs.Reading.{form, reads}
use Rattle.lisp_reading.specs.Setting.{Setting}
use Rattle.package_table.specs.Table.{Table}
use Rattle.package_table.specs.Symbols.{are_there}
use Rattle.plain_reader.specs.declared.plain.PlainForm.{PlainForm}
use Rattle.prevalence_store.specs.meaning.Acceptance.{setting_in}
use Rattle.prevalence_store.proofs.steps.Settings.{called_setting, plain_reads}
use Rattle.prevalence_store.proofs.setting.begins.Goals as goal

pub returns-clause-outcome : goal.returns-clause-outcome
returns-clause-outcome g c =
    subst (λ (s : Setting). IsOutcome c.in_ok-outcome.outcome (reads s c.args.text.now))
    (called_setting c.args.world.now.0 c.args.mode g.R.Meaning.Meaning.functions (g.R.MacroFunctions.functions c.macros.inside.functions)
    _ _ _ _ _ (g.met.R.MacroFunctions.as_meant c.macros.inside.functions) c.macros.invariant.1 (g.met.R.MacroFunctions.known c.macros.inside.functions c.macros.invariant.0)
    c.form-limits.ensures c.readtable_in-readtable.ensures c.base_in-base.ensures.base c.packages-packages.ensures c.package_in-package.ensures.name) c.in_ok-outcome.ensures.outcome

pub returns-in-Some-clause-outcome : goal.returns-in-Some-clause-outcome
returns-in-Some-clause-outcome g c =
    let functions = g.R.Meaning.Meaning.functions in
    let w = c.args.world.now.0 in
    let f = c.in-Some.plain in
    let found = c.in_ok-plain.field-0 in (
      subst (λ (t : List ℕ). reads (setting_in functions w c.args.mode) t ≡ form (object_of f.datum) 0 f.end f.end) (append-nil c.args.text.now)
          (plain_reads functions w c.args.mode _ _ _ _ _ c.args.text.now found f c.form-limits.ensures c.readtable_in-readtable.ensures c.base_in-base.ensures.base c.packages-packages.ensures
          c.package_in-package.ensures.name c.in-Some.is c.in_ok-plain.ensures.form []),
      subst (λ (o : Option PlainForm). IfSome o (λ f. is_proper f.datum ≡ true)) c.in-Some.is c.in_ok-plain.ensures.proper,
      subst (λ (o : Option PlainForm). IfSome o (λ f. IsSound (object_of f.datum))) c.in-Some.is c.in_ok-plain.ensures.sound,
    )

pub returns-in-Some-clause-all_there : goal.returns-in-Some-clause-all_there
returns-in-Some-clause-all_there g c =
    subst (λ (o : Option PlainForm). IfSome o (λ f. f.known ≡ true → are_there c.args.world.now.0.packages (object_of f.datum) ≡ true)) c.in-Some.is
    (subst (λ (t : Table). IfSome c.in_ok-plain.field-0 (λ f. f.known ≡ true → are_there t (object_of f.datum) ≡ true)) c.packages-packages.ensures c.in_ok-plain.ensures.known)
