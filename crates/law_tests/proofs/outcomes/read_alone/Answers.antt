use Rattle.std.proofs.Common.{◌∙◌, sym, subst}
use Rattle.form_reader.specs.Reader.{IsOutcome}
use Rattle.lisp_reading.specs.Reading.{ReadingResult, reads}
use Rattle.lisp_reading.specs.Setting.{Setting, setting_of}
use Rattle.law_tests.proofs.Knowing.{from_start, known_of}
use Rattle.law_tests.proofs.outcomes.read_alone.Goals as goal

pub returns-clause-known : goal.returns-clause-known
returns-clause-known g c =
    let text = c.args.bytes.now in
    let setting = setting_of c.args.limits c.args.readtable.now c.args.base c.args.packages.now.0 c.args.current.now (g.R.MacroFunctions.functions c.args.macros.now) in
    known_of setting text
    (λ x starts stops next is. record {
      within = c.forms_are_within_the_limit.ensures setting text x starts stops next is;
      depth = c.forms_fit.ensures.depth setting text x starts stops next is;
      begins = c.a_text_is_decided.ensures.form setting text x starts stops next is;
      decided = λ more before. c.forms_are_decided.ensures setting text more x starts stops next is before;
      wider = λ most le. c.wider_limits.ensures setting text most x starts stops next le is;
      again = λ more before. c.spaced_forms_are_framed.ensures.again setting text more x starts stops next is before;
    })
    (c.empty_texts_are_discarded.ensures.discarded setting text)
    (c.refusals_are_of_reading.ensures setting text)
    c.in_ok-outcome.outcome c.in_ok-outcome.ensures.outcome

pub returns-clause-goes_on : goal.returns-clause-goes_on
returns-clause-goes_on g c =
    let text = c.args.bytes.now in
    let setting = setting_of c.args.limits c.args.readtable.now c.args.base c.args.packages.now.0 c.args.current.now (g.R.MacroFunctions.functions c.args.macros.now) in
    subst (λ (o : ReadingResult). IsOutcome c.in_ok-outcome.outcome o) (from_start setting text ∙ c.reading_goes_on.ensures.form setting 0 text) c.in_ok-outcome.ensures.outcome

pub returns-clause-packages : goal.returns-clause-packages
returns-clause-packages g c = λ others same.
    let setting = setting_of c.args.limits c.args.readtable.now c.args.base c.args.packages.now.0 c.args.current.now (g.R.MacroFunctions.functions c.args.macros.now) in
    subst (λ (o : ReadingResult). IsOutcome c.in_ok-outcome.outcome o) (sym (c.only_what_is_found_matters.ensures setting others c.args.bytes.now same)) c.in_ok-outcome.ensures.outcome

pub returns-clause-names : goal.returns-clause-names
returns-clause-names g c = λ names in_names in_functions.
    let functions = g.R.MacroFunctions.functions c.args.macros.now in
    subst (λ (setting : Setting). IsOutcome c.in_ok-outcome.outcome (reads setting c.args.bytes.now))
    (sym (c.only_registered_names_matter.ensures c.args.limits c.args.readtable.now c.args.base c.args.packages.now.0 c.args.current.now functions names in_names in_functions))
    c.in_ok-outcome.ensures.outcome
