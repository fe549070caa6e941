use Rattle.std.proofs.Common.{◌≡◌, sym, subst}
use Rattle.lisp_reading.specs.Setting.{Setting, setting_of}
use Rattle.form_check.specs.Checking.{IsBeginning}
use Rattle.form_check.proofs.Beginnings.{ends, began_within, refused_from}
use Rattle.form_check.proofs.begin.finished.Goals as goal

pub returns : goal.returns
returns g c = λ text after has.
    let setting : Setting = setting_of c.args.reader.limits c.args.under.now.readtable.now c.args.under.now.base c.args.under.now.packages.now.0 c.args.under.now.current.now
    (g.M.MacroFunctions.functions c.args.macros.now) in
    subst (λ b. IsBeginning setting text b) (sym c.ended.ensures)
    (ends setting text c.in_ok-outcome.outcome c.begun-start.result (c.in_ok-outcome.ensures.outcome text after)
    (refused_from setting text c.in_ok-outcome.outcome _ c.begun-start.result c.begun-start.ensures.value (c.in_ok-outcome.ensures.has_begun text has))
    (began_within setting c.args.reader text c.begun-start.result c.begun-start.ensures.value has)
    (λ s t x a b n is. (c.forms_are_framed.ensures s t x a b n is).inside) c.refusals_are_decided.ensures.inside)
