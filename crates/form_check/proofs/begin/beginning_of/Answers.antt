use Rattle.std.proofs.Common.{[], IfOk, sym, subst, ◌∙◌}
use Rattle.lisp_reading.specs.declared.limits.Limits.{Limits}
use Rattle.lisp_reading.specs.Setting.{Setting, setting_of}
use Rattle.form_reader.specs.Reader.{HasBegunAfter, IsAfterBytes}
use Rattle.form_check.specs.Checking.{IsBeginning}
use Rattle.form_check.specs.declared.begin.Beginning.TheVariants as begins
use Rattle.form_check.proofs.Beginnings.{form_begins, refusal_begins, whole_begun, whole_fed}
use Rattle.form_check.proofs.begin.beginning_of.Goals as goal

pub returns-in-Form : goal.returns-in-Form
returns-in-Form g c =
    let under : Limits → Setting = λ limits. setting_of limits c.args.under.now.readtable.now c.args.under.now.base c.args.under.now.packages.now.0
    c.args.under.now.current.now (g.M.MacroFunctions.functions c.args.macros.now) in
    subst (λ (l : Limits). IsBeginning (under l) c.args.text.now (begins.Form c.in-Form.next)) (c.new-reader.ensures.limits ∙ c.form.ensures)
    (form_begins (under c.new-reader.result.limits) _ c.args.text.now _ _
    (c.in_ok-advance.ensures.feeds [] (c.new-reader.ensures.after (under c.new-reader.result.limits)))
    c.in-Form.datum c.in-Form.start c.in-Form.end c.in-Form.next c.in-Form.is (λ s t x a b n is. (c.forms_are_framed.ensures s t x a b n is).inside))

pub returns-in-Refused : goal.returns-in-Refused
returns-in-Refused g c =
    let under : Limits → Setting = λ limits. setting_of limits c.args.under.now.readtable.now c.args.under.now.base c.args.under.now.packages.now.0
    c.args.under.now.current.now (g.M.MacroFunctions.functions c.args.macros.now) in
    let setting : Setting = under c.new-reader.result.limits in
    subst (λ (l : Limits). IsBeginning (under l) c.args.text.now (begins.Refused c.in-Refused.code c.begun.result c.in-Refused.at)) (c.new-reader.ensures.limits ∙ c.form.ensures)
    (refusal_begins setting _ c.args.text.now _ _ c.in_ok-advance.ensures.within
    (c.in_ok-advance.ensures.feeds [] (c.new-reader.ensures.after setting))
    (c.in_ok-advance.ensures.has_begun [] (c.new-reader.ensures.after setting) (c.new-reader.ensures.has_begun setting))
    c.in-Refused.code c.in-Refused.at c.in-Refused.is c.refusals_are_decided.ensures.inside c.begun.result c.begun.ensures.value)

pub returns-in-More : goal.returns-in-More
returns-in-More g c =
    let under : Limits → Setting = λ limits. setting_of limits c.args.under.now.readtable.now c.args.under.now.base c.args.under.now.packages.now.0
    c.args.under.now.current.now (g.M.MacroFunctions.functions c.args.macros.now) in
    let setting : Setting = under c.new-reader.result.limits in
    let fed : IsAfterBytes (under c.feed.new.self.limits) c.feed.new.self c.args.text.now =
    subst (λ (l : Limits). IsAfterBytes (under l) c.feed.new.self c.args.text.now) (sym c.in_ok-advance.ensures.limits)
    (whole_fed setting c.feed.new.self c.args.text.now _ _ (c.in_ok-advance.ensures.feeds [] (c.new-reader.ensures.after setting)) c.in-More.is (c.in_ok-advance.ensures.whole c.in-More.is)) in
    let has : HasBegunAfter (under c.feed.new.self.limits) c.feed.new.self c.args.text.now =
    subst (λ (l : Limits). HasBegunAfter (under l) c.feed.new.self c.args.text.now) (sym c.in_ok-advance.ensures.limits)
    (whole_begun setting c.feed.new.self c.args.text.now _ _ (c.in_ok-advance.ensures.has_begun [] (c.new-reader.ensures.after setting) (c.new-reader.ensures.has_begun setting))
    c.in-More.is (c.in_ok-advance.ensures.whole c.in-More.is)) in
    subst (λ (l : Limits). IfOk c.finished-in-More.result (IsBeginning (under l) c.args.text.now)) (c.in_ok-advance.ensures.limits ∙ c.new-reader.ensures.limits ∙ c.form.ensures)
    (c.finished-in-More.ensures c.args.text.now fed has)
