use Rattle.std.proofs.Common.{◌≡◌, ◌<◌, ◌++◌, true, List, ℕ, [], length, Option, IfSome, append-nil, sym, subst, ◌∙◌}
use Rattle.std.proofs.lemmas.Bool.{eqb-true}
use Rattle.lisp_object.specs.Object.{IsSound}
use Rattle.lisp_object.specs.Datum.{is_proper, object_of}
use Rattle.lisp_reading.specs.declared.limits.Limits.{Limits}
use Rattle.lisp_reading.specs.Reading.{form, reads}
use Rattle.plain_reader.specs.declared.plain.PlainForm.{PlainForm}
use Rattle.lisp_reading.specs.Setting.{Setting, setting_of}
use Rattle.form_reader.proofs.Feeds.{whole_form, whole_refusal, whole_after, finished_whole, finished_none, none_in, decided_not_more, form_is, refused_is}
use Rattle.form_reader.proofs.reader.whole.read_one.Goals as goal

pub returns-in-Some-clause-outcome : goal.returns-in-Some-clause-outcome
returns-in-Some-clause-outcome g c =
    let functions = g.R.MacroFunctions.functions c.args.macros.now in
    let setting = setting_of c.args.limits c.args.readtable.now c.args.base c.args.packages.now.0 c.args.current.now functions in
    let bytes = c.args.bytes.now in
    let f = c.in-Some.plain in (
      subst (λ (t : List ℕ). reads setting t ≡ form (object_of f.datum) 0 f.end f.end) (append-nil bytes)
          (subst (λ (o : Option PlainForm). IfSome o (λ f. reads setting (bytes ++ []) ≡ form (object_of f.datum) 0 f.end f.end)) c.in-Some.is
          (c.in_ok-plain.ensures.form functions [])),
      subst (λ (o : Option PlainForm). IfSome o (λ f. is_proper f.datum ≡ true)) c.in-Some.is c.in_ok-plain.ensures.proper,
      subst (λ (o : Option PlainForm). IfSome o (λ f. IsSound (object_of f.datum))) c.in-Some.is c.in_ok-plain.ensures.sound,
    )

pub returns-in-Form-clause-outcome : goal.returns-in-Form-clause-outcome
returns-in-Form-clause-outcome g c =
    let under : Limits → Setting = λ limits. setting_of limits c.args.readtable.now c.args.base c.args.packages.now.0 c.args.current.now
    (g.R.MacroFunctions.functions c.args.macros.now) in
    whole_form under c.new-reader.result.limits c.args.limits c.feed.new.self c.args.bytes.now _ _ c.new-reader.ensures.limits
    (c.in_ok-advance.ensures.feeds [] (c.new-reader.ensures.after (under c.new-reader.result.limits)))
    c.in-Form.datum c.in-Form.start c.in-Form.end c.in-Form.next c.in-Form.is c.in_ok-advance.ensures.sound

pub returns-in-Refused-clause-outcome : goal.returns-in-Refused-clause-outcome
returns-in-Refused-clause-outcome g c =
    let under : Limits → Setting = λ limits. setting_of limits c.args.readtable.now c.args.base c.args.packages.now.0 c.args.current.now
    (g.R.MacroFunctions.functions c.args.macros.now) in
    whole_refusal under c.new-reader.result.limits c.args.limits c.feed.new.self c.args.bytes.now _ _ c.new-reader.ensures.limits
    (c.in_ok-advance.ensures.feeds [] (c.new-reader.ensures.after (under c.new-reader.result.limits)))
    c.in-Refused.code c.in-Refused.at c.in-Refused.is

pub returns-in-More-clause-outcome : goal.returns-in-More-clause-outcome
returns-in-More-clause-outcome g c =
    let under : Limits → Setting = λ limits. setting_of limits c.args.readtable.now c.args.base c.args.packages.now.0 c.args.current.now
    (g.R.MacroFunctions.functions c.args.macros.now) in
    finished_whole under c.feed.new.self.limits c.args.limits c.feed.new.self c.args.bytes.now _ (c.in_ok-advance.ensures.limits ∙ c.new-reader.ensures.limits)
    (whole_after under c.new-reader.result.limits c.args.limits c.feed.new.self c.args.bytes.now _ _ c.new-reader.ensures.limits
    (c.in_ok-advance.ensures.feeds [] (c.new-reader.ensures.after (under c.new-reader.result.limits))) c.in-More.is (c.in_ok-advance.ensures.whole c.in-More.is))
    c.finish-in-More.ensures.outcome

pub returns-then-is_empty-clause-outcome : goal.returns-then-is_empty-clause-outcome
returns-then-is_empty-clause-outcome g c =
    let under : Limits → Setting = λ limits. setting_of limits c.args.readtable.now c.args.base c.args.packages.now.0 c.args.current.now
    (g.R.MacroFunctions.functions c.args.macros.now) in
    finished_none under c.new-reader.result.limits c.args.limits c.new-reader.result c.args.bytes.now _ c.new-reader.ensures.limits (none_in c.args.bytes.now (eqb-true (length c.args.bytes.now) 0 (sym c.is_empty.ensures ∙ c.if-is_empty.true)))
    (c.new-reader.ensures.after (under c.args.limits)) c.finish.ensures.outcome

pub returns-in-Form-clause-blank : goal.returns-in-Form-clause-blank
returns-in-Form-clause-blank g c = λ room all.
    absurd (decided_not_more _ c.in_ok-advance.advance (form_is _ _ _ _ c.in_ok-advance.advance c.in-Form.is)
    (c.in_ok-advance.ensures.between c.new-reader.ensures.between all (subst (λ (l : Limits). 0 < l.text) (sym c.new-reader.ensures.limits) room)).0)

pub returns-in-Refused-clause-blank : goal.returns-in-Refused-clause-blank
returns-in-Refused-clause-blank g c = λ room all.
    absurd (decided_not_more _ c.in_ok-advance.advance (refused_is _ _ c.in_ok-advance.advance c.in-Refused.is)
    (c.in_ok-advance.ensures.between c.new-reader.ensures.between all (subst (λ (l : Limits). 0 < l.text) (sym c.new-reader.ensures.limits) room)).0)

pub returns-in-More-clause-blank : goal.returns-in-More-clause-blank
returns-in-More-clause-blank g c = λ room all.
    c.finish-in-More.ensures.between (c.in_ok-advance.ensures.between c.new-reader.ensures.between all (subst (λ (l : Limits). 0 < l.text) (sym c.new-reader.ensures.limits) room)).1
