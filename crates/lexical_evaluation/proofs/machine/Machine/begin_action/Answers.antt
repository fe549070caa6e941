use Rattle.lexical_evaluation.proofs.Handing.{forms_come}
use Rattle.evaluator.specs.declared.operation.Operation.TheVariants.{Quote, Progn, If, InPackage, Decides}
use Rattle.lexical_evaluation.specs.Machine.{around, point_of, to_come}
use Rattle.lexical_evaluation.specs.Ways.{ways}
use Rattle.lexical_evaluation.proofs.Made.{operated_as, goes_at_place, goes_before_place, at_setf, at_incf, at_change, before_push}
use Rattle.lexical_evaluation.proofs.machine.Machine.begin_action.Goals as goal

pub returns-in-Quote-clause-gives : goal.returns-in-Quote-clause-gives
returns-in-Quote-clause-gives c = λ names head s steps. operated_as c.args.self.now c.begin_quote.new.self c.begin_quote.result c.args.forms.items names s head c.args.operation Quote c.in-Quote.is (c.begin_quote.ensures.gives (ways names) s)

pub returns-in-Progn-clause-gives : goal.returns-in-Progn-clause-gives
returns-in-Progn-clause-gives c = λ names head s steps. operated_as c.args.self.now c.sequence.new.self c.sequence.result c.args.forms.items names s head c.args.operation Progn c.in-Progn.is (c.sequence.ensures.gives (ways names) s)

pub returns-in-If-clause-gives : goal.returns-in-If-clause-gives
returns-in-If-clause-gives c = λ names head s steps. operated_as c.args.self.now c.begin_choice.new.self c.begin_choice.result c.args.forms.items names s head c.args.operation If c.in-If.is (c.begin_choice.ensures.gives (ways names) s)

pub returns-in-InPackage-clause-gives : goal.returns-in-InPackage-clause-gives
returns-in-InPackage-clause-gives c = λ names head s steps. operated_as c.args.self.now c.finish_forms.new.self c.finish_forms.result c.args.forms.items names s head c.args.operation InPackage c.in-InPackage.is (c.finish_forms.ensures.gives (ways names) s)

pub returns-in-Decides-clause-gives : goal.returns-in-Decides-clause-gives
returns-in-Decides-clause-gives c = λ names head s steps.
    operated_as c.args.self.now c.begin_decision.new.self c.begin_decision.result c.args.forms.items names s head c.args.operation (Decides c.in-Decides.decision) c.in-Decides.is (c.begin_decision.ensures.gives names head s)

pub returns-in-Setf-clause-gives : goal.returns-in-Setf-clause-gives
returns-in-Setf-clause-gives c = λ names head s steps.
    let m = c.args.self.now in
    goes_at_place m c.gather_at_place.new.self c.gather_at_place.result c.args.forms.items names s head c.args.operation c.args.place c.requires.refusal c.requires.place
    (at_setf names head (point_of m s) (to_come c.args.forms.items) ((ways names).rules m.deeper) (around m) c.args.place c.args.operation c.in-Setf.is) c.gather_at_place.ensures.gives

pub returns-in-Incf-clause-gives : goal.returns-in-Incf-clause-gives
returns-in-Incf-clause-gives c = λ names head s steps.
    let m = c.args.self.now in
    goes_at_place m c.gather_at_place-in-Incf.new.self c.gather_at_place-in-Incf.result c.args.forms.items names s head c.args.operation c.args.place c.requires.refusal c.requires.place
    (at_incf names head (point_of m s) (to_come c.args.forms.items) ((ways names).rules m.deeper) (around m) c.args.place c.args.operation c.in-Incf.is) c.gather_at_place-in-Incf.ensures.gives

pub returns-in-Changes-clause-gives : goal.returns-in-Changes-clause-gives
returns-in-Changes-clause-gives c = λ names head s steps.
    let m = c.args.self.now in
    goes_at_place m c.gather_at_place-in-Changes.new.self c.gather_at_place-in-Changes.result c.args.forms.items names s head c.args.operation c.args.place c.requires.refusal c.requires.place
    (at_change names head (point_of m s) (to_come c.args.forms.items) ((ways names).rules m.deeper) (around m) c.args.place c.args.operation c.in-Changes.field-0 c.in-Changes.is) c.gather_at_place-in-Changes.ensures.gives

pub returns-in-Push-clause-gives : goal.returns-in-Push-clause-gives
returns-in-Push-clause-gives c = λ names head s steps.
    let m = c.args.self.now in
    goes_before_place m c.gather_before_place.new.self c.gather_before_place.result c.args.forms.items names s head c.args.operation c.args.place c.requires.refusal
    (before_push names head (point_of m s) (to_come c.args.forms.items) ((ways names).rules m.deeper) (around m) c.args.place c.args.operation c.in-Push.is) c.gather_before_place.ensures.gives

pub returns-in-Quote-clause-arguments : goal.returns-in-Quote-clause-arguments
returns-in-Quote-clause-arguments c = λ u hand value. c.begin_quote.ensures.arguments u hand (forms_come u c.args.forms.items c.requires.forms value)

pub returns-in-Progn-clause-arguments : goal.returns-in-Progn-clause-arguments
returns-in-Progn-clause-arguments c = λ u hand value. c.sequence.ensures.arguments u hand (forms_come u c.args.forms.items c.requires.forms value)

pub returns-in-If-clause-arguments : goal.returns-in-If-clause-arguments
returns-in-If-clause-arguments c = λ u hand value. c.begin_choice.ensures.arguments u hand (forms_come u c.args.forms.items c.requires.forms value)

pub returns-in-InPackage-clause-arguments : goal.returns-in-InPackage-clause-arguments
returns-in-InPackage-clause-arguments c = λ u hand value. c.finish_forms.ensures.arguments u hand (tt, forms_come u c.args.forms.items c.requires.forms value)

pub returns-in-Decides-clause-arguments : goal.returns-in-Decides-clause-arguments
returns-in-Decides-clause-arguments c = λ u hand value. c.begin_decision.ensures.arguments u hand (forms_come u c.args.forms.items c.requires.forms value)

pub returns-in-Setf-clause-arguments : goal.returns-in-Setf-clause-arguments
returns-in-Setf-clause-arguments c = λ u hand value. c.gather_at_place.ensures.arguments u hand (forms_come u c.args.forms.items c.requires.forms value)

pub returns-in-Incf-clause-arguments : goal.returns-in-Incf-clause-arguments
returns-in-Incf-clause-arguments c = λ u hand value. c.gather_at_place-in-Incf.ensures.arguments u hand (forms_come u c.args.forms.items c.requires.forms value)

pub returns-in-Changes-clause-arguments : goal.returns-in-Changes-clause-arguments
returns-in-Changes-clause-arguments c = λ u hand value. c.gather_at_place-in-Changes.ensures.arguments u hand (forms_come u c.args.forms.items c.requires.forms value)

pub returns-in-Push-clause-arguments : goal.returns-in-Push-clause-arguments
returns-in-Push-clause-arguments c = λ u hand value. c.gather_before_place.ensures.arguments u hand (forms_come u c.args.forms.items c.requires.forms value)

pub returns-in_default-clause-arguments : goal.returns-in_default-clause-arguments
returns-in_default-clause-arguments c = λ u hand value. c.begin_function.ensures.arguments u hand (forms_come u c.args.forms.items c.requires.forms value)
