use Rattle.plist_state.specs.Sound.{IsValue}
use Rattle.lexical_evaluation.proofs.Handing.{forms_come}
use Rattle.std.proofs.Common.{◌-◌, [], sym, ap, ◌∙◌, arith, subst}
use Rattle.lisp_object.specs.Object.{list_of}
use Rattle.lisp_operators.specs.EvaluationAnswers.{objects}
use Rattle.lisp_operators.specs.Members.{symbols_in}
use Rattle.kept_functions.specs.Environments.{binding}
use Rattle.lexical_evaluation.specs.Machine.{point_of, to_come, progn_in, variables_seen}
use Rattle.lexical_evaluation.proofs.Going.{Meaning, comes_as, in_hand, goes_entered}
use Rattle.lexical_evaluation.proofs.machine.Machine.function_body.Goals as goal

pub returns-clause-gives : goal.returns-clause-gives
returns-clause-gives c = λ w s.
    let m = c.args.self.now in
    let mid = c.enter.new.self in
    let made = c.in_ok-made.made.items in
    let p = point_of m s in
    let env = binding (symbols_in c.args.definition.variables.now) (objects c.args.values.items) [] in
    let body = list_of (objects c.args.definition.body.now) in
    let entered = c.in_ok-enter.ensures.enters in
    let f : Meaning = λ does rules seen q. progn_in (w.rules (m.deeper - 1)) env body q in
    let g : Meaning = λ does rules seen q. progn_in rules seen (to_come c.in_ok-forms.forms.items) q in
    comes_as w s (in_hand w s m f) (in_hand w s mid g) c.sequence.new.self c.sequence.result
    (goes_entered m mid made f g w s entered
    (ap (λ n. progn_in (w.rules n) env body p) (omega (arith, entered.deeper))
    ∙ ap (λ e. progn_in (w.rules mid.deeper) e body p) (sym c.in_ok-made.ensures.gives)
    ∙ ap (λ b. progn_in (w.rules mid.deeper) (variables_seen made) b p) (sym c.in_ok-forms.ensures.forms)))
    (c.sequence.ensures.gives w s)

pub returns-clause-arguments : goal.returns-clause-arguments
returns-clause-arguments c = λ u hand given.
    let body = c.args.definition.body.now in
    c.sequence.ensures.arguments u (c.in_ok-enter.ensures.arguments u hand (c.in_ok-made.ensures.arguments u given.1))
    (forms_come u c.in_ok-forms.forms.items (c.in_ok-forms.ensures.proper c.requires.definition.1) (subst (IsValue u) (sym c.in_ok-forms.ensures.forms) given.0))
