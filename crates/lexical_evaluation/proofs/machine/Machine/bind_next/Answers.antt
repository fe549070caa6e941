use Rattle.lisp_operators.specs.EvaluationAnswers.{IsProper}
use Rattle.lexical_evaluation.proofs.Handing.{waits_more, popped, binding_form}
use Rattle.std.proofs.Common.{◌∷◌, ◌++◌, option_map, ap, sym, ◌∙◌, arith, IfSome, subst}
use Rattle.lisp_object.specs.Datum.{object_of}
use Rattle.lisp_object.specs.declared.refusal.TheConstants.{ARGUMENT_KIND}
use Rattle.plist_state.specs.Views.{symbol_of}
use Rattle.lexical_evaluation.specs.declared.frame.Awaiting.TheVariants.{Bind}
use Rattle.kept_functions.specs.Counting.{then_on, wrote_too}
use Rattle.lexical_evaluation.specs.Values.{value_in}
use Rattle.lexical_evaluation.specs.Machine.{comes_to, around, point_of, to_come, parts_shown, bound_then, progn_in, variables_seen}
use Rattle.lexical_evaluation.proofs.Steps.{next_of, none_to_come}
use Rattle.lexical_evaluation.proofs.Bindings.{bind_none, bind_form, bind_no_binding, turn_around}
use Rattle.lexical_evaluation.proofs.Continuing.{refused, waits}
use Rattle.lexical_evaluation.proofs.Going.{Meaning, goes_over, goes_seen}
use Rattle.lexical_evaluation.proofs.machine.Machine.bind_next.Goals as goal

-- no binding is left
pub returns-in_ok-scope-in-None-clause-gives : goal.returns-in_ok-scope-in-None-clause-gives
returns-in_ok-scope-in-None-clause-gives c =
    let m = c.args.self.now in
    let made = c.args.made.items in
    let f : Meaning = λ does rules seen p. bound_then rules c.args.in_turn seen (variables_seen made ++ seen) (to_come c.args.others.items) (to_come c.args.forms.items) p in
    let g : Meaning = λ does rules seen p. progn_in rules seen (to_come c.args.forms.items) p in
    goes_over m c.sequence.new.self c.sequence.result f g c.scope.new.self
    (λ w s. goes_seen m c.scope.new.self made f g w s c.in_ok-scope-in-None.ensures.sees
    (ap (λ b. bound_then (w.rules m.deeper) c.args.in_turn (around m) (variables_seen made ++ around m) b (to_come c.args.forms.items) (point_of m s)) (none_to_come c.args.others.items (grind (arith, c.in-None.ensures)))
    ∙ bind_none (w.rules m.deeper) c.args.in_turn (around m) (variables_seen made ++ around m) (to_come c.args.forms.items) (point_of m s)))
    c.sequence.ensures.gives

pub returns-in-None-parts-clause-gives : goal.returns-in-None-parts-clause-gives
returns-in-None-parts-clause-gives c = λ w s.
    let m = c.args.self.now in
    let others = c.pop.new.self.items in
    let seen = variables_seen c.args.made.items ++ around m in
    ap (comes_to w m)
    (ap (λ b. bound_then (w.rules m.deeper) c.args.in_turn (around m) seen b (to_come c.args.forms.items) (point_of m s)) (next_of c.args.others.items others c.pop.result c.in-Some.binding c.pop.ensures.items c.in-Some.is)
    ∙ bind_no_binding (w.rules m.deeper) c.args.in_turn (around m) seen (to_come c.args.forms.items) (point_of m s) (object_of c.in-Some.binding) (to_come others) (sym (ap (option_map parts_shown) c.in-None-parts.is) ∙ c.in_ok-parts-in-Some.ensures.gives))
    ∙ refused w m ARGUMENT_KIND

pub returns-in_ok-push-in-Some-parts-clause-gives : goal.returns-in_ok-push-in-Some-parts-clause-gives
returns-in_ok-push-in-Some-parts-clause-gives c = λ w s.
    let m = c.args.self.now in
    let rules = w.rules m.deeper in
    let p = point_of m s in
    let turn = c.args.in_turn in
    let others = c.pop.new.self.items in
    let made = c.args.made.items in
    let inner = variables_seen made ++ around m in
    let forms = to_come c.args.forms.items in
    let found = c.in-Some-parts in
    let x = symbol_of found.variable in
    let form = object_of found.form in
    ap (comes_to w m)
    (ap (λ b. bound_then rules turn (around m) inner b forms p) (next_of c.args.others.items others c.pop.result c.in-Some.binding c.pop.ensures.items c.in-Some.is)
    ∙ bind_form rules turn (around m) inner forms p (object_of c.in-Some.binding) (to_come others) x form (sym (ap (option_map parts_shown) found.is) ∙ c.in_ok-parts-in-Some.ensures.gives)
    ∙ ap (λ e. then_on (value_in rules e p form) (λ y later. bound_then rules turn (around m) ((x, y) ∷ inner) (to_come others) forms later)) (turn_around turn made (around m) c.requires.made))
    ∙ ap (wrote_too m.wrote)
    (sym (waits w m.deeper m.frames.items c.push.new.self.items (Bind turn found.variable c.pop.new.self c.args.made c.args.forms) m.bindings.items (value_in rules (around m) p form) c.in_ok-push-in-Some-parts.ensures.items))

pub returns-in_ok-scope-in-None-clause-arguments : goal.returns-in_ok-scope-in-None-clause-arguments
returns-in_ok-scope-in-None-clause-arguments c = λ u hand given. c.sequence.ensures.arguments u (c.in_ok-scope-in-None.ensures.arguments u hand given.1) given.2

pub returns-in_ok-push-in-Some-parts-clause-arguments : goal.returns-in_ok-push-in-Some-parts-clause-arguments
returns-in_ok-push-in-Some-parts-clause-arguments c = λ u hand given.
    let both = popped u c.args.others.items c.pop.new.self.items c.pop.result c.in-Some.binding c.pop.ensures.items c.in-Some.is given.0 in
    let found = c.in-Some-parts in
    let form = binding_form u (object_of c.in-Some.binding) (symbol_of found.variable) (object_of found.form) both.1.value (sym c.in_ok-parts-in-Some.ensures.gives ∙ ap (option_map parts_shown) found.is) in
    let proper : IsProper found.form = subst (λ o. IfSome o (λ p. IsProper p.1)) found.is c.in_ok-parts-in-Some.ensures.proper in
    (waits_more u c.args.self.now c.push.new.self (Bind c.args.in_turn found.variable c.pop.new.self c.args.made c.args.forms) hand c.in_ok-push-in-Some-parts.ensures.items (both.0, given.1, given.2), record { proper = proper; value = form })
