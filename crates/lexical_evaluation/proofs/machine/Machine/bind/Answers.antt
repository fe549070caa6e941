use Rattle.plist_state.specs.Sound.{IsValue}
use Rattle.lexical_evaluation.specs.Arguments.{HaveArguments}
use Rattle.lexical_evaluation.proofs.Handing.{forms_come, popped, none_made}
use Rattle.std.proofs.Common.{◌++◌, ap, sym, ◌∙◌, arith, subst}
use Rattle.lisp_object.specs.Datum.{object_of}
use Rattle.lisp_object.specs.declared.refusal.TheConstants.{ARGUMENT_COUNT, ARGUMENT_KIND}
use Rattle.lexical_evaluation.specs.Values.{bound_in}
use Rattle.lexical_evaluation.specs.Machine.{comes_to, around, point_of, to_come, bound_then, variables_seen}
use Rattle.lexical_evaluation.proofs.Steps.{next_of, none_to_come}
use Rattle.lexical_evaluation.proofs.Bindings.{bind_empty, bind_refused, bind_begun}
use Rattle.lexical_evaluation.proofs.Continuing.{refused}
use Rattle.lexical_evaluation.proofs.Going.{goes_as}
use Rattle.lexical_evaluation.proofs.machine.Machine.bind.Goals as goal

pub returns-in-None-clause-gives : goal.returns-in-None-clause-gives
returns-in-None-clause-gives c = λ w s.
    let m = c.args.self.now in
    ap (comes_to w m)
    (ap (bound_in (w.rules m.deeper) (around m) c.args.in_turn (point_of m s)) (none_to_come c.args.forms.items (grind (arith, c.in-None.ensures)))
    ∙ bind_empty (w.rules m.deeper) (around m) (point_of m s) c.args.in_turn)
    ∙ refused w m ARGUMENT_COUNT

pub returns-then-not-are_bindings-clause-gives : goal.returns-then-not-are_bindings-clause-gives
returns-then-not-are_bindings-clause-gives c = λ w s.
    let m = c.args.self.now in
    ap (comes_to w m)
    (ap (bound_in (w.rules m.deeper) (around m) c.args.in_turn (point_of m s)) (next_of c.args.forms.items c.pop.new.self.items c.pop.result c.in-Some.bindings c.pop.ensures.items c.in-Some.is)
    ∙ bind_refused (w.rules m.deeper) (around m) (point_of m s) c.args.in_turn (object_of c.in-Some.bindings) (to_come c.pop.new.self.items) (sym c.are_bindings.ensures ∙ c.if-not-are_bindings.true))
    ∙ refused w m ARGUMENT_KIND

pub returns-in_ok-others-in-Some-clause-gives : goal.returns-in_ok-others-in-Some-clause-gives
returns-in_ok-others-in-Some-clause-gives c =
    let m = c.args.self.now in
    let forms = c.pop.new.self.items in
    let list = object_of c.in-Some.bindings in
    let are = sym c.are_bindings.ensures ∙ c.if-not-are_bindings.false in
    goes_as m c.bind_next.new.self c.bind_next.result
    (λ does rules seen p. bound_in rules seen c.args.in_turn p (to_come c.args.forms.items))
    (λ does rules seen p. bound_then rules c.args.in_turn seen (variables_seen c.new-made.result.items ++ seen) (to_come c.in_ok-others-in-Some.others.items) (to_come forms) p)
    (λ w s. ap (bound_in (w.rules m.deeper) (around m) c.args.in_turn (point_of m s)) (next_of c.args.forms.items forms c.pop.result c.in-Some.bindings c.pop.ensures.items c.in-Some.is)
    ∙ bind_begun (w.rules m.deeper) (around m) (point_of m s) c.args.in_turn list (to_come forms) are
    ∙ ap (λ b. bound_then (w.rules m.deeper) c.args.in_turn (around m) (around m) b (to_come forms) (point_of m s)) (sym (c.in_ok-others-in-Some.ensures.forms are))
    ∙ ap (λ l. bound_then (w.rules m.deeper) c.args.in_turn (around m) (variables_seen l ++ around m) (to_come c.in_ok-others-in-Some.others.items) (to_come forms) (point_of m s)) (sym c.new-made.ensures.items))
    c.bind_next.ensures.gives

pub returns-in_ok-others-in-Some-clause-arguments : goal.returns-in_ok-others-in-Some-clause-arguments
returns-in_ok-others-in-Some-clause-arguments c = λ u hand forms.
    let both = popped u c.args.forms.items c.pop.new.self.items c.pop.result c.in-Some.bindings c.pop.ensures.items c.in-Some.is forms in
    let are = sym c.are_bindings.ensures ∙ c.if-not-are_bindings.false in
    c.bind_next.ensures.arguments u hand (
      forms_come u c.in_ok-others-in-Some.others.items c.in_ok-others-in-Some.ensures.proper (subst (IsValue u) (sym (c.in_ok-others-in-Some.ensures.forms are)) both.1.value),
      subst (HaveArguments u) (sym c.new-made.ensures.items) (none_made u),
      both.0,
    )
