use Rattle.std.proofs.Common.{if◌then◌else◌, Err, ap, sym, ◌∙◌}
use Rattle.std.specs.List.{list_all}
use Rattle.lisp_object.specs.declared.refusal.TheConstants.{ARGUMENT_KIND}
use Rattle.lisp_operators.specs.EvaluationAnswers.{objects}
use Rattle.evaluator.specs.Value.{is_clause}
use Rattle.lexical_evaluation.specs.Values.{selected_in}
use Rattle.lexical_evaluation.specs.Machine.{comes_to, around, point_of, to_come}
use Rattle.lexical_evaluation.specs.Ways.{selected_of}
use Rattle.lexical_evaluation.proofs.Choosing.{are_all_clauses}
use Rattle.lexical_evaluation.proofs.Continuing.{refused}
use Rattle.lexical_evaluation.proofs.Going.{goes_as}
use Rattle.lexical_evaluation.proofs.machine.Machine.begin_clauses.Goals as goal

pub returns-then-not-each_is_clause-clause-gives : goal.returns-then-not-each_is_clause-clause-gives
returns-then-not-each_is_clause-clause-gives c = λ w s.
    let m = c.args.self.now in
    ap (λ b. comes_to w m (if b then selected_in (w.rules m.deeper) (around m) (point_of m s) (to_come c.args.forms.items) else Err ARGUMENT_KIND))
    (are_all_clauses c.args.forms.items ∙ ap (λ l. list_all is_clause (objects l)) (sym c.as_slice.ensures.value) ∙ sym c.each_is_clause.ensures ∙ c.if-not-each_is_clause.true)
    ∙ refused w m ARGUMENT_KIND

pub returns-clause-gives : goal.returns-clause-gives
returns-clause-gives c =
    let m = c.args.self.now in
    let forms = to_come c.args.forms.items in
    goes_as m c.clauses.new.self c.clauses.result
    (λ does rules seen p. selected_of forms (selected_in rules seen p forms)) (λ does rules seen p. selected_in rules seen p forms)
    (λ w s. ap (λ b. if b then selected_in (w.rules m.deeper) (around m) (point_of m s) forms else Err ARGUMENT_KIND)
    (are_all_clauses c.args.forms.items ∙ ap (λ l. list_all is_clause (objects l)) (sym c.as_slice.ensures.value) ∙ sym c.each_is_clause.ensures ∙ c.if-not-each_is_clause.false))
    c.clauses.ensures.gives

pub returns-clause-arguments : goal.returns-clause-arguments
returns-clause-arguments c = λ u hand given. c.clauses.ensures.arguments u hand given
