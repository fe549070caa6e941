use Rattle.std.proofs.Common.{neg_ℤ, ap, subst, ◌∙◌}
use Rattle.lisp_object.specs.Object.{Object, nil, integer}
use Rattle.lisp_object.specs.Datum.{object_of}
use Rattle.package_table.specs.Symbols.{symbols}
use Rattle.lisp_operators.specs.EvaluationAnswers.{Answers, done}
use Rattle.lisp_operators.specs.Evaluation.{Evaluation}
use Rattle.evaluator.specs.FormObjects.{if_form, progn_form}
use Rattle.evaluator.specs.Value.{value}
use Rattle.form_eval.specs.Acceptance.{with_symbols_interned}
use Rattle.form_eval.specs.PlaceForms.{get_form, setf_form, incf_form, car_form, cdr_form, prog1_form}
use Rattle.program_tests.proofs.SameAnswers.{asked_same}
use Rattle.program_tests.proofs.decided.asked.Goals as goal

pub returns-clause-when : goal.returns-clause-when
returns-clause-when g c = λ x forms is proper.
    let names = g.M.Meaning.functions.names in
    let s = c.args.world.now.0 in
    let form = object_of c.args.form.now.datum in
    subst (λ (o : Evaluation Object). Answers done c.question.result c.question.new.world.0 o)
    (asked_same names s (with_symbols_interned s.packages (symbols form)) form (if_form x (progn_form forms) nil)
    (λ t. ap (value names t) is ∙ (c.decisions_are_those_of_if.ensures.guarded names t x forms proper).0)) c.question.ensures.gives

pub returns-clause-pop : goal.returns-clause-pop
returns-clause-pop g c = λ x i is.
    let names = g.M.Meaning.functions.names in
    let s = c.args.world.now.0 in
    let form = object_of c.args.form.now.datum in
    subst (λ (o : Evaluation Object). Answers done c.question.result c.question.new.world.0 o)
    (asked_same names s (with_symbols_interned s.packages (symbols form)) form (prog1_form (car_form (get_form x i)) (setf_form (get_form x i) (cdr_form (get_form x i))))
    (λ t. ap (value names t) is ∙ c.changes_of_places_are_those_of_setf.ensures.pop names t x i)) c.question.ensures.gives

pub returns-clause-decf : goal.returns-clause-decf
returns-clause-decf g c = λ x i n is.
    let names = g.M.Meaning.functions.names in
    let s = c.args.world.now.0 in
    let form = object_of c.args.form.now.datum in
    subst (λ (o : Evaluation Object). Answers done c.question.result c.question.new.world.0 o)
    (asked_same names s (with_symbols_interned s.packages (symbols form)) form (incf_form (get_form x i) (integer (neg_ℤ n)))
    (λ t. ap (value names t) is ∙ c.changes_of_places_are_those_of_setf.ensures.decf names t x i n)) c.question.ensures.gives
