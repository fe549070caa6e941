use Rattle.std.proofs.Common.{subst}
use Rattle.lisp_object.specs.Datum.{object_of}
use Rattle.lisp_operators.specs.EvaluationAnswers.{Answers, done}
use Rattle.evaluator.specs.Value.{value}
use Rattle.evaluator.proofs.Seen.{seen_value}
use Rattle.evaluator.proofs.calls.evaluate.Goals as goal

pub returns-clause-gives : goal.returns-clause-gives
returns-clause-gives c =
    subst (Answers done c.evaluate_for.result c.evaluate_for.new.world.0) (seen_value (value c.args.names.now c.args.world.now.0 (object_of c.args.form.now))) c.evaluate_for.ensures.gives
