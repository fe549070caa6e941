use Rattle.lisp_object.specs.Datum.{object_of}
use Rattle.lisp_operators.specs.EvaluationAnswers.{done}
use Rattle.evaluator.specs.Value.{value}
use Rattle.evaluator.proofs.Seen.{leaves_so, stops_so}
use Rattle.evaluator.proofs.calls.carry_out.Goals as goal

pub returns-in-Ok-clause-gives : goal.returns-in-Ok-clause-gives
returns-in-Ok-clause-gives c =
    leaves_so (value c.args.names.now c.args.world.now.0 (object_of c.args.form)) (done c.in-Ok.evaluated c.evaluate_for.new.world.0) c.in-Ok.ensures.gives

pub returns-in-Err-clause-gives : goal.returns-in-Err-clause-gives
returns-in-Err-clause-gives c =
    stops_so c.in-Err.error c.evaluate_for.new.world.0 (value c.args.names.now c.args.world.now.0 (object_of c.args.form)) c.in-Err.ensures.gives
