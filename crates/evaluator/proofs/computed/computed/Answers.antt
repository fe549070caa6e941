use Rattle.std.proofs.Common.{map}
use Rattle.lisp_object.specs.Datum.{object_of}
use Rattle.value_functions.specs.Functions.{function_value}
use Rattle.evaluator.proofs.ListValues.{here, refused_here}
use Rattle.evaluator.proofs.computed.computed.Goals as goal

pub returns-in-Ok-clause-gives : goal.returns-in-Ok-clause-gives
returns-in-Ok-clause-gives c = λ s. here s (function_value c.args.function (map object_of c.args.values.items)) c.in-Ok.value c.in-Ok.ensures.value

pub returns-in-Err-clause-gives : goal.returns-in-Err-clause-gives
returns-in-Err-clause-gives c = λ s. refused_here s (function_value c.args.function (map object_of c.args.values.items)) c.in-Err.error c.in-Err.ensures.value
