use Rattle.lexical_evaluation.proofs.Safe.{body_is_value}
use Rattle.std.proofs.Common.{◌≡◌, sym}
use Rattle.lisp_object.specs.declared.refusal.TheConstants.{ARGUMENT_KIND, UNKNOWN_OPERATOR}
use Rattle.lisp_object.specs.Object.{symbol}
use Rattle.lisp_object.specs.Datum.{object_of}
use Rattle.lisp_operators.specs.EvaluationAnswers.{objects}
use Rattle.evaluator.specs.Operations.{operator, action_of}
use Rattle.kept_functions.specs.KeptFunctions.{stored_definition}
use Rattle.lexical_evaluation.specs.Values.{named_function, called_operator}
use Rattle.lexical_evaluation.specs.Machine.{point_of}
use Rattle.lexical_evaluation.specs.Ways.{ways}
use Rattle.evaluator.proofs.Heads.{symbol_of_some}
use Rattle.lexical_evaluation.proofs.Finishing.{keeps_as, keeps_refused, ways_calling, other_name, operator_named, function_named, no_function}
use Rattle.lexical_evaluation.proofs.machine.Machine.call_named.Goals as goal

pub returns-in_default-clause-gives : goal.returns-in_default-clause-gives
returns-in_default-clause-gives c =
    let m = c.args.self.now in
    let s = c.args.world.now.0 in
    let w = ways c.args.names.now in
    let x = object_of c.args.named.now in
    let xs = objects c.args.values.items in
    keeps_refused w s s m m (λ rules seen p. named_function rules x xs p) ARGUMENT_KIND (other_name (w.rules m.deeper) xs (point_of m s) x c.in_default.ensures.1)

pub returns-in-Some-clause-gives : goal.returns-in-Some-clause-gives
returns-in-Some-clause-gives c =
    let m = c.args.self.now in
    let s = c.args.world.now.0 in
    let names = c.args.names.now in
    let w = ways names in
    let x = object_of c.args.named.now in
    let xs = objects c.args.values.items in
    let h = c.in-Ok.home.now in
    let n = c.in-Ok.name.now in
    let o = operator names c.in-Some.operation in
    let named : x ≡ symbol h n = symbol_of_some x (h, n) (sym c.in-Ok.ensures) in
    keeps_as w s c.call_operator.new.world.0 m c.call_operator.new.self (λ rules seen p. named_function rules x xs p) c.call_operator.result
    (λ rules seen p. called_operator (symbol h n) o (action_of names c.in-Some.operation) xs p)
    (operator_named (w.rules m.deeper) xs (point_of m s) x h n named o (c.in-Some.ensures names))
    (c.call_operator.ensures.gives w (symbol h n) c.toll-steps.ensures)

pub returns-in-Some-function_in-clause-gives : goal.returns-in-Some-function_in-clause-gives
returns-in-Some-function_in-clause-gives c =
    let m = c.args.self.now in
    let s = c.args.world.now.0 in
    let names = c.args.names.now in
    let w = ways names in
    let x = object_of c.args.named.now in
    let xs = objects c.args.values.items in
    let h = c.in-Ok.home.now in
    let n = c.in-Ok.name.now in
    let d = stored_definition c.in-Some-function_in.definition in
    let named : x ≡ symbol h n = symbol_of_some x (h, n) (sym c.in-Ok.ensures) in
    keeps_as w s s m c.call_function.new.self (λ rules seen p. named_function rules x xs p) c.call_function.result (λ rules seen p. rules.call d xs p)
    (function_named (w.rules m.deeper) xs (point_of m s) x h n named d (c.in-None.ensures names) c.in-Some-function_in.ensures.value)
    (c.call_function.ensures.gives w s (ways_calling names))

pub returns-in-None-function_in-clause-gives : goal.returns-in-None-function_in-clause-gives
returns-in-None-function_in-clause-gives c =
    let m = c.args.self.now in
    let s = c.args.world.now.0 in
    let names = c.args.names.now in
    let w = ways names in
    let x = object_of c.args.named.now in
    let xs = objects c.args.values.items in
    let h = c.in-Ok.home.now in
    let n = c.in-Ok.name.now in
    let named : x ≡ symbol h n = symbol_of_some x (h, n) (sym c.in-Ok.ensures) in
    keeps_refused w s s m m (λ rules seen p. named_function rules x xs p) UNKNOWN_OPERATOR
    (no_function (w.rules m.deeper) xs (point_of m s) x h n named (c.in-None.ensures names) c.in-None-function_in.ensures.value)

pub returns-in-Some-clause-arguments : goal.returns-in-Some-clause-arguments
returns-in-Some-clause-arguments c = λ hand. c.call_operator.ensures.arguments hand

pub returns-in-Some-function_in-clause-arguments : goal.returns-in-Some-function_in-clause-arguments
returns-in-Some-function_in-clause-arguments c = λ hand.
    let s = c.args.world.now.0 in
    let d = stored_definition c.in-Some-function_in.definition in
    c.call_function.ensures.arguments s.packages hand (body_is_value s (c.in-Ok.home.now, c.in-Ok.name.now) d c.soundness.ensures.present c.in-Some-function_in.ensures.value, c.requires.values)
