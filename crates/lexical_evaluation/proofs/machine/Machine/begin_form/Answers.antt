use Rattle.plist_state.specs.Sound.{IsValue}
use Rattle.lexical_evaluation.proofs.Handing.{arguments_value}
use Rattle.std.proofs.Common.{◌≡◌, ◌-◌, Bool, not, if◌then◌else◌, length, Err, ap, sym, ◌∙◌, arith, subst}
use Rattle.lisp_object.specs.declared.refusal.TheConstants.{ARGUMENT_COUNT, UNKNOWN_OPERATOR}
use Rattle.lisp_operators.specs.declared.error.EvaluationError.TheVariants.{Refused}
use Rattle.evaluator.specs.Operators.{count}
use Rattle.evaluator.specs.ArgumentValues.{arguments_in}
use Rattle.evaluator.proofs.Forms.{arguments_count}
use Rattle.kept_functions.specs.LocalOperators.{takes_so_many}
use Rattle.lexical_evaluation.specs.declared.machine.head.FormHead.TheVariants.{Operator, Local, Function, Unknown}
use Rattle.lexical_evaluation.specs.Values.{a_local, local_value, form_value}
use Rattle.lexical_evaluation.specs.Machine.{comes_to, around, point_of, to_come}
use Rattle.lexical_evaluation.specs.Ways.{ways, head_in, parts_in}
use Rattle.lexical_evaluation.proofs.Continuing.{refused}
use Rattle.lexical_evaluation.proofs.Forms.{form_as}
use Rattle.lexical_evaluation.proofs.Going.{comes_as}
use Rattle.lexical_evaluation.proofs.machine.Machine.begin_form.Goals as goal

pub returns-then-not-takes-clause-gives : goal.returns-then-not-takes-clause-gives
returns-then-not-takes-clause-gives c = λ names s.
    let m = c.args.self.now in
    let w = ways names in
    let p = point_of m s in
    let arguments = arguments_in c.args.items.items in
    let same : c.len.result ≡ length c.args.items.items = grind (arith, c.len.ensures) in
    let so : takes_so_many c.in-Local.operator (count arguments) ≡ c.takes.result = ap (takes_so_many c.in-Local.operator) (arguments_count c.args.items.items ∙ ap (λ n. n - 1) (sym same)) ∙ sym c.takes.ensures in
    form_as m m (Err (Refused ARGUMENT_COUNT)) names s (head_in c.args.items.items) arguments c.args.head (Local c.in-Local.operator) c.in-Local.is
    (ap (λ (b : Bool). comes_to w m (if not b then Err ARGUMENT_COUNT else local_value (w.rules m.deeper) p c.in-Local.operator arguments (parts_in (w.rules m.deeper) (around m) p arguments))) (so ∙ c.if-not-takes.true)
    ∙ refused w m ARGUMENT_COUNT)

pub returns-in-Operator-clause-gives : goal.returns-in-Operator-clause-gives
returns-in-Operator-clause-gives c = λ names s.
    form_as c.args.self.now c.begin_operator.new.self c.begin_operator.result names s (head_in c.args.items.items) (arguments_in c.args.items.items) c.args.head (Operator c.in-Operator.operation) c.in-Operator.is
    (c.begin_operator.ensures.gives names (head_in c.args.items.items) s c.requires.steps)

pub returns-else-not-takes-clause-gives : goal.returns-else-not-takes-clause-gives
returns-else-not-takes-clause-gives c = λ names s.
    let m = c.args.self.now in
    let w = ways names in
    let rules = w.rules m.deeper in
    let p = point_of m s in
    let x = head_in c.args.items.items in
    let arguments = arguments_in c.args.items.items in
    let forms = to_come c.arguments.result.items in
    let same : c.len.result ≡ length c.args.items.items = grind (arith, c.len.ensures) in
    let so : takes_so_many c.in-Local.operator (count arguments) ≡ c.takes.result = ap (takes_so_many c.in-Local.operator) (arguments_count c.args.items.items ∙ ap (λ n. n - 1) (sym same)) ∙ sym c.takes.ensures in
    form_as m c.begin_local.new.self c.begin_local.result names s x arguments c.args.head (Local c.in-Local.operator) c.in-Local.is
    (comes_as w s (comes_to w m (form_value rules p x (a_local c.in-Local.operator) arguments (parts_in rules (around m) p arguments)))
    (comes_to w m (local_value rules p c.in-Local.operator forms (parts_in rules (around m) p forms))) c.begin_local.new.self c.begin_local.result
    (ap (λ (b : Bool). comes_to w m (if not b then Err ARGUMENT_COUNT else local_value rules p c.in-Local.operator arguments (parts_in rules (around m) p arguments))) (so ∙ c.if-not-takes.false)
    ∙ ap (λ a. comes_to w m (local_value rules p c.in-Local.operator a (parts_in rules (around m) p a))) (sym c.arguments.ensures.forms))
    (c.begin_local.ensures.gives names s))

pub returns-in-Function-clause-gives : goal.returns-in-Function-clause-gives
returns-in-Function-clause-gives c = λ names s.
    form_as c.args.self.now c.begin_call.new.self c.begin_call.result names s (head_in c.args.items.items) (arguments_in c.args.items.items) c.args.head Function c.in-Function.is (c.begin_call.ensures.gives (ways names) s)

pub returns-in-Unknown-clause-gives : goal.returns-in-Unknown-clause-gives
returns-in-Unknown-clause-gives c = λ names s.
    form_as c.args.self.now c.args.self.now (Err (Refused UNKNOWN_OPERATOR)) names s (head_in c.args.items.items) (arguments_in c.args.items.items) c.args.head Unknown c.in-Unknown.is
    (refused (ways names) c.args.self.now UNKNOWN_OPERATOR)

pub returns-in-Operator-clause-arguments : goal.returns-in-Operator-clause-arguments
returns-in-Operator-clause-arguments c = λ u hand given. c.begin_operator.ensures.arguments u hand given

pub returns-else-not-takes-clause-arguments : goal.returns-else-not-takes-clause-arguments
returns-else-not-takes-clause-arguments c = λ u hand value. c.begin_local.ensures.arguments u hand (subst (IsValue u) (sym c.arguments.ensures.forms) (arguments_value u c.args.items.items c.requires.some value))

pub returns-in-Function-clause-arguments : goal.returns-in-Function-clause-arguments
returns-in-Function-clause-arguments c = λ u hand given. c.begin_call.ensures.arguments u hand given
