use Rattle.plist_state.specs.Sound.{IsValue}
use Rattle.lexical_evaluation.proofs.Handing.{arguments_value}
use Rattle.std.proofs.Common.{◌≡◌, ◌-◌, Bool, not, if◌then◌else◌, length, Err, ap, sym, ◌∙◌, arith, subst}
use Rattle.lisp_object.specs.declared.refusal.TheConstants.{ARGUMENT_COUNT}
use Rattle.evaluator.specs.declared.place.PlaceForm.{PlaceForm}
use Rattle.evaluator.specs.Operators.{count, counts}
use Rattle.evaluator.specs.Operations.{operator, action_of}
use Rattle.evaluator.specs.ArgumentValues.{arguments_in}
use Rattle.evaluator.proofs.Forms.{arguments_count}
use Rattle.lexical_evaluation.specs.Values.{an_operator, action_in, form_value}
use Rattle.lexical_evaluation.specs.Machine.{comes_to, around, point_of, to_come}
use Rattle.lexical_evaluation.specs.Ways.{ways, parts_in}
use Rattle.lexical_evaluation.proofs.Continuing.{refused}
use Rattle.lexical_evaluation.proofs.Going.{comes_as}
use Rattle.lexical_evaluation.proofs.Forms.{place_stops}
use Rattle.lexical_evaluation.proofs.machine.Machine.begin_operator.Goals as goal

pub returns-then-not-counts-clause-gives : goal.returns-then-not-counts-clause-gives
returns-then-not-counts-clause-gives c = λ names head s steps.
    let m = c.args.self.now in
    let w = ways names in
    let p = point_of m s in
    let arguments = arguments_in c.args.items.items in
    let same : c.len.result ≡ length c.args.items.items = grind (arith, c.len.ensures) in
    let so : counts (operator names c.args.operation) (count arguments) ≡ c.counts.result = ap (counts (operator names c.args.operation)) (arguments_count c.args.items.items ∙ ap (λ n. n - 1) (sym same)) ∙ sym (c.counts.ensures.value names) in
    ap (λ (b : Bool). comes_to w m (if not b then Err ARGUMENT_COUNT else action_in head p (action_of names c.args.operation) arguments (parts_in (w.rules m.deeper) (around m) p arguments))) (so ∙ c.if-not-counts.true)
    ∙ refused w m ARGUMENT_COUNT

pub returns-in-Ok-clause-gives : goal.returns-in-Ok-clause-gives
returns-in-Ok-clause-gives c = λ names head s steps.
    let m = c.args.self.now in
    let w = ways names in
    let rules = w.rules m.deeper in
    let p = point_of m s in
    let arguments = arguments_in c.args.items.items in
    let forms = to_come c.arguments.result.items in
    let same : c.len.result ≡ length c.args.items.items = grind (arith, c.len.ensures) in
    let so : counts (operator names c.args.operation) (count arguments) ≡ c.counts.result = ap (counts (operator names c.args.operation)) (arguments_count c.args.items.items ∙ ap (λ n. n - 1) (sym same)) ∙ sym (c.counts.ensures.value names) in
    comes_as w s (comes_to w m (form_value rules p head (an_operator (operator names c.args.operation)) arguments (parts_in rules (around m) p arguments)))
    (comes_to w m (action_in head p (action_of names c.args.operation) forms (parts_in rules (around m) p forms))) c.begin_action.new.self c.begin_action.result
    (ap (λ (b : Bool). comes_to w m (if not b then Err ARGUMENT_COUNT else action_in head p (action_of names c.args.operation) arguments (parts_in rules (around m) p arguments))) (so ∙ c.if-not-counts.false)
    ∙ ap (λ a. comes_to w m (action_in head p (action_of names c.args.operation) a (parts_in rules (around m) p a))) (sym c.arguments.ensures.forms))
    (c.begin_action.ensures.gives names head s steps)

pub returns-in-Err-clause-gives : goal.returns-in-Err-clause-gives
returns-in-Err-clause-gives c = λ names head s steps.
    let m = c.args.self.now in
    let w = ways names in
    let rules = w.rules m.deeper in
    let p = point_of m s in
    let arguments = arguments_in c.args.items.items in
    let others = arguments_in c.as_slice.result.now in
    let same : c.len.result ≡ length c.args.items.items = grind (arith, c.len.ensures) in
    let so : counts (operator names c.args.operation) (count arguments) ≡ c.counts.result = ap (counts (operator names c.args.operation)) (arguments_count c.args.items.items ∙ ap (λ n. n - 1) (sym same)) ∙ sym (c.counts.ensures.value names) in
    comes_as w s (comes_to w m (form_value rules p head (an_operator (operator names c.args.operation)) arguments (parts_in rules (around m) p arguments)))
    (comes_to w m (action_in head p (action_of names c.args.operation) others (parts_in rules (around m) p others))) m (Err c.in-Err.error)
    (ap (λ (b : Bool). comes_to w m (if not b then Err ARGUMENT_COUNT else action_in head p (action_of names c.args.operation) arguments (parts_in rules (around m) p arguments))) (so ∙ c.if-not-counts.false)
    ∙ ap (λ a. comes_to w m (action_in head p (action_of names c.args.operation) a (parts_in rules (around m) p a))) (ap arguments_in (sym c.as_slice.ensures.value)))
    (place_stops PlaceForm names s head m c.args.operation others c.in-Err.error c.in-Err.ensures.refusal)

pub returns-in-Ok-clause-arguments : goal.returns-in-Ok-clause-arguments
returns-in-Ok-clause-arguments c = λ u hand value. c.begin_action.ensures.arguments u hand (subst (IsValue u) (sym c.arguments.ensures.forms) (arguments_value u c.args.items.items c.requires.some value))
