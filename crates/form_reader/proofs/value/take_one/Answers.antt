use Rattle.std.proofs.Common.{◌≡◌, List, length, ap, ◌∙◌, sym, arith}
use Rattle.form_reader.specs.declared.stack.Frame.{Frame}
use Rattle.lisp_reading.specs.declared.attempt.Found.TheVariants.{One as one}
use Rattle.form_reader.specs.Stack.{calls_with}
use Rattle.form_reader.specs.Context.{setting}
use Rattle.form_reader.proofs.Values.{next_comes, object_goes_on, object_stops, stays_open}
use Rattle.form_reader.proofs.value.take_one.Goals as goal

pub returns-in_ok-call_value-in-Some-clause-takes : goal.returns-in_ok-call_value-in-Some-clause-takes
returns-in_ok-call_value-in-Some-clause-takes g c = λ cs.
    let setting = setting g.R.MacroFunctions.functions c.args.with.now in
    next_comes setting c.args.at cs c.args.stack.now c.pop_waiting.new.self c.in-Some.call c.args.token c.args.x _ c.len-depth.result c.in_ok-call_value-in-Some.field-0 c.return_of.result
    c.in-Some.ensures c.len-depth.ensures c.into_datum.ensures.object c.in_ok-call_value-in-Some.ensures.gives (c.return_of.ensures.takes setting c.pop_waiting.new.self cs)

pub returns-then-branch-clause-takes : goal.returns-then-branch-clause-takes
returns-then-branch-clause-takes g c = λ cs.
    let setting = setting g.R.MacroFunctions.functions c.args.with.now in
    object_goes_on setting c.args.at cs c.args.stack.now c.take_object.new.self c.args.token c.args.x c.requires.within
    (ap (λ (fs : List Frame). calls_with fs (one c.args.token c.args.x)) (sym c.in-None.ensures.0) ∙ c.in_ok-take_object-in-None.ensures.takes c.args.token c.if-branch.true)

pub returns-else-branch-clause-takes : goal.returns-else-branch-clause-takes
returns-else-branch-clause-takes g c = λ cs.
    let setting = setting g.R.MacroFunctions.functions c.args.with.now in
    object_stops setting c.args.at cs c.args.stack.now c.args.token c.args.x c.requires.open
    (ap (λ (fs : List Frame). calls_with fs (one c.args.token c.args.x)) (sym c.in-None.ensures.0) ∙ (c.in_ok-take_object-in-None.ensures.refuses c.args.token c.if-branch.false).0) c.in-None.ensures.1

pub returns-then-branch-clause-shorter : goal.returns-then-branch-clause-shorter
returns-then-branch-clause-shorter g c =
    stays_open c.args.stack.now c.take_object.new.self (one c.args.token c.args.x) c.args.token
    (ap (λ (fs : List Frame). calls_with fs (one c.args.token c.args.x)) (sym c.in-None.ensures.0) ∙ c.in_ok-take_object-in-None.ensures.takes c.args.token c.if-branch.true)

pub returns-else-branch-clause-shorter : goal.returns-else-branch-clause-shorter
returns-else-branch-clause-shorter g c =
    let many : length c.take_object.new.self ≡ length c.args.stack.now = ap length ((c.in_ok-take_object-in-None.ensures.refuses c.args.token c.if-branch.false).1 ∙ c.in-None.ensures.0) in
    omega (arith, many)
