use Rattle.lexical_evaluation.specs.Arguments.{MayFinish}
use Rattle.lexical_evaluation.proofs.Handing.{spent_holds}
use Rattle.std.proofs.Common.{Err, sym, subst}
use Rattle.std.proofs.lemmas.Result.{err_from_is_err_and}
use Rattle.lisp_object.specs.Object.{Object}
use Rattle.lisp_operators.specs.EvaluationAnswers.{objects}
use Rattle.lisp_operators.specs.declared.error.EvaluationError.{EvaluationError}
use Rattle.kept_functions.specs.Environments.{Environment}
use Rattle.kept_functions.specs.Counting.{Point, Counting, at_point}
use Rattle.lexical_evaluation.specs.declared.frame.Target.TheVariants.{Operation as AnOperation, Written, First, Enter, Global, Define, DefineReader}
use Rattle.lexical_evaluation.specs.Values.{LexicalRules}
use Rattle.lexical_evaluation.specs.Machine.{Spends}
use Rattle.lexical_evaluation.specs.Ways.{ways, performed}
use Rattle.lexical_evaluation.proofs.Forms.{step_stops}
use Rattle.lexical_evaluation.proofs.Finishing.{finish_as, keeps_spent}
use Rattle.lexical_evaluation.proofs.machine.Machine.finish.Goals as goal

pub returns-in_err-take_steps-in-Operation-clause-gives : goal.returns-in_err-take_steps-in-Operation-clause-gives
returns-in_err-take_steps-in-Operation-clause-gives c =
    let m = c.args.self.now in
    let s = c.args.world.now.0 in
    let names = c.args.names.now in
    let xs = objects c.args.values.items in
    let k = c.in-Operation in
    let f : LexicalRules → Environment → Point → Counting Object = λ rules seen later. at_point later (performed names k.operation k.place xs later.state) in
    let r = err_from_is_err_and c.from_residual.result c.from_residual.ensures.1 in
    rw r.1
    (finish_as names s s m c.take_steps.new.self (Err r.0) xs c.args.target (AnOperation k.operation k.place k.steps) k.is
    (step_stops (ways names) s k.steps m c.take_steps.new.self f c.take_steps.new.self r.0
    (subst (λ (e : EvaluationError). Spends k.steps m c.take_steps.new.self (Err e)) (sym r.2) c.in_err-take_steps-in-Operation.ensures)))

pub returns-in_ok-take_steps-in-Operation-clause-gives : goal.returns-in_ok-take_steps-in-Operation-clause-gives
returns-in_ok-take_steps-in-Operation-clause-gives c =
    let m = c.args.self.now in
    let s = c.args.world.now.0 in
    let t = c.operate.new.world.0 in
    let names = c.args.names.now in
    let xs = objects c.args.values.items in
    let k = c.in-Operation in
    let f : LexicalRules → Environment → Point → Counting Object = λ rules seen later. at_point later (performed names k.operation k.place xs later.state) in
    finish_as names s t m c.operate.new.self c.operate.result xs c.args.target (AnOperation k.operation k.place k.steps) k.is
    (keeps_spent (ways names) s t k.steps m c.take_steps.new.self c.operate.new.self c.operate.result f tt c.in_ok-take_steps-in-Operation.ensures (c.operate.ensures.gives (ways names)))

pub returns-in-Written-clause-gives : goal.returns-in-Written-clause-gives
returns-in-Written-clause-gives c =
    let s = c.args.world.now.0 in
    let names = c.args.names.now in
    finish_as names s s c.args.self.now c.call_written.new.self c.call_written.result (objects c.args.values.items) c.args.target (Written c.in-Written.parts) c.in-Written.is (c.call_written.ensures.gives (ways names) s)

pub returns-in-First-clause-gives : goal.returns-in-First-clause-gives
returns-in-First-clause-gives c =
    let s = c.args.world.now.0 in
    let names = c.args.names.now in
    finish_as names s s c.args.self.now c.give_first.new.self c.give_first.result (objects c.args.values.items) c.args.target First c.in-First.is (c.give_first.ensures.gives (ways names) s)

pub returns-in-Enter-clause-gives : goal.returns-in-Enter-clause-gives
returns-in-Enter-clause-gives c =
    let names = c.args.names.now in
    finish_as names c.args.world.now.0 c.enter_package.new.world.0 c.args.self.now c.enter_package.new.self c.enter_package.result (objects c.args.values.items) c.args.target Enter c.in-Enter.is (c.enter_package.ensures.gives (ways names))

pub returns-in-Global-clause-gives : goal.returns-in-Global-clause-gives
returns-in-Global-clause-gives c =
    let s = c.args.world.now.0 in
    let names = c.args.names.now in
    finish_as names s s c.args.self.now c.global.new.self c.global.result (objects c.args.values.items) c.args.target Global c.in-Global.is (c.global.ensures.gives names)

pub returns-in-Define-clause-gives : goal.returns-in-Define-clause-gives
returns-in-Define-clause-gives c =
    let names = c.args.names.now in
    finish_as names c.args.world.now.0 c.define.new.world.0 c.args.self.now c.define.new.self c.define.result (objects c.args.values.items) c.args.target Define c.in-Define.is (c.define.ensures.gives (ways names))

pub returns-in-DefineReader-clause-gives : goal.returns-in-DefineReader-clause-gives
returns-in-DefineReader-clause-gives c =
    let names = c.args.names.now in
    finish_as names c.args.world.now.0 c.define_reader.new.world.0 c.args.self.now c.define_reader.new.self c.define_reader.result (objects c.args.values.items) c.args.target DefineReader c.in-DefineReader.is (c.define_reader.ensures.gives names)

pub returns-in_err-take_steps-in-Operation-clause-arguments : goal.returns-in_err-take_steps-in-Operation-clause-arguments
returns-in_err-take_steps-in-Operation-clause-arguments c =
    let r = err_from_is_err_and c.from_residual.result c.from_residual.ensures.1 in
    rw r.1 (λ hand. tt)

pub returns-in_ok-take_steps-in-Operation-clause-arguments : goal.returns-in_ok-take_steps-in-Operation-clause-arguments
returns-in_ok-take_steps-in-Operation-clause-arguments c = λ hand. c.operate.ensures.arguments (spent_holds c.args.world.now.0.packages c.in-Operation.steps c.args.self.now c.take_steps.new.self tt c.in_ok-take_steps-in-Operation.ensures hand)

pub returns-in-Written-clause-arguments : goal.returns-in-Written-clause-arguments
returns-in-Written-clause-arguments c = λ hand.
    let u = c.args.world.now.0.packages in
    c.call_written.ensures.arguments u hand (subst (λ k. MayFinish u k c.args.values.items) c.in-Written.is c.requires.target, c.requires.values)

pub returns-in-First-clause-arguments : goal.returns-in-First-clause-arguments
returns-in-First-clause-arguments c = λ hand. c.give_first.ensures.arguments c.args.world.now.0.packages hand c.requires.values
