use Rattle.std.proofs.Common.{Ok, refl, sym, ap, subst, ◌∙◌}
use Rattle.lisp_object.specs.Datum.{object_of}
use Rattle.kept_functions.specs.Counting.{without_count}
use Rattle.lexical_evaluation.specs.Values.{value_in}
use Rattle.lexical_evaluation.specs.Machine.{comes_to, next_value}
use Rattle.lexical_evaluation.specs.Ways.{ways}
use Rattle.lexical_evaluation.proofs.Stepping.{begun, is_begun, on_with, holds_on, reached_value, value_holds, answered_refused}
use Rattle.lexical_evaluation.proofs.calls.evaluate.Goals as goal

pub steps-init : goal.steps-init
steps-init c =
    let s = c.args.world.now.0 in
    let m = c.new-machine.result in
    let e = c.new-machine.ensures in
    record {
      comes = begun c.args.names.now s m c.args.form e.frames e.bindings e.left e.deeper e.wrote;
      machine = is_begun s.packages m c.soundness.ensures.present.packages e.frames e.bindings;
      next = c.requires.form;
      marked = refl;
    }

pub steps-preserved : goal.steps-preserved
steps-preserved c =
    let i = c.steps.invariant in
    let w = ways c.args.names.now in
    let t = c.step.new.world.0 in
    let o = comes_to w c.steps.machine (next_value w c.steps.world.0 c.steps.machine c.steps.next) in
    let holds = holds_on w t o t.packages c.step.new.self c.in-Ok.stepped c.in-GoesOn.following c.in-GoesOn.is c.in-Ok.ensures.arguments in
    record {
      comes = i.comes ∙ on_with w t o t.packages c.step.new.self c.in-Ok.stepped c.in-GoesOn.following c.in-GoesOn.is c.in-Ok.ensures.gives;
      machine = holds.0;
      next = holds.1;
      marked = c.step.ensures.marked ∙ i.marked;
    }

pub returns-in-Reached-clause-gives : goal.returns-in-Reached-clause-gives
returns-in-Reached-clause-gives c =
    let w = ways c.args.names.now in
    let t = c.step.new.world.0 in
    let o = comes_to w c.steps.machine (next_value w c.steps.world.0 c.steps.machine c.steps.next) in
    ap without_count (c.steps.invariant.comes ∙ reached_value w t o t.packages c.step.new.self c.in-Ok.stepped c.in-Reached.value c.in-Reached.is c.in-Ok.ensures.gives)

pub returns-in-Reached-clause-value : goal.returns-in-Reached-clause-value
returns-in-Reached-clause-value c =
    let w = ways c.args.names.now in
    let t = c.step.new.world.0 in
    let o = comes_to w c.steps.machine (next_value w c.steps.world.0 c.steps.machine c.steps.next) in
    value_holds w t o t.packages c.step.new.self c.in-Ok.stepped c.in-Reached.value c.in-Reached.is c.in-Ok.ensures.arguments

pub returns-in-Err-clause-gives : goal.returns-in-Err-clause-gives
returns-in-Err-clause-gives c =
    answered_refused (ways c.args.names.now) c.step.new.world.0 _ (comes_to (ways c.args.names.now) c.steps.machine (next_value (ways c.args.names.now) c.steps.world.0 c.steps.machine c.steps.next)) c.step.new.self c.in-Err.error
    c.steps.invariant.comes c.in-Err.ensures.gives
