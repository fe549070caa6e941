use Rattle.lisp_object.specs.Datum.{object_of}
use Rattle.lisp_operators.proofs.SoundPackages.{enter_safe}
use Rattle.lexical_evaluation.proofs.Safe.{answered_holds}
use Rattle.std.proofs.Common.{sym, subst}
use Rattle.lisp_object.specs.Object.{Object, list_of}
use Rattle.plist_state.specs.Sound.{IsValue}
use Rattle.lisp_operators.specs.Packages.{enter}
use Rattle.lisp_operators.specs.EvaluationAnswers.{Answers, done, objects}
use Rattle.evaluator.specs.Operators.{first}
use Rattle.lexical_evaluation.proofs.Handing.{first_among}
use Rattle.lexical_evaluation.proofs.machine.Machine.enter_package.Goals as goal

pub enter-entered-requires : goal.enter-entered-requires
enter-entered-requires c =
    let u = c.args.world.now.0.packages in
    record {
      proper = c.in_ok-name.ensures.proper;
      value = subst (IsValue u) (sym c.in_ok-name.ensures.first) (first_among u c.soundness.ensures.present.packages c.args.values.items c.requires);
    }

pub returns-clause-gives : goal.returns-clause-gives
returns-clause-gives c = λ w.
    let s = c.args.world.now.0 in
    let t = c.enter-entered.new.world.0 in
    c.made.ensures.gives w s t (enter (first (list_of (objects c.args.values.items))) s)
    (subst (λ (x : Object). Answers done c.enter-entered.result t (enter x s)) c.in_ok-name.ensures.first c.enter-entered.ensures.gives)

pub returns-clause-arguments : goal.returns-clause-arguments
returns-clause-arguments c = λ hand.
    let s = c.args.world.now.0 in
    c.made.ensures.arguments c.enter-entered.new.world.0.packages
    (answered_holds c.args.self.now s c.enter-entered.new.world.0 (enter (object_of c.in_ok-name.name) s) (enter_safe (object_of c.in_ok-name.name) s c.soundness.ensures.present)
    hand c.enter-entered.result c.enter-entered.ensures.gives c.enter-entered.ensures.proper)
