use Rattle.lexical_evaluation.proofs.Safe.{answered_holds, defined_safe}
use Rattle.std.proofs.Common.{sym, subst, ◌∙◌}
use Rattle.lisp_object.specs.Object.{Object, list_of}
use Rattle.lisp_object.specs.Datum.{object_of}
use Rattle.plist_state.specs.Sound.{IsValue}
use Rattle.lisp_operators.specs.EvaluationAnswers.{Answers, done, objects}
use Rattle.evaluator.specs.Operators.{first}
use Rattle.evaluator.specs.Value.{rest}
use Rattle.kept_functions.specs.Definitions.{defun_value}
use Rattle.lexical_evaluation.proofs.Handing.{first_holds, rest_holds}
use Rattle.lexical_evaluation.proofs.machine.Machine.define.Goals as goal

pub define-defined-requires-clause-name : goal.define-defined-requires-clause-name
define-defined-requires-clause-name c =
    let u = c.args.world.now.0.packages in
    record {
      proper = c.in_ok-name.ensures.proper;
      value = subst (IsValue u) (sym c.in_ok-name.ensures.first) (first_holds u c.soundness.ensures.present.packages (list_of (objects c.args.values.items)) c.requires.list);
    }

pub define-defined-requires-clause-definition : goal.define-defined-requires-clause-definition
define-defined-requires-clause-definition c =
    let u = c.args.world.now.0.packages in
    record {
      proper = c.in_ok-definition.ensures.proper;
      value = subst (IsValue u) (sym (c.in_ok-definition.ensures.list ∙ c.in_ok-name.ensures.others)) (rest_holds u c.soundness.ensures.present.packages (list_of (objects c.args.values.items)) c.requires.list);
    }

pub returns-clause-gives : goal.returns-clause-gives
returns-clause-gives c = λ w.
    let s = c.args.world.now.0 in
    let t = c.define-defined.new.world.0 in
    let all = list_of (objects c.args.values.items) in
    c.made.ensures.gives w s t (defun_value (first all) (rest all) s)
    (subst (λ (x : Object). Answers done c.define-defined.result t (defun_value x (rest all) s)) c.in_ok-name.ensures.first
    (subst (λ (y : Object). Answers done c.define-defined.result t (defun_value (object_of c.in_ok-name.name) y s)) (c.in_ok-definition.ensures.list ∙ c.in_ok-name.ensures.others) c.define-defined.ensures.gives))

pub returns-clause-arguments : goal.returns-clause-arguments
returns-clause-arguments c = λ hand.
    let s = c.args.world.now.0 in
    let all = list_of (objects c.args.values.items) in
    let name = object_of c.in_ok-name.name in
    let definition = object_of c.in_ok-definition.definition in
    let sound = c.soundness.ensures.present in
    c.made.ensures.arguments c.define-defined.new.world.0.packages
    (answered_holds c.args.self.now s c.define-defined.new.world.0 (defun_value name definition s)
    (defined_safe s name definition sound (subst (IsValue s.packages) (sym c.in_ok-name.ensures.first) (first_holds s.packages sound.packages all c.requires.list))
    (subst (IsValue s.packages) (sym (c.in_ok-definition.ensures.list ∙ c.in_ok-name.ensures.others)) (rest_holds s.packages sound.packages all c.requires.list)))
    hand c.define-defined.result c.define-defined.ensures.gives c.define-defined.ensures.proper)
