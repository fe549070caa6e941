use Rattle.std.proofs.Common.{sym, subst}
use Rattle.lexical_evaluation.specs.Arguments.{HaveArguments, IsFrameOf}
use Rattle.lexical_evaluation.proofs.Handing.{form_more, taken_hold}
use Rattle.lisp_object.specs.Datum.{object_of}
use Rattle.lexical_evaluation.specs.declared.frame.Awaiting.TheVariants.{Arguments, Sequence, Choice, Seek, Clause, Guard, Assert, Bind}
use Rattle.lexical_evaluation.proofs.Going.{resumes_as, resumes_gathered}
use Rattle.lexical_evaluation.proofs.machine.Machine.resume.Goals as goal

pub returns-in_ok-push-in-Arguments-clause-gives : goal.returns-in_ok-push-in-Arguments-clause-gives
returns-in_ok-push-in-Arguments-clause-gives c =
    resumes_as c.args.self.now c.gather.new.self c.args.frame (Arguments c.in-Arguments.target c.in-Arguments.forms c.in-Arguments.values) (object_of c.args.value) c.gather.result c.in-Arguments.is
    (resumes_gathered c.args.self.now c.gather.new.self c.in-Arguments.target c.in-Arguments.forms c.in-Arguments.values c.push.new.self c.args.value c.gather.result c.in_ok-push-in-Arguments.ensures.items c.gather.ensures.gives)

pub returns-in-Sequence-clause-gives : goal.returns-in-Sequence-clause-gives
returns-in-Sequence-clause-gives c =
    resumes_as c.args.self.now c.sequence.new.self c.args.frame (Sequence c.in-Sequence.forms) (object_of c.args.value) c.sequence.result c.in-Sequence.is c.sequence.ensures.gives

pub returns-in-Choice-clause-gives : goal.returns-in-Choice-clause-gives
returns-in-Choice-clause-gives c = resumes_as c.args.self.now c.choose.new.self c.args.frame (Choice c.in-Choice.forms) (object_of c.args.value) c.choose.result c.in-Choice.is c.choose.ensures.gives

pub returns-in-Seek-clause-gives : goal.returns-in-Seek-clause-gives
returns-in-Seek-clause-gives c = resumes_as c.args.self.now c.sought.new.self c.args.frame (Seek c.in-Seek.truth c.in-Seek.forms) (object_of c.args.value) c.sought.result c.in-Seek.is c.sought.ensures.gives

pub returns-in-Clause-clause-gives : goal.returns-in-Clause-clause-gives
returns-in-Clause-clause-gives c = resumes_as c.args.self.now c.clause.new.self c.args.frame (Clause c.in-Clause.forms c.in-Clause.others) (object_of c.args.value) c.clause.result c.in-Clause.is c.clause.ensures.gives

pub returns-in-Guard-clause-gives : goal.returns-in-Guard-clause-gives
returns-in-Guard-clause-gives c = resumes_as c.args.self.now c.guarded.new.self c.args.frame (Guard c.in-Guard.truth c.in-Guard.forms) (object_of c.args.value) c.guarded.result c.in-Guard.is c.guarded.ensures.gives

pub returns-in-Assert-clause-gives : goal.returns-in-Assert-clause-gives
returns-in-Assert-clause-gives c = resumes_as c.args.self.now c.assert.new.self c.args.frame Assert (object_of c.args.value) c.assert.result c.in-Assert.is c.assert.ensures.gives

pub returns-in-Bind-clause-gives : goal.returns-in-Bind-clause-gives
returns-in-Bind-clause-gives c =
    resumes_as c.args.self.now c.bound.new.self c.args.frame (Bind c.in-Bind.in_turn c.in-Bind.variable c.in-Bind.others c.in-Bind.made c.in-Bind.forms) (object_of c.args.value) c.bound.result c.in-Bind.is c.bound.ensures.gives

pub returns-in_ok-push-in-Arguments-clause-arguments : goal.returns-in_ok-push-in-Arguments-clause-arguments
returns-in_ok-push-in-Arguments-clause-arguments c = λ u hand given.
    let frame = subst (IsFrameOf u) c.in-Arguments.is given.0 in
    c.gather.ensures.arguments u hand (frame.0, frame.1, form_more u c.in-Arguments.values.items c.push.new.self.items c.args.value c.in_ok-push-in-Arguments.ensures.items frame.2 given.1)

pub returns-in-Sequence-clause-arguments : goal.returns-in-Sequence-clause-arguments
returns-in-Sequence-clause-arguments c = λ u hand given. c.sequence.ensures.arguments u hand (subst (IsFrameOf u) c.in-Sequence.is given.0)

pub returns-in-Choice-clause-arguments : goal.returns-in-Choice-clause-arguments
returns-in-Choice-clause-arguments c = λ u hand given. c.choose.ensures.arguments u hand (subst (IsFrameOf u) c.in-Choice.is given.0)

pub returns-in-Seek-clause-arguments : goal.returns-in-Seek-clause-arguments
returns-in-Seek-clause-arguments c = λ u hand given. c.sought.ensures.arguments u hand (subst (IsFrameOf u) c.in-Seek.is given.0, given.1)

pub returns-in-Clause-clause-arguments : goal.returns-in-Clause-clause-arguments
returns-in-Clause-clause-arguments c = λ u hand given.
    let frame = subst (IsFrameOf u) c.in-Clause.is given.0 in
    c.clause.ensures.arguments u hand (frame.0, frame.1, given.1)

pub returns-in-Guard-clause-arguments : goal.returns-in-Guard-clause-arguments
returns-in-Guard-clause-arguments c = λ u hand given. c.guarded.ensures.arguments u hand (subst (IsFrameOf u) c.in-Guard.is given.0)

pub returns-in-Assert-clause-arguments : goal.returns-in-Assert-clause-arguments
returns-in-Assert-clause-arguments c = λ u hand given. c.assert.ensures.arguments u hand tt

pub returns-in-Bind-clause-arguments : goal.returns-in-Bind-clause-arguments
returns-in-Bind-clause-arguments c = λ u hand given.
    let frame = subst (IsFrameOf u) c.in-Bind.is given.0 in
    c.bound.ensures.arguments u hand (given.1, frame.0, frame.1, frame.2)

pub returns-in-Scope-clause-arguments : goal.returns-in-Scope-clause-arguments
returns-in-Scope-clause-arguments c = λ u hand given.
    (record { sound = hand.sound; frames = hand.frames; bindings = subst (HaveArguments u) (sym c.truncate.ensures.items) (taken_hold u c.in-Scope.length c.args.self.now.bindings.items hand.bindings) }, given.1)

pub returns-in-Call-clause-arguments : goal.returns-in-Call-clause-arguments
returns-in-Call-clause-arguments c = λ u hand given. (record { sound = hand.sound; frames = hand.frames; bindings = subst (IsFrameOf u) c.in-Call.is given.0 }, given.1)
