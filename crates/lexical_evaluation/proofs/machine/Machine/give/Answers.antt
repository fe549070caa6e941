use Rattle.std.proofs.Common.{◌∙◌, arith}
use Rattle.lisp_object.specs.Datum.{object_of}
use Rattle.kept_functions.specs.Counting.{here}
use Rattle.lexical_evaluation.specs.Machine.{comes_to, comes_after, point_of, value_given, around}
use Rattle.lexical_evaluation.specs.Ways.{ways}
use Rattle.lexical_evaluation.proofs.Going.{comes_as}
use Rattle.lexical_evaluation.proofs.Stepping.{reached, resumed, popped_machine, frame_proper}
use Rattle.lexical_evaluation.proofs.machine.Machine.give.Goals as goal

pub resume-requires-clause-frame : goal.resume-requires-clause-frame
resume-requires-clause-frame c =
    frame_proper c.args.world.now.0.packages c.in-Some.frame (popped_machine c.args.world.now.0.packages c.args.self.now c.pop.new.self c.pop.result c.in-Some.frame c.requires.machine c.pop.ensures.items c.in-Some.is).1

pub returns-in-None-clause-gives : goal.returns-in-None-clause-gives
returns-in-None-clause-gives c = λ names. reached (ways names) c.args.world.now.0 c.args.self.now c.args.value (grind (arith, c.in-None.ensures))

pub returns-in-Some-clause-gives : goal.returns-in-Some-clause-gives
returns-in-Some-clause-gives c = λ names.
    let w = ways names in
    let s = c.args.world.now.0 in
    let m = c.args.self.now in
    let y = object_of c.args.value in
    let frame = c.in-Some.frame in
    let before = comes_to w m (here y (point_of m s)) in
    c.goes_on.ensures.gives w s before c.resume.new.self
    (comes_as w s before (comes_after w (record m { frames = c.pop.new.self }) frame (value_given (w.rules m.deeper) w.does (around m) frame y (point_of m s))) c.resume.new.self c.resume.result
    (resumed w s m c.pop.new.self c.pop.result frame y c.pop.ensures.items c.in-Some.is)
    (c.resume.ensures.gives w s))

pub returns-in-Some-clause-arguments : goal.returns-in-Some-clause-arguments
returns-in-Some-clause-arguments c =
    let u = c.args.world.now.0.packages in
    let both = popped_machine u c.args.self.now c.pop.new.self c.pop.result c.in-Some.frame c.requires.machine c.pop.ensures.items c.in-Some.is in
    c.goes_on.ensures.arguments u c.resume.new.self (c.resume.ensures.arguments u both.0 (both.1, c.requires.value))
