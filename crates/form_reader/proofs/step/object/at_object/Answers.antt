use Rattle.std.proofs.Common.{◌≤◌, List, length, arith, sym, subst}
use Rattle.form_reader.specs.declared.stack.Frame.{Frame}
use Rattle.form_reader.specs.Context.{setting}
use Rattle.form_reader.proofs.Objects.{object_closes, object_over, object_attempts}
use Rattle.form_reader.proofs.step.object.at_object.Goals as goal

pub returns-then-at-with-clause-brings : goal.returns-then-at-with-clause-brings
returns-then-at-with-clause-brings g c = λ cs.
    let setting = setting g.R.MacroFunctions.functions c.args.with.now in
    object_over setting c.args.at c.args.c cs c.in-Some.frame _ c.args.stack.now c.in-Some.ensures.0 c.in-Some.ensures.1 c.requires.within c.if-at-with.true

pub returns-in-Some-clause-brings : goal.returns-in-Some-clause-brings
returns-in-Some-clause-brings g c = λ cs.
    let setting = setting g.R.MacroFunctions.functions c.args.with.now in
    object_closes setting c.args.at c.args.c cs c.in-Some.frame c.pop_closed_by.new.self c.args.stack.now c.close.result c.in-Some.ensures.0 c.in-Some.ensures.1 (omega (arith, c.if-at-with.false))
    (c.close.ensures.brings c.pop_closed_by.new.self cs c.len.ensures)

pub returns-then-stands_alone-clause-brings : goal.returns-then-stands_alone-clause-brings
returns-then-stands_alone-clause-brings g c = λ cs.
    let setting = setting g.R.MacroFunctions.functions c.args.with.now in
    object_attempts setting c.args.at c.args.c cs c.pop_closed_by.new.self c.args.stack.now _ c.lone_byte.result c.in_default.ensures.0 c.requires.within c.in_default.ensures.1 (c.lone_byte.ensures.brings cs)

pub returns-else-stands_alone-clause-brings : goal.returns-else-stands_alone-clause-brings
returns-else-stands_alone-clause-brings g c = λ cs.
    let setting = setting g.R.MacroFunctions.functions c.args.with.now in
    object_attempts setting c.args.at c.args.c cs c.pop_closed_by.new.self c.args.stack.now _ c.begin_token.result c.in_default.ensures.0 c.requires.within c.in_default.ensures.1
    (c.begin_token.ensures.brings c.pop_closed_by.new.self cs (subst (λ (fs : List Frame). length fs ≤ c.args.with.now.limits.nesting) (sym c.in_default.ensures.0) c.requires.nesting))
