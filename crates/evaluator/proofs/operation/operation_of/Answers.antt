use Rattle.std.proofs.Common.{sym, ◌∙◌}
use Rattle.lisp_object.specs.Datum.{object_of}
use Rattle.evaluator.proofs.Heads.{head_other, head_unknown, head_count, head_acts}
use Rattle.evaluator.proofs.operation.operation_of.Goals as goal

pub returns-in_default-clause-head : goal.returns-in_default-clause-head
returns-in_default-clause-head c = λ names s arguments proper counted. head_other names s (object_of c.args.head.now) arguments c.in_default.ensures.1

pub returns-in_default-of_symbol-clause-head : goal.returns-in_default-of_symbol-clause-head
returns-in_default-of_symbol-clause-head c = λ names s arguments proper counted.
    head_unknown names s (object_of c.args.head.now) arguments c.in-Ok.home.now c.in-Ok.name.now c.in-Ok.ensures proper (sym (c.in_default-of_symbol.ensures names))

pub returns-then-not-counts-clause-head : goal.returns-then-not-counts-clause-head
returns-then-not-counts-clause-head c = λ names s arguments proper counted.
    head_count names s (object_of c.args.head.now) arguments c.in-Ok.home.now c.in-Ok.name.now c.in-Some.operation c.args.number c.in-Ok.ensures proper
    (c.in-Some.ensures names) counted (sym (c.counts.ensures.value names) ∙ c.if-not-counts.true)

pub returns-clause-head : goal.returns-clause-head
returns-clause-head c = λ names s arguments proper counted.
    head_acts names s (object_of c.args.head.now) arguments c.in-Ok.home.now c.in-Ok.name.now c.in-Some.operation c.args.number c.in-Ok.ensures proper
    (c.in-Some.ensures names) counted (sym (c.counts.ensures.value names) ∙ c.if-not-counts.false)
