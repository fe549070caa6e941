use Rattle.std.proofs.Common.{rules, ap, sym, ◌∙◌}
use Rattle.form_check.specs.Checking.{after_line}
use Rattle.form_check.proofs.Lines.{at_end, at_end_of_line, in_line}
use Rattle.form_check.proofs.checking.after_line.Goals as goal

pub returns-then-byte-eq10-clause-text : goal.returns-then-byte-eq10-clause-text
returns-then-byte-eq10-clause-text c =
    sym (at_end_of_line c.in-Some.byte.now c.in-Some.more.now c.if-byte-eq10.true) ∙ ap after_line (sym c.in-Some.ensures.cases.0) ∙ c.bytes.invariant.0

pub bytes-preserved : goal.bytes-preserved
bytes-preserved c = (
  sym (in_line c.in-Some.byte.now c.in-Some.more.now c.if-byte-eq10.false) ∙ ap after_line (sym c.in-Some.ensures.cases.0) ∙ c.bytes.invariant.0,
  search rules,
)

pub returns-clause-text : goal.returns-clause-text
returns-clause-text c = at_end c.bytes.rest.now _ c.in_default.ensures.cases c.bytes.invariant.0
