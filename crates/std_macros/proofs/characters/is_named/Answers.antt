use Rattle.std.proofs.Common.{sym, ap, ◌∙◌}
use Rattle.token_scan.specs.Marks.{characters}
use Rattle.std_macros.specs.Values.{is_named}
use Rattle.std_macros.proofs.MarkNames.{named_from, named_otherwise, named_longer, named_whole}
use Rattle.std_macros.proofs.characters.is_named.Goals as goal

pub returns-in_default-split_first : goal.returns-in_default-split_first
returns-in_default-split_first c =
    sym (named_longer c.in-Some.c (characters c.in-Some.others.now) c.loop-c.left.now c.in_default-split_first.ensures.cases)
    ∙ ap (λ cs. is_named cs c.loop-c.left.now) (sym c.in-Some.ensures) ∙ c.loop-c.invariant

pub returns-then-not-eq_ignore_ascii_case : goal.returns-then-not-eq_ignore_ascii_case
returns-then-not-eq_ignore_ascii_case c =
    sym (named_otherwise c.in-Some.c c.in-Some-split_first.next.now (characters c.in-Some.others.now) c.in-Some-split_first.more.now
    (sym c.eq_ignore_ascii_case.ensures ∙ c.if-not-eq_ignore_ascii_case.true))
    ∙ (λ i. is_named (sym c.in-Some.ensures i) (sym c.in-Some-split_first.ensures.cases.0 i)) ∙ c.loop-c.invariant

pub loop-c-preserved : goal.loop-c-preserved
loop-c-preserved c =
    sym (named_from c.in-Some.c c.in-Some-split_first.next.now (characters c.in-Some.others.now) c.in-Some-split_first.more.now
    (sym c.eq_ignore_ascii_case.ensures ∙ c.if-not-eq_ignore_ascii_case.false))
    ∙ (λ i. is_named (sym c.in-Some.ensures i) (sym c.in-Some-split_first.ensures.cases.0 i)) ∙ c.loop-c.invariant

pub returns : goal.returns
returns c =
    c.is_empty.ensures ∙ sym (named_whole c.loop-c.left.now)
    ∙ ap (λ cs. is_named cs c.loop-c.left.now) (sym c.in_default.ensures) ∙ c.loop-c.invariant
