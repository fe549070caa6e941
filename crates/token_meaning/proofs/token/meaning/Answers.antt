use Rattle.std.proofs.Common.{sym, subst, None, Some, ◌∙◌}
use Rattle.token_meaning.specs.Results.{AnswersMeaning, view_number}
use Rattle.token_meaning.proofs.Meant.{meant_escaped, meant_dots, meant_other}
use Rattle.token_meaning.proofs.token.meaning.Goals as goal

pub returns-then-not-are_plain-clause-gives : goal.returns-then-not-are_plain-clause-gives
returns-then-not-are_plain-clause-gives c =
    subst (AnswersMeaning c.named.result) (sym (meant_escaped c.args.base c.args.marks.now (sym c.are_plain.ensures ∙ c.if-not-are_plain.true))) c.named.ensures.gives

pub returns-then-are_dots-clause-gives : goal.returns-then-are_dots-clause-gives
returns-then-are_dots-clause-gives c =
    subst (AnswersMeaning c.dots.result)
    (sym (meant_dots c.args.base c.args.marks.now (sym c.are_plain.ensures ∙ c.if-not-are_plain.false) (sym c.are_dots.ensures ∙ c.if-are_dots.true)))
    c.dots.ensures.gives

pub returns-in-Some-clause-gives : goal.returns-in-Some-clause-gives
returns-in-Some-clause-gives c =
    subst (AnswersMeaning c.numbered.result)
    (sym (meant_other c.args.base c.args.marks.now (Some (view_number c.in-Some.given)) (sym c.are_plain.ensures ∙ c.if-not-are_plain.false) (sym c.are_dots.ensures ∙ c.if-are_dots.false) c.in-Some.ensures.gives))
    c.numbered.ensures.gives

pub returns-in-None-clause-gives : goal.returns-in-None-clause-gives
returns-in-None-clause-gives c =
    subst (AnswersMeaning c.named-in-None.result)
    (sym (meant_other c.args.base c.args.marks.now None (sym c.are_plain.ensures ∙ c.if-not-are_plain.false) (sym c.are_dots.ensures ∙ c.if-are_dots.false) c.in-None.ensures.gives))
    c.named-in-None.ensures.gives
