use Rattle.std.proofs.Common.{◌∷◌, Some, sym, ap, subst, ◌∙◌}
use Rattle.token_meaning.specs.Numerals.{numeral_value}
use Rattle.token_meaning.specs.Leading.{codes_of, IsLeading}
use Rattle.token_meaning.proofs.Rationals.{below_slash, rational_without, rational_whole, rational_over, rational_under, rational_other}
use Rattle.token_meaning.proofs.numbers.rational_form.Goals as goal

pub returns-in_err-below-clause-gives : goal.returns-in_err-below-clause-gives
returns-in_err-below-clause-gives c text h =
    rw c.from_residual.ensures
    (rational_other c.args.base c.args.negative text _ c.args.whole.some c.args.whole.size c.requires.highest_base h
    (sym c.is_end.ensures ∙ c.if-is_end.false) (sym c.in_err-below.ensures))

pub returns-in_err-denominator-clause-gives : goal.returns-in_err-denominator-clause-gives
returns-in_err-denominator-clause-gives c text h =
    let slash = below_slash (codes_of c.args.whole.rest.now) (codes_of c.in_ok-below.below.now) (sym c.in_ok-below.ensures) in
    rw c.from_residual-in_err-denominator.ensures
    (rational_under c.args.base c.args.negative text (codes_of c.in_ok-below.below.now) c.args.whole.some c.args.whole.size c.requires.highest_base
    (subst (λ xs. IsLeading c.args.base text c.args.whole.some c.args.whole.size xs) slash h) c.in_err-denominator.ensures)

pub returns-clause-gives : goal.returns-clause-gives
returns-clause-gives c text h =
    let slash = below_slash (codes_of c.args.whole.rest.now) (codes_of c.in_ok-below.below.now) (sym c.in_ok-below.ensures) in
    let there = subst (λ xs. IsLeading c.args.base text c.args.whole.some c.args.whole.size xs) slash h in
    let whole = subst (λ b. IsLeading c.args.base text b c.args.whole.size (47 ∷ codes_of c.in_ok-below.below.now)) c.if-not-whole.false there in
    rational_over c.args.base c.args.negative text (codes_of c.in_ok-below.below.now) c.args.whole.size c.requires.highest_base whole c.in_ok-denominator.ensures.0
    ∙ ap Some (sym (c.ratio.ensures.gives (numeral_value c.args.base whole.leads.digits) (numeral_value c.args.base (codes_of c.in_ok-below.below.now)) whole.leads.worth c.in_ok-denominator.ensures.1))
