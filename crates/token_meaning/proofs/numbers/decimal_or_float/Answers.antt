use Rattle.std.proofs.Common.{sym, subst, ◌∙◌}
use Rattle.token_meaning.specs.Leading.{codes_of, IsLeading}
use Rattle.token_meaning.proofs.Decimals.{after_its_point, exponent_float, no_exponent}
use Rattle.token_meaning.proofs.numbers.decimal_or_float.Goals as goal

pub returns-in-Some-clause-gives : goal.returns-in-Some-clause-gives
returns-in-Some-clause-gives c text h =
    let point = after_its_point (codes_of c.args.whole.rest.now) (codes_of c.in-Some.rest.now) (sym c.in-Some.ensures) in
    c.after_point.ensures.gives text (codes_of c.in-Some.rest.now)
    (subst (λ xs. IsLeading 10 text c.args.whole.some c.args.whole.size xs) point h) c.leading_digits.ensures

pub returns-in-None-clause-gives : goal.returns-in-None-clause-gives
returns-in-None-clause-gives c text h =
    exponent_float c.args.negative text (codes_of c.args.whole.rest.now) c.args.whole.some c.args.whole.size h (sym c.in-None.ensures) (sym c.has_exponent.ensures ∙ c.if-has_exponent.true)

pub returns-in-None-2-clause-gives : goal.returns-in-None-2-clause-gives
returns-in-None-2-clause-gives c text h =
    no_exponent c.args.negative text (codes_of c.args.whole.rest.now) c.args.whole.some c.args.whole.size h (sym c.in-None.ensures) (sym c.has_exponent.ensures ∙ c.if-has_exponent.false)
