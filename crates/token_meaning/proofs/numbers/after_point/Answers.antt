use Rattle.std.proofs.Common.{Some, sym, ap, subst, ◌∙◌}
use Rattle.token_meaning.specs.Numerals.{numeral_value}
use Rattle.token_meaning.specs.Leading.{codes_of, IsLeading}
use Rattle.token_meaning.proofs.Decimals.{at_end, digits_known, point_float, point_integer, point_alone, point_exponent, point_none}
use Rattle.token_meaning.proofs.numbers.after_point.Goals as goal

pub returns-then-has_exponent-clause-gives : goal.returns-then-has_exponent-clause-gives
returns-then-has_exponent-clause-gives c text after h g =
    point_exponent c.args.negative text after _ c.args.whole.some c.args.fraction.some c.args.whole.size c.args.fraction.size h g
    (sym c.is_end.ensures ∙ c.if-not-is_end.true) (sym c.has_exponent.ensures ∙ c.if-has_exponent.true)

pub returns-then-not-is_end-clause-gives : goal.returns-then-not-is_end-clause-gives
returns-then-not-is_end-clause-gives c text after h g =
    point_none c.args.negative text after _ c.args.whole.some c.args.fraction.some c.args.whole.size c.args.fraction.size h g
    (sym c.is_end.ensures ∙ c.if-not-is_end.true) (sym c.has_exponent.ensures ∙ c.if-has_exponent.false)

pub returns-then-fraction-clause-gives : goal.returns-then-fraction-clause-gives
returns-then-fraction-clause-gives c text after h g =
    let ended = at_end after _ c.args.fraction.some c.args.fraction.size g (sym c.is_end.ensures ∙ c.if-not-is_end.false) in
    point_float c.args.negative text after c.args.whole.some c.args.whole.size c.args.fraction.size h
    (digits_known after _ c.args.fraction.some _ c.args.fraction.size ended c.if-fraction.true)

pub returns-then-whole-clause-gives : goal.returns-then-whole-clause-gives
returns-then-whole-clause-gives c text after h g =
    let ended = at_end after _ c.args.fraction.some c.args.fraction.size g (sym c.is_end.ensures ∙ c.if-not-is_end.false) in
    let fraction = digits_known after _ c.args.fraction.some _ c.args.fraction.size ended c.if-fraction.false in
    let whole = digits_known text _ c.args.whole.some _ c.args.whole.size h c.if-whole.true in
    point_integer c.args.negative text after c.args.whole.size c.args.fraction.size whole fraction
    ∙ ap Some (sym (c.integer.ensures.gives (numeral_value 10 whole.leads.digits) whole.leads.worth))
