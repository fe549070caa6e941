use Rattle.token_meaning.specs.Leading.{codes_of}
use Rattle.token_meaning.proofs.Fronts.{none_yet, one_more}
use Rattle.token_meaning.proofs.numerals.leading_digits.Goals as goal

pub loop-digit-init : goal.loop-digit-init
loop-digit-init c = none_yet c.args.base (codes_of c.args.marks.now)

pub loop-digit-preserved : goal.loop-digit-preserved
loop-digit-preserved c =
    one_more c.args.base (codes_of c.args.marks.now) (codes_of c.loop-digit.rest.now) (codes_of c.in-Some.more.now) c.loop-digit.some c.loop-digit.size c.with_digit-size.result c.in-Some.digit
    c.loop-digit.invariant c.in-Some.ensures c.with_digit-size.ensures
