use Rattle.std.proofs.Common.{◌∙◌, None, if◌then◌else◌, sym, ap}
use Rattle.token_meaning.specs.Numbers.{rational_number}
use Rattle.token_scan.specs.Marks.{characters}
use Rattle.law_tests.proofs.tokens.rational_of_token.Goals as goal

pub returns : goal.returns
returns c = λ negative size plain digits.
    let text = characters c.args.marks.now in
    sym c.rational.ensures.gives
    ∙ (ap (λ b. if b then rational_number c.args.base text else None) plain
    ∙ c.rationals_are_concatenations.ensures.integer c.args.base text negative size c.requires.highest_base digits)
