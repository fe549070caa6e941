use Rattle.std.proofs.Common.{sym, ◌∙◌}
use Rattle.token_meaning.proofs.Meant.{rational_meant}
use Rattle.token_meaning.proofs.token.rational.Goals as goal

pub returns-then-are_plain-clause-gives : goal.returns-then-are_plain-clause-gives
returns-then-are_plain-clause-gives c =
    rational_meant c.args.base c.args.marks.now (sym c.are_plain.ensures ∙ c.if-are_plain.true) ∙ c.rational_number.ensures.gives
