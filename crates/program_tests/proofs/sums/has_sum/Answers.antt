use Rattle.std.proofs.Common.{sym, ◌∙◌}
use Rattle.std.proofs.lemmas.Bool.{ne_eqb}
use Rattle.program_tests.proofs.sums.has_sum.Goals as goal

pub returns : goal.returns
returns c = λ was same burst.
    ne_eqb c.crc32c.result c.args.sum (λ is. c.bursts.ensures was c.args.text.now burst (sym c.crc32c.ensures ∙ is ∙ same))
