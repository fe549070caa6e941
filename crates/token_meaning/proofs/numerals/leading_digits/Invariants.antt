use Rattle.std.proofs.Common.{length}
use Rattle.token_meaning.specs.Leading.{codes_of, Leads}
use Rattle.token_meaning.proofs.numerals.leading_digits.Given as goal

abbrev pub invariant-loop-digit : goal.invariant-loop-digit
invariant-loop-digit l = Leads l.base (codes_of l.fn.marks) l.some l.size (codes_of l.rest)

abbrev pub decreases-loop-digit : goal.decreases-loop-digit
decreases-loop-digit l = length l.rest
