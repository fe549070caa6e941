use Rattle.std.proofs.Common.{arith}
use Rattle.std.proofs.lemmas.Nat.Gcd.{IsGcd-from_mod, IsGcd-from_zero}
use Rattle.lisp_object.proofs.Quotients.{gcd_from_IsGcd}
use Rattle.lisp_object.proofs.ratio.greatest_divisor.Goals as goal

pub loop-y-preserved : goal.loop-y-preserved
loop-y-preserved c =
    (λ g is. c.loop-y.invariant.0 g (IsGcd-from_mod c.loop-y.x c.loop-y.y g is), omega (arith, c.loop-y-test.true))

pub returns-clause-value : goal.returns-clause-value
returns-clause-value c =
    gcd_from_IsGcd c.args.a c.args.b c.loop-y.x c.requires
    (c.loop-y.invariant.0 c.loop-y.x (IsGcd-from_zero c.loop-y.x c.loop-y.y c.loop-y-test.false))

pub returns-clause-divides : goal.returns-clause-divides
returns-clause-divides c = c.loop-y.invariant.0 c.loop-y.x (IsGcd-from_zero c.loop-y.x c.loop-y.y c.loop-y-test.false)
