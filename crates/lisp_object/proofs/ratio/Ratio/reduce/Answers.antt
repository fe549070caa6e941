use Rattle.std.proofs.Common.{subst, arith, to_z, of_z, to_z-of_z, SFits}
use Rattle.std.specs.Int.{IsGcd, w128}
use Prim.Native.Nat.{◌∣◌}
use Rattle.lisp_object.proofs.Quotients.{gcd_over_zero, lowest}
use Rattle.lisp_object.proofs.ratio.Ratio.reduce.Goals as goal

pub divided-numerator-requires-clause-over_zero : goal.divided-numerator-requires-clause-over_zero
divided-numerator-requires-clause-over_zero c =
    gcd_over_zero c.unsigned_abs.result c.args.d c.greatest_divisor-divisor.result (omega (arith, c.if-d-eq0.false))
    c.greatest_divisor-divisor.ensures.divides

pub divided-numerator-requires-clause-divides : goal.divided-numerator-requires-clause-divides
divided-numerator-requires-clause-divides c =
    subst (λ m. c.greatest_divisor-divisor.result ∣ m) c.unsigned_abs.ensures.value c.greatest_divisor-divisor.ensures.divides.0

pub nonzero_div-denominator : goal.nonzero_div-denominator
nonzero_div-denominator c =
    gcd_over_zero c.unsigned_abs.result c.args.d c.greatest_divisor-divisor.result (omega (arith, c.if-d-eq0.false))
    c.greatest_divisor-divisor.ensures.divides

pub invariant_of-result : goal.invariant_of-result
invariant_of-result c =
    let fits : SFits w128 c.divided-numerator.result = record { sfits = c.divided-numerator.type_inv } in
    rw (to_z-of_z fits, c.divided-numerator.ensures)
    (lowest (to_z w128 (of_z w128 c.args.n)) c.args.d c.greatest_divisor-divisor.result (omega (arith, c.if-d-eq0.false))
    (subst (λ m. IsGcd m c.args.d c.greatest_divisor-divisor.result) c.unsigned_abs.ensures.value
    c.greatest_divisor-divisor.ensures.divides)
    c.if-denominator-eq1.false)
