use Rattle.std.proofs.Common.{length, sym, refl, lit≤}
use Rattle.std.specs.Prelude.{◌==◌}
use Rattle.std.proofs.lemmas.Bool.{both_ways, eq-eqb}
use Rattle.plain_reader.proofs.Names.{digits_more, value_none, worth_more, whole_numeral}
use Rattle.plain_reader.proofs.words.decimal.Goals as goal

pub loop-c-init : goal.loop-c-init
loop-c-init c = record { digits = refl; small = lit≤ tt; worth = value_none }

pub loop-c-preserved : goal.loop-c-preserved
loop-c-preserved c = record {
  digits = digits_more c.args.bytes.now c.loop-c.c-index c.loop-c-test.true c.loop-c.invariant.digits (sym c.if-not-is_digit.ensures);
  worth = worth_more c.args.bytes.now c.loop-c.c-index c.loop-c.n c.in_ok-n.n c.loop-c-test.true c.loop-c.invariant.worth (sym c.if-not-is_digit.ensures) c.in_ok-n.ensures.value;
  small = c.in_ok-n.ensures.small;
}

pub returns-clause-value : goal.returns-clause-value
returns-clause-value c =
    whole_numeral c.args.bytes.now c.loop-c.c-index c.loop-c.n c.loop-c-test.false (λ e. both_ways (length c.args.bytes.now == 0) (sym c.if-is_empty.ensures) (eq-eqb (length c.args.bytes.now) 0 e)) c.loop-c.invariant.digits c.loop-c.invariant.worth
