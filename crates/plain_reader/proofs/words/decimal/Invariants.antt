use Rattle.std.proofs.Common.{◌≡◌, ◌<◌, ◌^◌, true, take}
use Rattle.token_meaning.specs.Numerals.{are_digits, numeral_value}
use Rattle.plain_reader.proofs.words.decimal.Given as goal

abbrev pub invariant-loop-c : goal.invariant-loop-c
invariant-loop-c l = record {
  digits : are_digits 10 (take l.c-index l.bytes) ≡ true;
  small : l.n < 2 ^ 64;
  worth : l.n ≡ numeral_value 10 (take l.c-index l.bytes);
}
