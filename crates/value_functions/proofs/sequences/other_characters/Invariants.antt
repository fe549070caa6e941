use Rattle.std.proofs.Common.{◌≡◌, ◌==◌, not, filter, take}
use Rattle.lisp_operators.specs.EvaluationAnswers.{IsAscii}
use Rattle.value_functions.proofs.sequences.other_characters.Given as goal

abbrev pub invariant-loop-byte : goal.invariant-loop-byte
invariant-loop-byte l = record {
  others : l.others.items ≡ filter (λ d. not (l.left_out == d)) (take l.byte-index l.characters);
  proper : IsAscii l.others.items;
}
