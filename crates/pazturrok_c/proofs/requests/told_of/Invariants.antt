use Rattle.std.specs.Prelude.{◌≡◌, take}
use Rattle.std.specs.List.{flat_map}
use Rattle.pazturrok_c.specs.Requests.{bytes_of_answer}
use Rattle.pazturrok_c.proofs.requests.told_of.Given as goal

-- what is told of the answers so far
abbrev pub invariant-loop-answer : goal.invariant-loop-answer
invariant-loop-answer l = l.bytes.items ≡ flat_map bytes_of_answer (take l.answer-index l.answers)
