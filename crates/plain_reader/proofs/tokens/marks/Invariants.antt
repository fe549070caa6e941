use Rattle.std.proofs.Common.{◌≡◌, take}
use Rattle.plain_reader.specs.Tokens.{marks_of_bytes}
use Rattle.plain_reader.proofs.tokens.marks.Given as goal

abbrev pub invariant-loop-c : goal.invariant-loop-c
invariant-loop-c l = l.marks.items ≡ marks_of_bytes (take l.c-index l.bytes)
