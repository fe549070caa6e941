use Rattle.std.proofs.Common.{◌≡◌, ◌++◌, map, take, drop}
use Rattle.readtable_core.specs.Characters.{upper_case}
use Rattle.plain_reader.proofs.words.upcase.Given as goal

abbrev pub invariant-loop-c : goal.invariant-loop-c
invariant-loop-c l = l.name ≡ map upper_case (take l.c-index l.initial.name) ++ drop l.c-index l.initial.name
