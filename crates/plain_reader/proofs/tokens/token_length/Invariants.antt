use Rattle.std.proofs.Common.{◌≡◌, true, take}
use Rattle.std.specs.List.{list_all}
use Rattle.plain_reader.specs.Tokens.{is_part}
use Rattle.plain_reader.proofs.tokens.token_length.Given as goal

abbrev pub invariant-loop-i : goal.invariant-loop-i
invariant-loop-i l = list_all (is_part l.readtable) (take l.i l.text) ≡ true
