use Rattle.client_table.proofs.Spaces.{IsBeforeSpace}
use Rattle.client_table.proofs.name.split.Given as goal

abbrev pub invariant-loop-i : goal.invariant-loop-i
invariant-loop-i l = IsBeforeSpace l.text l.i
