use Rattle.std.proofs.Common.{◌≡◌, drop}
use Rattle.kept_functions.specs.LocalOperators.{local_among, local_rows}
use Rattle.kept_functions.proofs.local_operator.named_in.Given as goal

-- the name is among the rows that are left
abbrev pub invariant-loop-known : goal.invariant-loop-known
invariant-loop-known l = local_among (local_rows (drop l.known-index l.rows)) l.name ≡ local_among (local_rows l.rows) l.name
