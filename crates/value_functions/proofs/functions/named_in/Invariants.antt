use Rattle.std.proofs.Common.{◌≡◌, drop}
use Rattle.value_functions.specs.Functions.{function_among, function_rows}
use Rattle.value_functions.proofs.functions.named_in.Given as goal

-- the name is among the rows that are left
abbrev pub invariant-rows : goal.invariant-rows
invariant-rows l = function_among (function_rows (drop l.known-index l.rows)) l.name ≡ function_among (function_rows l.rows) l.name
