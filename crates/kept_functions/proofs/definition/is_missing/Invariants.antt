use Rattle.std.proofs.Common.{◌≡◌, drop}
use Rattle.std.specs.List.{list_any}
use Rattle.lisp_operators.specs.Members.{symbol_of_member, symbols_in}
use Rattle.kept_functions.specs.Environments.{is_same_variable}
use Rattle.kept_functions.proofs.definition.is_missing.Given as goal

-- the symbol is among those that are left
abbrev pub invariant-loop-other : goal.invariant-loop-other
invariant-loop-other l =
    list_any (is_same_variable (symbol_of_member l.datum)) (symbols_in (drop l.other-index l.others)) ≡ list_any (is_same_variable (symbol_of_member l.datum)) (symbols_in l.others)
