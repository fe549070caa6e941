use Rattle.std.proofs.Common.{◌≡◌, true, map, take}
use Rattle.std.specs.List.{list_all}
use Rattle.readtable_core.specs.NamedFunctions.{functions_at}
use Rattle.user_macros.specs.Registry.{is_covered}
use Rattle.user_macros.proofs.registry.MacrosMacroFunctions.covers.Given as goal

abbrev pub invariant-loop-entry : goal.invariant-loop-entry
invariant-loop-entry g l =
    list_all (λ e. list_all (is_covered (map (λ s. s.name) l.self.stored.items)) (functions_at e)) (take l.entry-index l.entry-items) ≡ true
