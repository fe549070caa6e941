use Rattle.std.proofs.Common.{◌≡◌, true, map, take}
use Rattle.std.specs.List.{list_all}
use Rattle.std.specs.Option.{option_map_or}
use Rattle.user_macros.specs.Registry.{is_covered}
use Rattle.fixed_macros.proofs.fixed.Fixed.covers_each.Given as goal

abbrev pub invariant-loop-function : goal.invariant-loop-function
invariant-loop-function g l =
    list_all (λ f. option_map_or (is_covered g.M.Meaning.functions.names) f true) (take l.function-index l.functions) ≡ true
