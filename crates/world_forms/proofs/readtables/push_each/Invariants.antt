use Rattle.std.proofs.Common.{◌≡◌, ◌++◌, take}
use Rattle.std.specs.List.{flat_map}
use Rattle.world_forms.specs.Readtables.{named_lines}
use Rattle.world_forms.proofs.readtables.push_each.Given as goal

-- the readtables so far
abbrev pub invariant-loop-name : goal.invariant-loop-name
invariant-loop-name l = l.text.items
    ≡ l.fn.text.items ++ flat_map (named_lines l.world.0) (take l.name-index l.names)
