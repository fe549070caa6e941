use Rattle.std.proofs.Common.{◌≡◌, ◌++◌, take}
use Rattle.std.specs.List.{flat_map}
use Rattle.package_table.specs.Readers.{names_of}
use Rattle.world_forms.specs.Packages.{use_package_lines}
use Rattle.world_forms.proofs.packages.push_each_use.Given as goal

-- the lines so far
abbrev pub invariant-loop-owner : goal.invariant-loop-owner
invariant-loop-owner l = l.text.items ≡ l.fn.text.items ++ flat_map (use_package_lines l.packages.0) (names_of (take l.owner-index l.owners))
