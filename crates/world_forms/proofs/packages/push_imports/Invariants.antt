use Rattle.std.proofs.Common.{◌≡◌, ◌++◌, take}
use Rattle.std.specs.List.{flat_map}
use Rattle.world_forms.specs.Packages.{import_line}
use Rattle.world_forms.proofs.packages.push_imports.Given as goal

-- the lines so far
abbrev pub invariant-loop-import : goal.invariant-loop-import
invariant-loop-import l = l.text.items ≡ l.fn.text.items ++ flat_map (import_line l.owner) (take l.import-index l.imports)
