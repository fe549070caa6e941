use Rattle.std.proofs.Common.{◌≡◌, ◌++◌, take}
use Rattle.std.specs.List.{flat_map}
use Rattle.package_table.specs.Readers.{names_of}
use Rattle.world_forms.specs.Packages.{export_form_line}
use Rattle.world_forms.proofs.packages.push_exports.Given as goal

-- the lines so far
abbrev pub invariant-loop-name : goal.invariant-loop-name
invariant-loop-name l = l.text.items ≡ l.fn.text.items ++ flat_map (export_form_line l.owner) (names_of (take l.name-index l.names))
