use Rattle.std.proofs.Common.{◌≡◌, ◌++◌, take}
use Rattle.std.specs.List.{flat_map}
use Rattle.package_table.specs.Readers.{names_of}
use Rattle.world_forms.specs.NameTokens.{text_argument}
use Rattle.world_forms.proofs.texts.push_arguments.Given as goal

-- the texts so far
abbrev pub invariant-loop-argument : goal.invariant-loop-argument
invariant-loop-argument l = l.text.items ≡ l.fn.text.items ++ flat_map text_argument (names_of (take l.argument-index l.texts))
