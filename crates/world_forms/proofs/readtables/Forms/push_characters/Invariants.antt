use Rattle.std.proofs.Common.{◌≡◌, ◌++◌}
use Rattle.std.specs.List.{flat_map, range_with_len}
use Rattle.world_forms.specs.Readtables.{changed_lines}
use Rattle.world_forms.proofs.readtables.Forms.push_characters.Given as goal

-- the characters so far
abbrev pub invariant-loop-c : goal.invariant-loop-c
invariant-loop-c l = l.text.items
    ≡ l.fn.text.items ++ flat_map (changed_lines l.self.name.now l.table) (range_with_len 0 l.c)
