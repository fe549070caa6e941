use Rattle.std.proofs.Common.{◌≡◌, ◌++◌, get_or, None}
use Rattle.std.specs.List.{flat_map, range_with_len}
use Rattle.world_forms.specs.Readtables.{sub_line}
use Rattle.world_forms.proofs.readtables.Forms.push_subs.Given as goal

-- the sub-characters so far
abbrev pub invariant-loop-sub : goal.invariant-loop-sub
invariant-loop-sub l = l.text.items
    ≡ l.fn.text.items ++ flat_map (λ sub. sub_line l.self.name.now l.c sub (get_or l.entry.dispatch sub None)) (range_with_len 0 l.sub)
