use Rattle.std.proofs.Common.{◌≡◌, ◌++◌, List, take}
use Rattle.std.specs.List.{flat_map}
use Rattle.diagnostics.specs.declared.refusal.Refusal.{Refusal}
use Rattle.store_looks.specs.CheckReports.{AreRefusalsOf, unreadable_text}
use Rattle.store_looks.proofs.checking.push_refusals.Given as goal

-- what was told so far
abbrev pub invariant-loop-one : goal.invariant-loop-one
invariant-loop-one l =
    (refusals : List Refusal) × AreRefusalsOf (take l.one-index l.unreadable) refusals × (l.lines.items ≡ l.fn.lines.items ++ flat_map (unreadable_text l.notation) refusals)
