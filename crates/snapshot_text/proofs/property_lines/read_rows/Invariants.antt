use Rattle.std.proofs.Common.{◌≡◌, ◌<◌, ◌≤◌, ◌-◌, ℕ, List, ◌∷◌, ◌++◌, length, drop}
use Rattle.plist_state.specs.State.{WorldState}
use Rattle.plist_state.specs.Readers.{symbols_with_properties}
use Rattle.plist_state.specs.Sound.{IsSoundWorldState}
use Rattle.snapshot_text.specs.BuiltWorlds.{built_with_packages}
use Rattle.snapshot_text.specs.Rows.{row_text, text_after}
use Rattle.snapshot_text.proofs.PropertyLines.{IsAtRow}
use Rattle.snapshot_text.proofs.property_lines.read_rows.Given as goal

-- the rows before this one are put
abbrev pub invariant-rows : goal.invariant-rows
invariant-rows g l =
    (s : WorldState) (rest : List ℕ) → IsSoundWorldState s → length l.source.bytes.now ≤ 4294967295 → 0 < length (symbols_with_properties s)
    → l.fn.world.0 ≡ built_with_packages s → drop l.fn.at l.source.bytes.now ≡ row_text s 0 ++ (text_after s 1 ++ 10 ∷ rest)
    → IsAtRow s l.source.bytes.now rest l.next_row l.world.0

abbrev pub decreases-rows : goal.decreases-rows
decreases-rows g l = length l.source.bytes.now - l.next_row
