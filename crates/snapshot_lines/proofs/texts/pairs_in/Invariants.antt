use Rattle.std.proofs.Common.{◌≡◌, ◌≤◌, List, ℕ, ◌++◌, map, length}
use Rattle.package_table.specs.Table.{Name}
use Rattle.snapshot_lines.specs.QuotedTexts.{unescaped_pair, pair_text, pairs_text, IsAtItems}
use Rattle.snapshot_lines.proofs.texts.pairs_in.Given as goal

-- those so far, and those that come
abbrev pub invariant-pairs : goal.invariant-pairs
invariant-pairs l = record {
  items : (pairs : List (Name × Name)) (after : List ℕ) → l.bytes ≡ pairs_text pairs ++ after
      → (later : List (Name × Name)) × (map unescaped_pair l.pairs.items ++ later ≡ pairs) × IsAtItems (map pair_text later) after l.rest;
  shorter : length l.rest ≤ length l.bytes;
}

abbrev pub decreases-pairs : goal.decreases-pairs
decreases-pairs l = length l.rest
