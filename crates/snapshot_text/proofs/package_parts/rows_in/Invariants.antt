use Rattle.std.proofs.Common.{◌≡◌, ℕ, ◌≤◌, List, ◌++◌, map, length, drop}
use Rattle.package_table.specs.Table.{Table, AreSoundPackages}
use Rattle.world_text.specs.Snapshot.{package_object, packages_object}
use Rattle.world_text.specs.ObjectTexts.{object_text}
use Rattle.snapshot_lines.specs.QuotedTexts.{IsAtItems}
use Rattle.snapshot_text.specs.Phases.{AreFirstRows, other_packages}
use Rattle.snapshot_text.proofs.package_parts.rows_in.Given as goal

-- the rows so far, and those that come
abbrev pub invariant-rows : goal.invariant-rows
invariant-rows l = record {
  rows : (s : Table) (after : List ℕ) → AreSoundPackages s → l.bytes ≡ object_text s (packages_object s) ++ after
      → (n : ℕ) × (n ≤ length (other_packages s)) × AreFirstRows s n l.rows.items
      × IsAtItems (map (λ p. object_text s (package_object s p)) (drop n (other_packages s))) after l.rest;
  shorter : length l.rest ≤ length l.bytes;
}

abbrev pub decreases-rows : goal.decreases-rows
decreases-rows l = length l.rest
