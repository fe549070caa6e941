use Rattle.std.proofs.Common.{◌≡◌, ◌≤◌, List, ℕ, ◌++◌, map, length}
use Rattle.package_table.specs.Table.{Name}
use Rattle.snapshot_lines.specs.QuotedTexts.{unescaped, quoted_texts, IsAtItems}
use Rattle.canon_printer.specs.Written.{printed_text}
use Rattle.snapshot_lines.proofs.texts.texts_in.Given as goal

-- those so far, and those that come
abbrev pub invariant-texts : goal.invariant-texts
invariant-texts l = record {
  items : (texts : List Name) (after : List ℕ) → l.bytes ≡ quoted_texts texts ++ after
      → (later : List Name) × (map (λ b. unescaped b.now) l.texts.items ++ later ≡ texts) × IsAtItems (map printed_text later) after l.rest;
  shorter : length l.rest ≤ length l.bytes;
}

abbrev pub decreases-texts : goal.decreases-texts
decreases-texts l = length l.rest
