use Rattle.std.proofs.Common.{◌≡◌, ◌≢◌, All, take}
use Rattle.package_table.specs.Table.{Name, Table, common_lisp}
use Rattle.package_table.specs.Growth.{Grows}
use Rattle.plist_state.specs.Changes.{with_packages}
use Rattle.snapshot_lines.specs.QuotedTexts.{unescaped_pair}
use Rattle.snapshot_text.specs.Part.{IsPartOf}
use Rattle.snapshot_text.specs.Phases.{HasItsPackages, IsImport, HasImport}
use Rattle.snapshot_text.proofs.package_parts.import_pairs.Given as goal

-- the imports so far are there
abbrev pub invariant-loop-import : goal.invariant-loop-import
invariant-loop-import l = record {
  made : (s : Table) (p : Name) → HasItsPackages l.initial.world.0.packages s → l.owner ≡ p → p ≢ common_lisp → All (λ b. IsImport s p (unescaped_pair b)) l.imports
      → IsPartOf l.world.0.packages s × All (λ b. HasImport l.world.0.packages p (unescaped_pair b)) (take l.import-index l.imports);
  grows : Grows l.initial.world.0.packages l.world.0.packages;
  rest : l.world ≡ (with_packages l.initial.world.0 l.world.0.packages, l.initial.world.1);
}
