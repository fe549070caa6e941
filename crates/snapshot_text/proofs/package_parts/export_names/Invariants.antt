use Rattle.std.proofs.Common.{◌≡◌, ◌≢◌, All, take}
use Rattle.package_table.specs.Table.{Name, Table, common_lisp, keyword, IsExternal}
use Rattle.package_table.specs.Growth.{Grows}
use Rattle.plist_state.specs.Changes.{with_packages}
use Rattle.snapshot_lines.specs.QuotedTexts.{unescaped}
use Rattle.snapshot_text.specs.Part.{IsPartOf}
use Rattle.snapshot_text.specs.Phases.{HasItsPackages, HasSymbols}
use Rattle.snapshot_text.proofs.package_parts.export_names.Given as goal

-- the names so far are external
abbrev pub invariant-loop-name : goal.invariant-loop-name
invariant-loop-name l = record {
  made : (s : Table) (p : Name) → HasItsPackages l.initial.world.0.packages s → HasSymbols l.initial.world.0.packages s p → l.owner ≡ p → p ≢ common_lisp → All (λ b. (p ≢ keyword) × IsExternal s p (unescaped b.now)) l.names
      → IsPartOf l.world.0.packages s × All (λ b. IsExternal l.world.0.packages p (unescaped b.now)) (take l.name-index l.names);
  grows : Grows l.initial.world.0.packages l.world.0.packages;
  rest : l.world ≡ (with_packages l.initial.world.0 l.world.0.packages, l.initial.world.1);
}
