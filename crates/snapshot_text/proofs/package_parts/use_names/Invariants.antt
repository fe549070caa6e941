use Rattle.std.proofs.Common.{◌≡◌, ◌≢◌, All, take}
use Rattle.package_table.specs.Table.{Name, Table, common_lisp, Uses}
use Rattle.package_table.specs.Growth.{Grows}
use Rattle.plist_state.specs.Changes.{with_packages}
use Rattle.snapshot_lines.specs.QuotedTexts.{unescaped}
use Rattle.snapshot_text.specs.Part.{IsPartOf}
use Rattle.snapshot_text.specs.Phases.{HasItsPackages}
use Rattle.snapshot_text.proofs.package_parts.use_names.Given as goal

-- the packages so far are used
abbrev pub invariant-loop-name : goal.invariant-loop-name
invariant-loop-name l = record {
  made : (s : Table) (p : Name) → HasItsPackages l.initial.world.0.packages s → l.owner ≡ p → p ≢ common_lisp → All (λ b. Uses s p (unescaped b.now)) l.names
      → IsPartOf l.world.0.packages s × All (λ b. Uses l.world.0.packages p (unescaped b.now)) (take l.name-index l.names);
  grows : Grows l.initial.world.0.packages l.world.0.packages;
  rest : l.world ≡ (with_packages l.initial.world.0 l.world.0.packages, l.initial.world.1);
}
