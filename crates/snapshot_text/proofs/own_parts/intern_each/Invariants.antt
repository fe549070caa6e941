use Rattle.std.proofs.Common.{◌≡◌, ◌≢◌, All, take}
use Rattle.package_table.specs.Table.{Table, IsPackage, IsPresent, AreSoundPackages, common_lisp}
use Rattle.package_table.specs.Growth.{Grows}
use Rattle.plist_state.specs.Changes.{with_packages}
use Rattle.snapshot_lines.specs.QuotedTexts.{unescaped}
use Rattle.snapshot_text.specs.Part.{IsPartOf}
use Rattle.snapshot_text.proofs.own_parts.intern_each.Given as goal

-- the symbols of the names so far
abbrev pub invariant-loop-name : goal.invariant-loop-name
invariant-loop-name l = record {
  there : (s : Table) → AreSoundPackages s → IsPartOf l.initial.world.0.packages s → IsPackage l.initial.world.0.packages l.owner
      → l.owner ≢ common_lisp → All (λ b. IsPresent s l.owner (unescaped b.now) l.owner) l.names
      → IsPartOf l.world.0.packages s × All (λ b. IsPresent l.world.0.packages l.owner (unescaped b.now) l.owner) (take l.name-index l.names);
  rest : l.world ≡ (with_packages l.initial.world.0 l.world.0.packages, l.initial.world.1);
  grows : Grows l.initial.world.0.packages l.world.0.packages;
}
