use Rattle.std.proofs.Common.{All, take, ◌≡◌}
use Rattle.package_table.specs.Table.{Table}
use Rattle.package_table.specs.Growth.{Grows}
use Rattle.plist_state.specs.Changes.{with_packages}
use Rattle.snapshot_text.specs.Part.{IsPartOf}
use Rattle.snapshot_text.specs.Phases.{HasSymbols, HasExternals, HasItsPackages, AreRowsOf, InEachPackage, other_packages}
use Rattle.snapshot_text.proofs.package_parts.export_all.Given as goal

-- what is external in the packages so far is so
abbrev pub invariant-loop-row : goal.invariant-loop-row
invariant-loop-row l = record {
  made : (s : Table) → HasItsPackages l.fn.world.0.packages s → InEachPackage s (HasSymbols l.fn.world.0.packages s) → AreRowsOf s l.rows
      → IsPartOf l.world.0.packages s × All (HasExternals l.world.0.packages s) (take l.row-index (other_packages s));
  grows : Grows l.fn.world.0.packages l.world.0.packages;
  rest : l.world ≡ (with_packages l.fn.world.0 l.world.0.packages, l.fn.world.1);
}
