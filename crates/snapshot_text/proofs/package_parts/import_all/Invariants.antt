use Rattle.std.proofs.Common.{All, take, ◌≡◌}
use Rattle.package_table.specs.Table.{Table}
use Rattle.package_table.specs.Growth.{Grows}
use Rattle.plist_state.specs.Changes.{with_packages}
use Rattle.snapshot_text.specs.Part.{IsPartOf}
use Rattle.snapshot_text.specs.Phases.{HasSymbols, HasItsPackages, AreRowsOf, other_packages}
use Rattle.snapshot_text.proofs.package_parts.import_all.Given as goal

-- the symbols of the packages so far are there
abbrev pub invariant-loop-row : goal.invariant-loop-row
invariant-loop-row l = record {
  made : (s : Table) → HasItsPackages l.fn.world.0.packages s → AreRowsOf s l.rows
      → IsPartOf l.world.0.packages s × All (HasSymbols l.world.0.packages s) (take l.row-index (other_packages s));
  grows : Grows l.fn.world.0.packages l.world.0.packages;
  rest : l.world ≡ (with_packages l.fn.world.0 l.world.0.packages, l.fn.world.1);
}
