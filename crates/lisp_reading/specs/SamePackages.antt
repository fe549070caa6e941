-- When packages are the same to a reader.
use Rattle.std.specs.Prelude.{◌≡◌}
use Rattle.std.specs.FinMap as finite
use Rattle.package_table.specs.Table.{Name, Table as Packages}
use Rattle.package_table.specs.Lookup.{home_by_name, external_home}

-- The same names are packages, and each finds the same by each name, and shows the same outside.
pub record FindsSame (packages others : Packages) : Type 0 where
  pub names : (p : Name) → finite.contains_key others p ≡ finite.contains_key packages p
  pub homes : (p own : Name) → home_by_name others p own ≡ home_by_name packages p own
  pub shown : (p own : Name) → external_home others p own ≡ external_home packages p own
