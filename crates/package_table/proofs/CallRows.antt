-- Rows of the calls that write.
use Rattle.std.proofs.Common.{◌≡◌, true, false, [], codes, Ok, Err, refl}
use Rattle.std.specs.FinMap as finite
use Rattle.package_table.specs.declared.error.PackageError.TheVariants.{EmptyName, NoSuchPackage, PackageExists, PackageIsLocked}
use Rattle.package_table.specs.Table.{Table, common_lisp, keyword}
use Rattle.package_table.specs.Changes.{after_make, after_intern, after_export, after_use}

module _ (t : Table) where
  empty_name : after_make t [] ≡ Err EmptyName
  empty_name = refl

  nickname : finite.contains_key t common_lisp ≡ true → after_make t (codes "CL") ≡ Err PackageExists
  nickname there = rw there refl

  no_package : finite.contains_key t (codes "NO") ≡ false → after_intern t (codes "NO") (codes "Q") ≡ Err NoSuchPackage
  no_package absent = rw absent refl

  keyword_exports : finite.contains_key t keyword ≡ true → after_export t keyword keyword (codes "A") ≡ Err PackageIsLocked
  keyword_exports there = rw there refl

  -- a package that would be passed over is locked all the same
  uses_itself_locked : finite.contains_key t common_lisp ≡ true → after_use t common_lisp common_lisp ≡ Err PackageIsLocked
  uses_itself_locked there = rw there refl

  uses_itself : finite.contains_key t (codes "P") ≡ true → after_use t (codes "P") (codes "P") ≡ Ok t
  uses_itself there = rw there refl
