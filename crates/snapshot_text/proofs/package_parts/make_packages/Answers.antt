use Rattle.std.proofs.Common.{List, sym, subst}
use Rattle.package_table.proofs.Growing.{grows_both}
use Rattle.snapshot_text.specs.declared.package_parts.PackageParts.{PackageParts}
use Rattle.snapshot_text.specs.Phases.{AreRowsOf}
use Rattle.snapshot_text.proofs.AllPackages.{same_packages}
use Rattle.snapshot_text.proofs.Begins.{symbols_grown, externals_grown}
use Rattle.snapshot_text.proofs.Gave.{refused_same}
use Rattle.snapshot_text.proofs.package_parts.make_packages.Goals as goal

pub returns-in_err-rows-clause-made : goal.returns-in_err-rows-clause-made
returns-in_err-rows-clause-made c = λ s after sound part e.
    refused_same _ c.in_err-rows.field-0.0 (c.in_err-rows.ensures s after sound e) c.from_residual.result c.from_residual.ensures.1

pub returns-in_err-make_all-clause-made : goal.returns-in_err-make_all-clause-made
returns-in_err-make_all-clause-made c = λ s after sound part e.
    let rows : AreRowsOf s c.as_slice-rows.result.now = subst (λ (xs : List PackageParts). AreRowsOf s xs) (sym c.as_slice-rows.ensures.value) (c.in_ok-rows.ensures s after sound e).0 in
    refused_same _ c.in_err-make_all.field-0.0 (c.in_err-make_all.ensures.made s sound part rows) c.from_residual-in_err-make_all.result c.from_residual-in_err-make_all.ensures.1

pub returns-in_err-import_all-clause-made : goal.returns-in_err-import_all-clause-made
returns-in_err-import_all-clause-made c = λ s after sound part e.
    let rows : AreRowsOf s c.as_slice-rows.result.now = subst (λ (xs : List PackageParts). AreRowsOf s xs) (sym c.as_slice-rows.ensures.value) (c.in_ok-rows.ensures s after sound e).0 in
    let begun = c.in_ok-make_all.ensures.made s sound part rows in
    refused_same _ c.in_err-import_all.field-0.0 (c.in_err-import_all.ensures.made s begun rows) c.from_residual-in_err-import_all.result c.from_residual-in_err-import_all.ensures.1

pub returns-in_err-export_all-clause-made : goal.returns-in_err-export_all-clause-made
returns-in_err-export_all-clause-made c = λ s after sound part e.
    let rows : AreRowsOf s c.as_slice-rows.result.now = subst (λ (xs : List PackageParts). AreRowsOf s xs) (sym c.as_slice-rows.ensures.value) (c.in_ok-rows.ensures s after sound e).0 in
    let begun = c.in_ok-make_all.ensures.made s sound part rows in
    let imported = c.in_ok-import_all.ensures.made s begun rows in
    refused_same _ c.in_err-export_all.field-0.0 (c.in_err-export_all.ensures.made s imported.0 imported.1 rows) c.from_residual-in_err-export_all.result c.from_residual-in_err-export_all.ensures.1

pub returns-in_err-use_all-clause-made : goal.returns-in_err-use_all-clause-made
returns-in_err-use_all-clause-made c = λ s after sound part e.
    let rows : AreRowsOf s c.as_slice-rows.result.now = subst (λ (xs : List PackageParts). AreRowsOf s xs) (sym c.as_slice-rows.ensures.value) (c.in_ok-rows.ensures s after sound e).0 in
    let begun = c.in_ok-make_all.ensures.made s sound part rows in
    let imported = c.in_ok-import_all.ensures.made s begun rows in
    let exported = c.in_ok-export_all.ensures.made s imported.0 imported.1 rows in
    refused_same _ c.in_err-use_all.field-0.0 (c.in_err-use_all.ensures.made s exported.0 rows) c.from_residual-in_err-use_all.result c.from_residual-in_err-use_all.ensures.1

pub returns-clause-made : goal.returns-clause-made
returns-clause-made c = λ s after sound part e.
    let u = c.import_all.new.world.0.packages in
    let v = c.export_all.new.world.0.packages in
    let w = c.use_all.new.world.0.packages in
    let read = c.in_ok-rows.ensures s after sound e in
    let rows : AreRowsOf s c.as_slice-rows.result.now = subst (λ (xs : List PackageParts). AreRowsOf s xs) (sym c.as_slice-rows.ensures.value) read.0 in
    let begun = c.in_ok-make_all.ensures.made s sound part rows in
    let imported = c.in_ok-import_all.ensures.made s begun rows in
    let exported = c.in_ok-export_all.ensures.made s imported.0 imported.1 rows in
    let used = c.in_ok-use_all.ensures.made s exported.0 rows in (
      same_packages w s used.0
          (λ p there. symbols_grown u w s p (imported.1 p there) (grows_both u v w c.in_ok-export_all.ensures.grows c.in_ok-use_all.ensures.grows))
          (λ p there. externals_grown v w s p (exported.1 p there) c.in_ok-use_all.ensures.grows)
          used.1,
      read.1,
    )
