use Rattle.std.proofs.Common.{◌≡◌, Ok, subst}
use Rattle.package_table.specs.Resolving.{found_at, resolution, resolution_of}
use Rattle.package_table.specs.Table.{Name, Table}
use Rattle.plain_reader.proofs.property_forms.finds_lisp.Goals as goal

pub returns-in-Ok-Found : goal.returns-in-Ok-Found
returns-in-Ok-Found c = λ same.
    let with = c.args.with.now in
    subst (λ h. resolution with.packages.now.0 with.current.now c.args.name.now ≡ Ok (found_at h)) (c.is_name.ensures same)
    (subst (λ (p : Table × Name). resolution p.0 p.1 c.args.name.now ≡ Ok (found_at c.in-Ok-Found.home.now)) with.same
    (subst (λ r. resolution with.current_package.0 with.current_package.1 c.args.name.now ≡ Ok (resolution_of r)) c.in-Ok-Found.field-0-is c.in-Ok-Found.ensures))
