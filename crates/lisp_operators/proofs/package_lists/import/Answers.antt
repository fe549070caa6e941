use Rattle.std.proofs.Common.{◌≡◌, Some, map, sym, ap, subst, ◌∙◌}
use Rattle.lisp_object.specs.Datum.{object_of}
use Rattle.package_table.specs.Table.{package_named, is_locked}
use Rattle.plist_state.specs.State.{Worlds}
use Rattle.plist_state.specs.Sound.{IsSymbol}
use Rattle.lisp_operators.specs.ArgumentKinds.{a_name, given_or}
use Rattle.lisp_operators.specs.Members.{symbol_of_member}
use Rattle.lisp_operators.specs.Packages.{import, after_imports}
use Rattle.lisp_operators.proofs.MemberLists.{all_of_map}
use Rattle.lisp_operators.proofs.ListSteps.{import_is, told}
use Rattle.lisp_operators.proofs.Storable.{symbols_kind}
use Rattle.lisp_operators.proofs.package_lists.import.Goals as goal

pub import_all-made-requires-clause-there : goal.import_all-made-requires-clause-there
import_all-made-requires-clause-there c =
    let u = c.args.world.now.0.packages in
    let ms = c.in_ok-imported-2.imported.now in
    all_of_map (IsSymbol u) symbol_of_member ms (symbols_kind u (object_of c.in_ok-imported.imported.now) (map symbol_of_member ms) (sym c.in_ok-imported-2.ensures.value) (c.in_ok-imported.ensures.arguments u c.requires).0.value)

pub returns-clause-gives : goal.returns-clause-gives
returns-clause-gives c =
    let s = c.args.world.now.0 in
    let u = c.import_all-made.new.world.0 in
    let rest = map object_of c.in_ok-imported.rest.now in
    let x = object_of c.in_ok-imported.imported.now in
    let q = c.in_ok-name_or.field-0.now in
    let p = c.as_slice.result.now in
    let ys = map symbol_of_member c.in_ok-imported-2.imported.now in
    let given : given_or a_name s.current_package rest ≡ Some q = sym (subst (λ k. Some q ≡ given_or a_name k rest) c.current_package.ensures c.in_ok-name_or.ensures) in
    let named : package_named s.packages q ≡ Some p = sym (ap Some c.as_slice.ensures.value ∙ c.in_ok-package.ensures.unlocked.0) in
    let free = ap is_locked c.as_slice.ensures.value ∙ c.in_ok-package.ensures.unlocked.1 in
    told (import (map object_of c.args.values.now) s) s u (after_imports s.packages p ys)
    (ap (λ vs. import (map object_of vs) s) c.in_ok-imported.ensures.value ∙ import_is s x rest ys q p (sym c.in_ok-imported-2.ensures.value) given named free)
    (ap (λ (k : Worlds). k.0) c.import_all-made.ensures.rest) c.import_all-made.result c.changed.result c.import_all-made.ensures.gives c.changed.ensures.gives
