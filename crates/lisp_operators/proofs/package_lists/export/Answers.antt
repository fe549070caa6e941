use Rattle.std.proofs.Common.{◌≡◌, true, Some, map, sym, ap, subst, ◌∙◌}
use Rattle.std.specs.List.{list_all}
use Rattle.lisp_object.specs.Datum.{object_of}
use Rattle.package_table.specs.Table.{package_named, is_locked}
use Rattle.package_table.specs.Changes.{finds_this}
use Rattle.plist_state.specs.State.{Worlds}
use Rattle.lisp_operators.specs.ArgumentKinds.{a_name, given_or}
use Rattle.lisp_operators.specs.Members.{symbol_of_member}
use Rattle.lisp_operators.specs.Packages.{export, after_exports}
use Rattle.lisp_operators.proofs.ListSteps.{export_is, export_not_found, told}
use Rattle.lisp_operators.proofs.package_lists.export.Goals as goal

pub returns-then-not-finds_all-clause-gives : goal.returns-then-not-finds_all-clause-gives
returns-then-not-finds_all-clause-gives c =
    let s = c.args.world.now.0 in
    let rest = map object_of c.in_ok-symbols.rest.now in
    let q = c.in_ok-name_or.field-0.now in
    let p = c.as_slice-package.result.now in
    let ys = map symbol_of_member c.in_ok-symbols-2.symbols.now in
    let found : list_all (λ y. finds_this s.packages p y.0 y.1) ys ≡ c.finds_all.result = ap (λ u. list_all (λ y. finds_this u p y.0 y.1) ys) (sym c.packages.ensures) ∙ sym c.finds_all.ensures in
    ap (λ vs. export (map object_of vs) s) c.in_ok-symbols.ensures.value
    ∙ export_not_found s (object_of c.in_ok-symbols.symbols.now) rest ys q p (sym c.in_ok-symbols-2.ensures.value) (sym (subst (λ k. Some q ≡ given_or a_name k rest) c.current_package.ensures c.in_ok-name_or.ensures))
    (sym (ap Some c.as_slice-package.ensures.value ∙ c.in_ok-package.ensures.unlocked.0)) (ap is_locked c.as_slice-package.ensures.value ∙ c.in_ok-package.ensures.unlocked.1) (found ∙ c.if-not-finds_all.true)

pub returns-clause-gives : goal.returns-clause-gives
returns-clause-gives c =
    let s = c.args.world.now.0 in
    let u = c.export_all-made.new.world.0 in
    let rest = map object_of c.in_ok-symbols.rest.now in
    let x = object_of c.in_ok-symbols.symbols.now in
    let q = c.in_ok-name_or.field-0.now in
    let p = c.as_slice-package.result.now in
    let ys = map symbol_of_member c.in_ok-symbols-2.symbols.now in
    let given : given_or a_name s.current_package rest ≡ Some q = sym (subst (λ k. Some q ≡ given_or a_name k rest) c.current_package.ensures c.in_ok-name_or.ensures) in
    let named : package_named s.packages q ≡ Some p = sym (ap Some c.as_slice-package.ensures.value ∙ c.in_ok-package.ensures.unlocked.0) in
    let free = ap is_locked c.as_slice-package.ensures.value ∙ c.in_ok-package.ensures.unlocked.1 in
    let found : list_all (λ y. finds_this s.packages p y.0 y.1) ys ≡ true = ap (λ u. list_all (λ y. finds_this u p y.0 y.1) ys) (sym c.packages.ensures) ∙ sym c.finds_all.ensures ∙ c.if-not-finds_all.false in
    told (export (map object_of c.args.values.now) s) s u (after_exports s.packages p ys)
    (ap (λ vs. export (map object_of vs) s) c.in_ok-symbols.ensures.value ∙ export_is s x rest ys q p (sym c.in_ok-symbols-2.ensures.value) given named free found)
    (ap (λ (k : Worlds). k.0) c.export_all-made.ensures.rest) c.export_all-made.result c.changed.result c.export_all-made.ensures.gives c.changed.ensures.gives
