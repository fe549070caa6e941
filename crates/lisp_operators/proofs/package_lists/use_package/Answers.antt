use Rattle.std.proofs.Common.{◌≡◌, Some, map, sym, ap, subst, ◌∙◌}
use Rattle.lisp_object.specs.Datum.{object_of}
use Rattle.package_table.specs.Table.{package_named, full_name, is_locked}
use Rattle.plist_state.specs.State.{Worlds}
use Rattle.lisp_operators.specs.ArgumentKinds.{a_name, given_or}
use Rattle.lisp_operators.specs.Members.{name_in}
use Rattle.lisp_operators.specs.Packages.{use_package, after_uses}
use Rattle.lisp_operators.proofs.ListSteps.{use_is, told}
use Rattle.lisp_operators.proofs.package_lists.use_package.Goals as goal

pub returns-clause-gives : goal.returns-clause-gives
returns-clause-gives c =
    let s = c.args.world.now.0 in
    let u = c.use_each-made.new.world.0 in
    let rest = map object_of c.in_ok-used.rest.now in
    let x = object_of c.in_ok-used.used.now in
    let ms = c.in_ok-used-2.used.now in
    let q = c.in_ok-owner.owner.now in
    let p = c.as_slice.result.now in
    let ns = map name_in ms in
    let qs = map (λ d. full_name (name_in d)) ms in
    let given : given_or a_name s.current_package rest ≡ Some q = sym (subst (λ k. Some q ≡ given_or a_name k rest) c.current_package.ensures c.in_ok-owner.ensures) in
    let named : package_named s.packages q ≡ Some p = sym (ap Some c.as_slice.ensures.value ∙ c.in_ok-package.ensures.unlocked.0) in
    let free = ap is_locked c.as_slice.ensures.value ∙ c.in_ok-package.ensures.unlocked.1 in
    let others = sym c.has_keyword.ensures ∙ c.if-has_keyword.false in
    told (use_package (map object_of c.args.values.now) s) s u (after_uses s.packages p qs)
    (ap (λ vs. use_package (map object_of vs) s) c.in_ok-used.ensures.value ∙ use_is s x rest ns qs q p (sym c.in_ok-used-2.ensures.value) given (sym c.in_ok-check_packages.ensures) named free others)
    (ap (λ (k : Worlds). k.0) c.use_each-made.ensures.rest) c.use_each-made.result c.changed.result c.use_each-made.ensures.gives c.changed.ensures.gives
