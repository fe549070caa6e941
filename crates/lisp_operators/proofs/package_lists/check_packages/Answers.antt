use Rattle.std.proofs.Common.{All, sym, ap, subst, ◌∙◌, arith}
use Rattle.std.proofs.lemmas.List.{take_all}
use Rattle.std.proofs.lemmas.List.Elements.{All-more}
use Rattle.package_table.specs.Table.{package_named}
use Rattle.lisp_operators.proofs.MemberSteps.{IsThere, is_there, packages_found, no_package}
use Rattle.lisp_operators.proofs.package_lists.check_packages.Goals as goal

pub loop-name-preserved : goal.loop-name-preserved
loop-name-preserved c =
    let u = c.args.world.now.0.packages in
    All-more (IsThere u) c.args.names.now c.loop-name.name-index c.name-item.result c.loop-name-test.true c.loop-name.invariant
    (subst (IsThere u) c.name-item.is (is_there u c.name-item.result _ (c.in-Ok.ensures.named ∙ ap (package_named u) c.name_in.ensures)))

pub returns-in-Err : goal.returns-in-Err
returns-in-Err c =
    let u = c.args.world.now.0.packages in
    (c.in-Err.ensures.named.0, sym (no_package u c.args.names.now c.loop-name.name-index c.name-item.result c.loop-name-test.true c.name-item.is (c.in-Err.ensures.named.1 ∙ ap (package_named u) c.name_in.ensures)))

pub returns : goal.returns
returns c =
    let u = c.args.world.now.0.packages in
    sym (packages_found u c.args.names.now (subst (All (IsThere u)) (take_all c.loop-name.name-index c.args.names.now (omega arith)) c.loop-name.invariant))
