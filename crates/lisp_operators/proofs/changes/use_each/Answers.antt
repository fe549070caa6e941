use Rattle.std.proofs.Common.{◌≡◌, Bool, Ok, Err, sym, ap, subst, ◌∙◌, arith}
use Rattle.package_table.specs.Table.{full_name}
use Rattle.package_table.specs.Changes.{after_use, use_changes, AnswersPackages}
use Rattle.plist_state.specs.State.{Worlds}
use Rattle.plist_state.specs.Changes.{with_packages}
use Rattle.lisp_operators.specs.Members.{name_in}
use Rattle.lisp_operators.proofs.PackageSteps.{goes_on, stops, is_over}
use Rattle.lisp_operators.proofs.changes.use_each.Goals as goal

pub loop-package-preserved : goal.loop-package-preserved
loop-package-preserved c =
    let owner = c.args.owner.now in
    let u = c.loop-package.world.0.packages in
    let v = c.use_package.new.self.0.packages in
    let same : c.full_name.result.now ≡ full_name (name_in c.package-item.result) = c.full_name.ensures ∙ ap full_name c.name_in.ensures in
    record {
      so_far = goes_on (λ t q. after_use t owner q) (λ t q. use_changes t owner q) (λ d. full_name (name_in d)) c.args.world.now.0.packages u v c.loop-package.wrote c.in-Ok.changed c.args.used.now c.loop-package.package-index c.package-item.result c.loop-package-test.true c.package-item.is c.loop-package.invariant.so_far
          (subst (λ q. after_use u owner q ≡ Ok v) same c.in-Ok.ensures.gives) (subst (λ q. c.in-Ok.changed ≡ use_changes u owner q) same c.in-Ok.ensures.changed)
          ∙ ap (λ b. Ok (v, b)) (sym c.either-wrote.ensures);
      rest = c.in-Ok.ensures.rest ∙ ap (λ (k : Worlds). (with_packages k.0 v, k.1)) c.loop-package.invariant.rest;
    }

pub returns-in-Err-clause-gives : goal.returns-in-Err-clause-gives
returns-in-Err-clause-gives c =
    let owner = c.args.owner.now in
    let u = c.loop-package.world.0.packages in
    let v = c.use_package.new.self.0.packages in
    let same : c.full_name.result.now ≡ full_name (name_in c.package-item.result) = c.full_name.ensures ∙ ap full_name c.name_in.ensures in
    stops (λ t q. after_use t owner q) (λ t q. use_changes t owner q) (λ d. full_name (name_in d)) {B = Bool} (λ _. v) c.in-Err.error c.args.world.now.0.packages u v c.loop-package.wrote c.args.used.now c.loop-package.package-index c.package-item.result c.loop-package-test.true c.package-item.is c.loop-package.invariant.so_far
    (subst (λ q. AnswersPackages {A = Bool} (λ _. v) (Err c.in-Err.error) (after_use u owner q)) same c.in-Err.ensures.gives)

pub returns-clause-gives : goal.returns-clause-gives
returns-clause-gives c =
    let owner = c.args.owner.now in
    is_over (λ t q. after_use t owner q) (λ t q. use_changes t owner q) (λ d. full_name (name_in d)) c.args.world.now.0.packages c.loop-package.world.0.packages c.loop-package.wrote c.args.used.now c.loop-package.package-index (omega arith) c.loop-package.invariant.so_far
