use Rattle.std.proofs.Common.{◌≡◌, Bool, Ok, Err, sym, ap, subst, ◌∙◌, arith}
use Rattle.package_table.specs.Changes.{after_export, export_changes, AnswersPackages}
use Rattle.plist_state.specs.State.{Worlds}
use Rattle.plist_state.specs.Changes.{with_packages}
use Rattle.lisp_operators.specs.Members.{symbol_of_member}
use Rattle.lisp_operators.proofs.PackageSteps.{goes_on, stops, is_over}
use Rattle.lisp_operators.proofs.changes.export_all.Goals as goal

pub loop-symbol-preserved : goal.loop-symbol-preserved
loop-symbol-preserved c =
    let owner = c.args.owner.now in
    let u = c.loop-symbol.world.0.packages in
    let v = c.export.new.self.0.packages in
    record {
      so_far = goes_on (λ t y. after_export t owner y.0 y.1) (λ t y. export_changes t owner y.1) symbol_of_member c.args.world.now.0.packages u v c.loop-symbol.wrote c.in-Ok.changed c.args.symbols.now c.loop-symbol.symbol-index c.symbol-item.result c.loop-symbol-test.true c.symbol-item.is c.loop-symbol.invariant.so_far
          (subst (λ y. after_export u owner y.0 y.1 ≡ Ok v) c.symbol_in.ensures c.in-Ok.ensures.gives) (subst (λ y. c.in-Ok.changed ≡ export_changes u owner y.1) c.symbol_in.ensures c.in-Ok.ensures.changed)
          ∙ ap (λ b. Ok (v, b)) (sym c.either-wrote.ensures);
      rest = c.in-Ok.ensures.rest ∙ ap (λ (k : Worlds). (with_packages k.0 v, k.1)) c.loop-symbol.invariant.rest;
    }

pub returns-in-Err-clause-gives : goal.returns-in-Err-clause-gives
returns-in-Err-clause-gives c =
    let owner = c.args.owner.now in
    let u = c.loop-symbol.world.0.packages in
    let v = c.export.new.self.0.packages in
    stops (λ t y. after_export t owner y.0 y.1) (λ t y. export_changes t owner y.1) symbol_of_member {B = Bool} (λ _. v) c.in-Err.error c.args.world.now.0.packages u v c.loop-symbol.wrote c.args.symbols.now c.loop-symbol.symbol-index c.symbol-item.result c.loop-symbol-test.true c.symbol-item.is c.loop-symbol.invariant.so_far
    (subst (λ y. AnswersPackages {A = Bool} (λ _. v) (Err c.in-Err.error) (after_export u owner y.0 y.1)) c.symbol_in.ensures c.in-Err.ensures.gives)

pub returns-clause-gives : goal.returns-clause-gives
returns-clause-gives c =
    let owner = c.args.owner.now in
    is_over (λ t y. after_export t owner y.0 y.1) (λ t y. export_changes t owner y.1) symbol_of_member c.args.world.now.0.packages c.loop-symbol.world.0.packages c.loop-symbol.wrote c.args.symbols.now c.loop-symbol.symbol-index (omega arith) c.loop-symbol.invariant.so_far
