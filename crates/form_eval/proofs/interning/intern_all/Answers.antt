use Rattle.std.proofs.Common.{Ok, sym, ap, ◌∙◌, arith}
use Rattle.std.proofs.lemmas.List.{get_or_default}
use Rattle.package_table.specs.Table.{Table}
use Rattle.package_table.specs.Changes.{intern_changes}
use Rattle.plist_state.specs.State.{Worlds}
use Rattle.plist_state.specs.Changes.{with_packages}
use Rattle.plist_state.specs.Readers.{borrowed_symbol}
use Rattle.form_eval.specs.Acceptance.{after_symbol_interned}
use Rattle.lisp_operators.proofs.PackageSteps.{goes_on, stops, is_over}
use Rattle.form_eval.proofs.interning.intern_all.Goals as goal

pub loop-symbol-preserved : goal.loop-symbol-preserved
loop-symbol-preserved c =
    let v = c.intern_one.new.world.0.packages in
    record {
      so_far = goes_on after_symbol_interned (λ t y. intern_changes t y.0 y.1) borrowed_symbol c.args.world.now.0.packages c.loop-symbol.world.0.packages v c.loop-symbol.wrote c.in-Ok.is_new c.args.symbols.now c.loop-symbol.symbol-index _ c.loop-symbol-test.true
          (get_or_default c.args.symbols.now c.loop-symbol.symbol-index _ _ c.loop-symbol-test.true) c.loop-symbol.invariant.so_far c.in-Ok.ensures.gives c.in-Ok.ensures.is_new
          ∙ ap (λ b. Ok (v, b)) (sym c.either-wrote.ensures);
      rest = c.in-Ok.ensures.rest ∙ ap (λ (k : Worlds). (with_packages k.0 v, k.1)) c.loop-symbol.invariant.rest;
    }

pub returns-in-Err-clause-gives : goal.returns-in-Err-clause-gives
returns-in-Err-clause-gives c =
    stops after_symbol_interned (λ t y. intern_changes t y.0 y.1) borrowed_symbol {B = Table} (λ t. t) c.in-Err.error c.args.world.now.0.packages c.loop-symbol.world.0.packages c.intern_one.new.world.0.packages c.loop-symbol.wrote c.args.symbols.now c.loop-symbol.symbol-index _ c.loop-symbol-test.true
    (get_or_default c.args.symbols.now c.loop-symbol.symbol-index _ _ c.loop-symbol-test.true) c.loop-symbol.invariant.so_far c.in-Err.ensures.gives

pub returns-clause-gives : goal.returns-clause-gives
returns-clause-gives c =
    is_over after_symbol_interned (λ t y. intern_changes t y.0 y.1) borrowed_symbol c.args.world.now.0.packages c.loop-symbol.world.0.packages c.loop-symbol.wrote c.args.symbols.now c.loop-symbol.symbol-index (omega arith) c.loop-symbol.invariant.so_far
