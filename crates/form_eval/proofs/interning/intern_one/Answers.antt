use Rattle.std.proofs.Common.{ap, sym, subst}
use Rattle.package_table.proofs.FirstNames.{lisp_present}
use Rattle.package_table.specs.Table.{Name, Table, IsPresent}
use Rattle.package_table.specs.Changes.{after_intern}
use Rattle.form_eval.specs.Acceptance.{packages_of_interning}
use Rattle.form_eval.proofs.Collected.{interned_gives, interned_there, old_there}
use Rattle.form_eval.proofs.interning.intern_one.Goals as goal

pub returns-then-is_symbol-clause-gives : goal.returns-then-is_symbol-clause-gives
returns-then-is_symbol-clause-gives c =
    let h = c.args.symbol.now.0.now in
    let n = c.args.symbol.now.1.now in
    interned_there c.args.world.now.0.packages h n (subst (λ t. IsPresent t h n h) c.packages.ensures (c.is_symbol.ensures.present.0 c.if-is_symbol.true))

pub returns-then-is_symbol-clause-is_new : goal.returns-then-is_symbol-clause-is_new
returns-then-is_symbol-clause-is_new c =
    let h = c.args.symbol.now.0.now in
    let n = c.args.symbol.now.1.now in
    sym (old_there c.args.world.now.0.packages h n (subst (λ t. IsPresent t h n h) c.packages.ensures (c.is_symbol.ensures.present.0 c.if-is_symbol.true)))

pub returns-in-Ok-clause-gives : goal.returns-in-Ok-clause-gives
returns-in-Ok-clause-gives c = ap packages_of_interning c.in-Ok.ensures.gives

pub returns-in-Err-clause-gives : goal.returns-in-Err-clause-gives
returns-in-Err-clause-gives c =
    interned_gives {A = Name × Table} (λ p. p) c.in-Err.error (after_intern c.args.world.now.0.packages c.args.symbol.now.0.now c.args.symbol.now.1.now) c.in-Err.ensures.gives

pub returns-then-is_always_there-clause-gives : goal.returns-then-is_always_there-clause-gives
returns-then-is_always_there-clause-gives c =
    let t = c.args.world.now.0.packages in
    let n = c.args.symbol.now.1.now in
    interned_there t c.args.symbol.now.0.now n
    (subst (λ h. IsPresent t h n h) (sym (c.is_always_there.ensures.home c.if-is_always_there.true)) (lisp_present t c.soundness.ensures.present.packages n (c.is_always_there.ensures.name c.if-is_always_there.true)))

pub returns-then-is_always_there-clause-is_new : goal.returns-then-is_always_there-clause-is_new
returns-then-is_always_there-clause-is_new c =
    let t = c.args.world.now.0.packages in
    let n = c.args.symbol.now.1.now in
    sym (old_there t c.args.symbol.now.0.now n
    (subst (λ h. IsPresent t h n h) (sym (c.is_always_there.ensures.home c.if-is_always_there.true)) (lisp_present t c.soundness.ensures.present.packages n (c.is_always_there.ensures.name c.if-is_always_there.true))))
