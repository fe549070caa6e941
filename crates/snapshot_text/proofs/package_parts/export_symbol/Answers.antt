use Rattle.std.proofs.Common.{◌≡◌, Bool, sym, ◌∙◌}
use Rattle.std.specs.Prelude.{Ok}
use Rattle.package_table.specs.declared.intern.Interned.{Interned}
use Rattle.package_table.specs.Changes.{after_intern, after_export, with_external}
use Rattle.package_table.proofs.Growing.{grows_both}
use Rattle.snapshot_text.proofs.PartMakes.{refused_so}
use Rattle.snapshot_text.proofs.Exports.{home, interns, interned, exports, exported}
use Rattle.snapshot_text.proofs.package_parts.export_symbol.Goals as goal

pub returns-in_err-interned-clause-made : goal.returns-in_err-interned-clause-made
returns-in_err-interned-clause-made c = λ s p begun has own lisp key shown.
    let t = c.args.world.now.0.packages in
    let n = c.args.name.now in
    let goes : after_intern t c.args.owner.now n ≡ Ok (home t s p n begun has shown, t) = (λ i. after_intern t (own i) n) ∙ interns t s p n begun has shown in
    refused_so {A = Interned} _ (λ x. (x.home, c.intern.new.self.0.packages)) c.in_err-interned.field-0.0 _ _ goes c.in_err-interned.ensures.gives
    c.from_residual.result c.from_residual.ensures.1

pub returns-in_err-export-clause-made : goal.returns-in_err-export-clause-made
returns-in_err-export-clause-made c = λ s p begun has own lisp key shown.
    let t = c.args.world.now.0.packages in
    let u = c.intern.new.self.0.packages in
    let n = c.args.name.now in
    let same = interned t s p n begun has shown c.in_ok-interned.interned.home u ((λ i. after_intern t (sym own i) n) ∙ c.in_ok-interned.ensures.gives) in
    let home_is : c.as_slice.result.now ≡ home t s p n begun has shown = c.as_slice.ensures ∙ same.0 in
    let goes : after_export u c.args.owner.now c.as_slice.result.now n ≡ Ok (with_external t p (home t s p n begun has shown) n) =
    (λ i. after_export (same.1 i) (own i) (home_is i) n) ∙ exports t s p n begun has shown lisp key c.soundness.ensures.present.packages in
    refused_so {A = Bool} _ (λ _. c.export.new.self.0.packages) c.in_err-export.field-0.0 _ _ goes c.in_err-export.ensures.gives
    c.from_residual-in_err-export.result c.from_residual-in_err-export.ensures.1

pub returns-clause-made : goal.returns-clause-made
returns-clause-made c = λ s p begun has own lisp key shown.
    let t = c.args.world.now.0.packages in
    let u = c.intern.new.self.0.packages in
    let n = c.args.name.now in
    let same = interned t s p n begun has shown c.in_ok-interned.interned.home u ((λ i. after_intern t (sym own i) n) ∙ c.in_ok-interned.ensures.gives) in
    let home_is : c.as_slice.result.now ≡ home t s p n begun has shown = c.as_slice.ensures ∙ same.0 in
    exported t s p n begun has shown lisp key c.soundness.ensures.present.packages c.export.new.self.0.packages
    ((λ i. after_export (sym same.1 i) (sym own i) (sym home_is i) n) ∙ c.in_ok-export.ensures.gives)

pub returns-clause-grows : goal.returns-clause-grows
returns-clause-grows c = grows_both _ c.intern.new.self.0.packages _ c.in_ok-interned.ensures.grows c.in_ok-export.ensures.grows
