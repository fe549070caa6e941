use Rattle.std.proofs.Common.{◌≡◌, ◌≢◌, Bool, sym, subst, ◌∙◌}
use Rattle.std.specs.Prelude.{Ok}
use Rattle.package_table.specs.Table.{Name, Table, common_lisp, IsPresent}
use Rattle.package_table.specs.Changes.{with_present, after_import}
use Rattle.snapshot_text.specs.Part.{IsPartOf}
use Rattle.snapshot_text.specs.Phases.{HasItsPackages}
use Rattle.snapshot_text.proofs.PartFinds.{present_package}
use Rattle.snapshot_text.proofs.PartSteps.{not_locked, import_goes, import_part, import_there}
use Rattle.snapshot_text.proofs.Gave.{same_ok}
use Rattle.snapshot_text.proofs.PartMakes.{refused_so}
use Rattle.snapshot_text.proofs.package_parts.import_symbol.Goals as goal

-- an import of s goes, where the packages are begun
goes : (t s : Table) (p n h : Name) → HasItsPackages t s → p ≢ common_lisp → IsPresent s p n h → h ≢ p → after_import t p h n ≡ Ok (with_present t p h n)
goes t s p n h begun lisp got other =
    import_goes t s begun.part begun.sound p n h (begun.own p (present_package s p n h got)).there got
    (not_locked p lisp (λ same. other (begun.sound.first.own n h (subst (λ (x : Name). IsPresent s x n h) same got) ∙ sym same)))

imported : (t s u : Table) (p n h : Name) → HasItsPackages t s → p ≢ common_lisp → IsPresent s p n h → h ≢ p → after_import t p h n ≡ Ok u → IsPartOf u s × IsPresent u p n h
imported t s u p n h begun lisp got other e =
    let is = same_ok (with_present t p h n) u (sym (goes t s p n h begun lisp got other) ∙ e) in
    let there = (begun.own p (present_package s p n h got)).there in
    (subst (λ (x : Table). IsPartOf x s) is (import_part t s begun.part begun.sound p n h there got), subst (λ (x : Table). IsPresent x p n h) is (import_there t s begun.part begun.sound p n h there got))

pub returns-in_err-import-clause-made : goal.returns-in_err-import-clause-made
returns-in_err-import-clause-made c = λ s p begun own lisp got other.
    let t = c.args.world.now.0.packages in
    let goes_on : after_import t c.args.owner.now c.args.home.now c.args.name.now ≡ Ok (with_present t p c.args.home.now c.args.name.now) =
    (λ i. after_import t (own i) c.args.home.now c.args.name.now) ∙ goes t s p c.args.name.now c.args.home.now begun lisp got other in
    refused_so {A = Bool} _ (λ _. c.import.new.self.0.packages) c.in_err-import.field-0.0 _ _ goes_on c.in_err-import.ensures.gives c.from_residual.result c.from_residual.ensures.1

pub returns-clause-made : goal.returns-clause-made
returns-clause-made c = λ s p begun own lisp got other.
    imported c.args.world.now.0.packages s c.import.new.self.0.packages p c.args.name.now c.args.home.now begun lisp got other
    ((λ i. after_import c.args.world.now.0.packages (sym own i) c.args.home.now c.args.name.now) ∙ c.in_ok-import.ensures.gives)
