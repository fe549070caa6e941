use Rattle.std.proofs.Common.{◌≡◌, ◌≢◌, Bool, sym, subst, ◌∙◌}
use Rattle.std.specs.Prelude.{Ok}
use Rattle.package_table.specs.Table.{Name, Table, common_lisp, Uses, AreSoundPackages}
use Rattle.package_table.specs.Changes.{after_use}
use Rattle.package_table.proofs.KeptSound.{used_is_package}
use Rattle.snapshot_lines.specs.QuotedTexts.{unescaped}
use Rattle.snapshot_text.specs.Part.{IsPartOf}
use Rattle.snapshot_text.specs.Phases.{HasItsPackages}
use Rattle.snapshot_text.proofs.Gave.{same_ok}
use Rattle.snapshot_text.proofs.PartMakes.{refused_so}
use Rattle.snapshot_text.proofs.PartSteps.{not_locked, after_used, use_goes, use_part, use_there}
use Rattle.snapshot_text.proofs.package_parts.use_one.Goals as goal

module _ (t s : Table) (p q : Name) (begun : HasItsPackages t s) (lisp : p ≢ common_lisp) (uses : Uses s p q) (sound : AreSoundPackages t) where
  abbrev after : Table
  after = after_used t s begun.part begun.sound p q (begun.own p (used_is_package s p q uses)).there (begun.own q (begun.sound.joined.used p q uses)).there uses sound

  goes : after_use t p q ≡ Ok after
  goes = use_goes t s begun.part begun.sound p q (begun.own p (used_is_package s p q uses)).there (begun.own q (begun.sound.joined.used p q uses)).there uses sound
      (not_locked p lisp (λ same. begun.sound.first.unusing q (subst (λ (x : Name). Uses s x q) same uses)))

  used : (u : Table) → after_use t p q ≡ Ok u → IsPartOf u s × Uses u p q
  used u e =
      let is = same_ok after u (sym goes ∙ e) in
      let there = (begun.own p (used_is_package s p q uses)).there in
      let that = (begun.own q (begun.sound.joined.used p q uses)).there in
      (subst (λ (x : Table). IsPartOf x s) is (use_part t s begun.part begun.sound p q there that uses sound), subst (λ (x : Table). Uses x p q) is (use_there t s begun.part begun.sound p q there that uses sound))

pub returns-in_err-use_package-clause-made : goal.returns-in_err-use_package-clause-made
returns-in_err-use_package-clause-made c = λ s p begun own lisp uses.
    let t = c.args.world.now.0.packages in
    let q = unescaped c.args.used.now in
    let name : c.as_slice.result.now ≡ q = c.as_slice.ensures ∙ c.in_ok-used.ensures in
    let sound = c.soundness.ensures.present.packages in
    let gone : after_use t c.args.owner.now c.as_slice.result.now ≡ Ok (after t s p q begun lisp uses sound) = (λ i. after_use t (own i) (name i)) ∙ goes t s p q begun lisp uses sound in
    refused_so {A = Bool} _ (λ _. c.use_package.new.self.0.packages) c.in_err-use_package.field-0.0 _ _ gone c.in_err-use_package.ensures.gives
    c.from_residual-in_err-use_package.result c.from_residual-in_err-use_package.ensures.1

pub returns-clause-made : goal.returns-clause-made
returns-clause-made c = λ s p begun own lisp uses.
    let t = c.args.world.now.0.packages in
    let q = unescaped c.args.used.now in
    let name : c.as_slice.result.now ≡ q = c.as_slice.ensures ∙ c.in_ok-used.ensures in
    used t s p q begun lisp uses c.soundness.ensures.present.packages c.use_package.new.self.0.packages
    ((λ i. after_use t (sym own i) (sym name i)) ∙ c.in_ok-use_package.ensures.gives)
