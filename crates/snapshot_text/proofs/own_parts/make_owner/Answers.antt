use Rattle.std.proofs.Common.{◌≡◌, false, sym, ap, ◌∙◌}
use Rattle.std.specs.FinMap as finite
use Rattle.package_table.specs.Table.{Table}
use Rattle.snapshot_text.proofs.PartMakes.{make_goes, made_is, refused_so}
use Rattle.snapshot_text.proofs.own_parts.make_owner.Goals as goal

pub returns-in_err-make-clause-there : goal.returns-in_err-make-clause-there
returns-in_err-make-clause-there c = λ s sound there part.
    let t : Table = c.args.world.now.0.packages in
    let absent : finite.contains_key t c.args.owner.now ≡ false = ap (λ (t : Table). finite.contains_key t c.args.owner.now) (sym c.packages.ensures) ∙ sym c.has_package.ensures ∙ c.if-not-has_package.true in
    refused_so {A = Unit {0}} _ (λ _. c.make.new.self.0.packages) c.in_err-make.field-0.0 _ _ (make_goes t s part sound c.args.owner.now absent there) c.in_err-make.ensures.gives c.from_residual.result c.from_residual.ensures.1

pub returns-in_ok-make-clause-there : goal.returns-in_ok-make-clause-there
returns-in_ok-make-clause-there c = λ s sound there part.
    let t : Table = c.args.world.now.0.packages in
    let absent : finite.contains_key t c.args.owner.now ≡ false = ap (λ (t : Table). finite.contains_key t c.args.owner.now) (sym c.packages.ensures) ∙ sym c.has_package.ensures ∙ c.if-not-has_package.true in
    made_is t s c.make.new.self.0.packages part sound c.args.owner.now absent there c.in_ok-make.ensures.gives
