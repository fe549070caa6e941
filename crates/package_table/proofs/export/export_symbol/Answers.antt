use Rattle.std.proofs.Common.{◌≡◌, ◌∙◌, true, refl, sym}
use Rattle.std.proofs.lemmas.Bool.{not-false}
use Rattle.package_table.specs.Lookup.{is_external}
use Rattle.package_table.specs.Meaning.{numbered_of}
use Rattle.package_table.proofs.KeptChanges.{exported_again}
use Rattle.package_table.proofs.Adding.{adds_same}
use Rattle.package_table.proofs.export.export_symbol.Goals as goal

pub returns-then-not-branch-clause-gives : goal.returns-then-not-branch-clause-gives
returns-then-not-branch-clause-gives c =
    let shown : is_external (numbered_of c.args.sets.now).0 c.args.owner.now c.args.name.now ≡ true =
    not-false (is_external (numbered_of c.args.sets.now).0 c.args.owner.now c.args.name.now) (sym c.in_ok-export_refusal.ensures.changes ∙ c.if-not-branch.true) in
    exported_again (numbered_of c.args.sets.now).0 c.args.owner.now c.args.home.now c.args.name.now shown c.in_ok-export_refusal.ensures.gives

pub returns-then-not-branch-clause-adds : goal.returns-then-not-branch-clause-adds
returns-then-not-branch-clause-adds c = (adds_same c.args.sets.now c.goodness.ensures, refl)
