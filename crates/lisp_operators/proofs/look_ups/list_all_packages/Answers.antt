use Rattle.std.proofs.Common.{ap, ◌∙◌}
use Rattle.package_table.specs.Readers.{names_of}
use Rattle.lisp_operators.proofs.LookUpSteps.{packages_ascii}
use Rattle.lisp_operators.proofs.look_ups.list_all_packages.Goals as goal

pub texts-requires : goal.texts-requires
texts-requires c =
    packages_ascii c.args.world.now.0 c.packages.result.now.0 (names_of c.as_slice.result.now) c.soundness.ensures.present c.packages.ensures
    (ap names_of c.as_slice.ensures.value ∙ c.in_ok-names.ensures)
