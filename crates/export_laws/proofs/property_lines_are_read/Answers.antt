use Rattle.std.proofs.Common.{◌∷◌, ◌++◌}
use Rattle.world_forms.specs.Properties.{property_lines}
use Rattle.export_laws.proofs.Lines.{lines_made}
use Rattle.export_laws.proofs.OneForm.{nothing_made}
use Rattle.export_laws.proofs.property_lines_are_read.Goals as goal

pub returns : goal.returns
returns c = λ functions s now rest sound none same empty as_exported.
    let whole = 10 ∷ property_lines s ++ rest in
    lines_made functions now whole s sound none now rest same empty as_exported (nothing_made functions now whole)
