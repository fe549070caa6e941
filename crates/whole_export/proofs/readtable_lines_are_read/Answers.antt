use Rattle.std.proofs.Common.{◌∷◌, ◌++◌}
use Rattle.world_forms.specs.Readtables.{readtable_lines}
use Rattle.export_laws.proofs.OneForm.{nothing_made}
use Rattle.whole_export.proofs.AllReadtables.{tables_made}
use Rattle.whole_export.proofs.readtable_lines_are_read.Goals as goal

pub returns : goal.returns
returns c = λ functions s now rest sound covered same begins reads.
    let whole = 10 ∷ readtable_lines s ++ rest in
    tables_made s sound.readtables functions now whole now sound.packages same reads rest begins covered (nothing_made functions now whole)
