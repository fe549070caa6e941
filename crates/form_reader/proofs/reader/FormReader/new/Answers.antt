use Rattle.std.proofs.Common.{refl}
use Rattle.form_reader.proofs.Readers.{new_rest}
use Rattle.form_reader.proofs.Begun.{new_begun}
use Rattle.form_reader.proofs.reader.FormReader.new.Goals as goal

pub returns-clause-after : goal.returns-clause-after
returns-clause-after c = λ setting. (refl, new_rest setting c.new.result c.new.ensures)

pub returns-clause-has_begun : goal.returns-clause-has_begun
returns-clause-has_begun c = λ setting. new_begun setting _ (record { start = refl; at = refl; stack = c.new.ensures; state = refl }) (returns-clause-after c setting)
