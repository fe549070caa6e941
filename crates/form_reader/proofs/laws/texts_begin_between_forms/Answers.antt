use Rattle.form_reader.proofs.Readers.{between_empty, between_reads}
use Rattle.form_reader.proofs.laws.texts_begin_between_forms.Goals as goal

pub returns : goal.returns
returns c = record { discarded = between_empty; begins = between_reads }
