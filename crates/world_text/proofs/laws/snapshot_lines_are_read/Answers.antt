use Rattle.world_text.proofs.LinesRead.{first_read, second_read, third_read}
use Rattle.world_text.proofs.laws.snapshot_lines_are_read.Goals as goal

pub returns-clause-packages : goal.returns-clause-packages
returns-clause-packages c s first functions rest sound sound_first fits = first_read functions s sound first sound_first fits rest

pub returns-clause-properties : goal.returns-clause-properties
returns-clause-properties c s functions rest sound fits = second_read functions s sound fits rest

pub returns-clause-tables : goal.returns-clause-tables
returns-clause-tables c version s third functions rest sound is fits = third_read functions s sound version third is fits rest
