use Rattle.text_laws.proofs.One.{property_set}
use Rattle.export_laws.proofs.All.{properties_made}
use Rattle.export_laws.proofs.properties_are_made.Goals as goal

pub returns-clause-one : goal.returns-clause-one
returns-clause-one c = λ names s x p sound there indicator value. property_set names s sound x p there indicator value

pub returns-clause-all : goal.returns-clause-all
returns-clause-all c = λ names s now sound same none. properties_made s sound names now same none
