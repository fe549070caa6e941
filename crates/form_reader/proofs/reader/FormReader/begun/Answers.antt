use Rattle.form_reader.proofs.Readers.{begun_first}
use Rattle.form_reader.proofs.reader.FormReader.begun.Goals as goal

pub returns-clause-form : goal.returns-clause-form
returns-clause-form c = λ setting bytes more x start end next after e. begun_first setting c.args.self.now bytes more x start end next after e
