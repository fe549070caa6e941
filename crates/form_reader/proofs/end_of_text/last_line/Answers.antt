use Rattle.lisp_reading.specs.InvokedCalls.{keep_of}
use Rattle.std.proofs.Common.{[]}
use Rattle.form_reader.specs.Context.{setting}
use Rattle.lisp_reading.specs.Reading.{line_after}
use Rattle.form_reader.proofs.EndOfText.{line_end}
use Rattle.form_reader.proofs.Gathering.{ends}
use Rattle.form_reader.proofs.end_of_text.last_line.Goals as goal

pub returns-clause-brings : goal.returns-clause-brings
returns-clause-brings g c = λ stack open_calls.
    let setting = setting g.R.MacroFunctions.functions c.args.with.now in
    ends setting stack (line_after setting (keep_of c.args.call.function) c.args.text) _ c.args.text c.in_ok-into_bytes.field-0 c.args.at c.args.at [] [] c.end_call.result
    (line_end setting.table setting.limits c.args.at (keep_of c.args.call.function) c.args.text c.requires.within) c.in_ok-into_bytes.ensures.value (c.end_call.ensures.brings stack [] open_calls)
