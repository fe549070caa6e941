use Rattle.std.proofs.Common.{◌∙◌, [], List, ℕ, append-nil, refl, sym, ap, subst}
use Rattle.canon_printer.specs.Printed.{printed}
use Rattle.form_reader.specs.Reader.{IsOutcome}
use Rattle.lisp_object.specs.Datum.{object_of}
use Rattle.lisp_reading.specs.Reading.{ReadingResult, reads}
use Rattle.lisp_reading.specs.Setting.{setting_of}
use Rattle.readtable_core.specs.Tables.{Table, standard}
use Rattle.law_tests.proofs.round_trip.read_printed.Goals as goal

pub returns : goal.returns
returns g c = λ sound there depth fits some tokens.
    let packages = c.args.packages.now.0 in
    let current = c.args.current.now in
    let functions = g.R.MacroFunctions.functions c.args.macros.now in
    let x = object_of c.args.datum.now in
    let given = printed packages current x in
    let read_in = λ (table : Table) (text : List ℕ). reads (setting_of c.args.limits table 10 packages current functions) text in
    let same = ap (λ (table : Table). read_in table c.as_slice.result.now) c.in_ok-table.ensures
    ∙ (ap (read_in standard) (c.as_slice.ensures.value ∙ (c.in_ok-text.ensures ∙ sym (append-nil given)))
    ∙ c.printed_objects_read_back.ensures c.args.limits packages current functions x [] c.soundness.ensures sound there depth fits some tokens refl) in
    subst (λ (o : ReadingResult). IsOutcome c.in_ok-outcome.outcome o) same c.in_ok-outcome.ensures.outcome
