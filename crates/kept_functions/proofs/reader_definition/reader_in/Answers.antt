use Rattle.std.proofs.Common.{◌≡◌, true, sym, ◌∙◌}
use Rattle.lisp_object.specs.Datum.{object_of}
use Rattle.kept_functions.specs.ReaderFunctions.{is_lisp_name}
use Rattle.kept_functions.proofs.Readers.{reader_found, reader_missing}
use Rattle.kept_functions.proofs.reader_definition.reader_in.Goals as goal

pub returns-in-Some-clause-value : goal.returns-in-Some-clause-value
returns-in-Some-clause-value c =
    let own : is_lisp_name c.args.name.now ≡ true = sym c.is_lisp_name.ensures ∙ c.if-not-is_lisp_name.false in
    c.reader_definition_of.ensures.value ∙ sym (reader_found c.args.world.now.0 c.args.name.now (object_of c.in-Some.definition.now) own c.in-Some.ensures.value)

pub returns-in-None-clause-value : goal.returns-in-None-clause-value
returns-in-None-clause-value c =
    let own : is_lisp_name c.args.name.now ≡ true = sym c.is_lisp_name.ensures ∙ c.if-not-is_lisp_name.false in
    reader_missing c.args.world.now.0 c.args.name.now own c.in-None.ensures.value
