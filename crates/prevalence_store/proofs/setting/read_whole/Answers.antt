use Rattle.std.proofs.Common.{ap, subst, ◌∙◌, arith}
use Rattle.lisp_object.specs.Datum.{object_of}
use Rattle.form_reader.specs.Reader.{IsOutcome}
use Rattle.form_reader.specs.declared.reader.ReadOutcome.{ReadOutcome}
use Rattle.lisp_reading.specs.Reading.{form, empty, refused}
use Rattle.prevalence_store.specs.meaning.Acceptance.{read_in}
use Rattle.prevalence_store.specs.steps.Setting.{SymbolsAreThere}
use Rattle.prevalence_store.proofs.calls.Executing.{accepts_by, form_places, form_read, leaves_over}
use Rattle.prevalence_store.proofs.steps.Fitting.{fits_in, is_form}
use Rattle.prevalence_store.proofs.setting.read_whole.Goals as goal

pub returns-in-Empty : goal.returns-in-Empty
returns-in-Empty g c =
    let functions = g.R.Meaning.Meaning.functions in
    let w = c.args.world.now.0 in
    accepts_by functions w c.args.mode c.args.text.now empty
    (subst (λ (o : ReadOutcome). IsOutcome o (read_in functions w c.args.mode c.args.text.now)) c.in-Empty.is c.in_ok-outcome.ensures.outcome)

pub returns-in-Refused : goal.returns-in-Refused
returns-in-Refused g c =
    let functions = g.R.Meaning.Meaning.functions in
    let w = c.args.world.now.0 in
    accepts_by functions w c.args.mode c.args.text.now (refused c.in-Refused.code c.in-Refused.at)
    (subst (λ (o : ReadOutcome). IsOutcome o (read_in functions w c.args.mode c.args.text.now)) c.in-Refused.is c.in_ok-outcome.ensures.outcome)

pub returns-then-next-text : goal.returns-then-next-text
returns-then-next-text g c =
    let functions = g.R.Meaning.Meaning.functions in
    let w = c.args.world.now.0 in
    let f = c.in-Form in
    let told = form_read _ (read_in functions w c.args.mode c.args.text.now) f.datum f.start f.end f.next c.in_ok-outcome.ensures.outcome f.is in
    leaves_over functions w c.args.mode c.args.text.now (object_of f.datum) f.start f.end f.next told.0 c.if-next-text.true

pub returns-else-next-text : goal.returns-else-next-text
returns-else-next-text g c =
    let functions = g.R.Meaning.Meaning.functions in
    let w = c.args.world.now.0 in
    let f = c.in-Form in
    let told = form_read _ (read_in functions w c.args.mode c.args.text.now) f.datum f.start f.end f.next c.in_ok-outcome.ensures.outcome f.is in
    let places = form_places functions w c.args.mode c.args.text.now (object_of f.datum) f.start f.end f.next told.0 in record {
      reads = told.0 ∙ ap (form (object_of f.datum) f.start f.end) c.if-next-text.false;
      order = places.0;
      within = omega (arith, places.1, places.2);
      may = record {
        proper = told.1;
        form = is_form w.packages (object_of f.datum) told.2
            (fits_in functions w c.args.mode c.args.text.now (object_of f.datum) f.start f.end f.next c.soundness.ensures.present told.0);
        all_there = λ known. subst (SymbolsAreThere w.packages) f.is (c.in_ok-outcome.ensures.all_there known);
      };
    }
