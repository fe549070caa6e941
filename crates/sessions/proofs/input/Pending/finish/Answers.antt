use Rattle.std.proofs.Common.{arith, subst, sym, ◌∙◌}
use Rattle.lisp_object.specs.Datum.{object_of}
use Rattle.form_reader.specs.Reader.{begun, BeginsAt, IsOutcome, RefusesFrom}
use Rattle.form_reader.specs.declared.reader.ReadOutcome.{ReadOutcome}
use Rattle.prevalence_store.specs.meaning.Acceptance.{read_in, setting_in}
use Rattle.prevalence_store.proofs.calls.Executing.{form_places, form_read}
use Rattle.sessions.proofs.Pendings.{kept_count, last_form, last_places}
use Rattle.sessions.proofs.input.Pending.finish.Goals as goal

pub own_text-requires-clause-kept : goal.own_text-requires-clause-kept
own_text-requires-clause-kept g c =
    let functions = g.R.Meaning.Meaning.functions in
    let w = c.args.world.now.0 in
    let p = c.requires.pending in
    let f = c.in-Form in
    let read = form_read _ (read_in functions w c.args.mode p.0) f.datum f.start f.end f.next (c.in_ok-finish_in.ensures.outcome p.0 p.1.after) f.is in
    (last_places functions w c.args.mode c.args.self p.0 p.1 (object_of f.datum) f.start f.end f.next read.0).0

pub own_text-requires-clause-order : goal.own_text-requires-clause-order
own_text-requires-clause-order g c =
    let functions = g.R.Meaning.Meaning.functions in
    let w = c.args.world.now.0 in
    let p = c.requires.pending in
    let f = c.in-Form in
    let read = form_read _ (read_in functions w c.args.mode p.0) f.datum f.start f.end f.next (c.in_ok-finish_in.ensures.outcome p.0 p.1.after) f.is in
    (last_places functions w c.args.mode c.args.self p.0 p.1 (object_of f.datum) f.start f.end f.next read.0).1

pub own_text-requires-clause-within : goal.own_text-requires-clause-within
own_text-requires-clause-within g c =
    let functions = g.R.Meaning.Meaning.functions in
    let w = c.args.world.now.0 in
    let p = c.requires.pending in
    let f = c.in-Form in
    let read = form_read _ (read_in functions w c.args.mode p.0) f.datum f.start f.end f.next (c.in_ok-finish_in.ensures.outcome p.0 p.1.after) f.is in
    let places = last_places functions w c.args.mode c.args.self p.0 p.1 (object_of f.datum) f.start f.end f.next read.0 in
    omega (arith, places.2, kept_count functions w c.args.mode c.args.self p.0 p.1, c.as_slice.ensures.len, c.args.self.text.ok.0)

pub returns-clause-finishes : goal.returns-clause-finishes
returns-clause-finishes g c = λ bytes p.
    let functions = g.R.Meaning.Meaning.functions in
    let w = c.args.world.now.0 in
    let f = c.in-Form in
    let read = form_read _ (read_in functions w c.args.mode bytes) f.datum f.start f.end f.next (c.in_ok-finish_in.ensures.outcome bytes p.after) f.is in
    last_form functions w c.args.mode c.args.self bytes p (object_of f.datum) c.in_ok-own-in-Form.own.items f.start f.end f.next read.0 (c.in_ok-own-in-Form.ensures bytes (c.as_slice.ensures.value ∙ p.kept))

pub returns-clause-within : goal.returns-clause-within
returns-clause-within g c =
    let functions = g.R.Meaning.Meaning.functions in
    let w = c.args.world.now.0 in
    let p = c.requires.pending in
    let f = c.in-Form in
    let read = form_read _ (read_in functions w c.args.mode p.0) f.datum f.start f.end f.next (c.in_ok-finish_in.ensures.outcome p.0 p.1.after) f.is in
    let places = form_places functions w c.args.mode p.0 (object_of f.datum) f.start f.end f.next read.0 in
    (omega (arith, places.0, places.1), omega (arith, places.2, p.1.count))

pub returns-in-Refused-clause-finishes : goal.returns-in-Refused-clause-finishes
returns-in-Refused-clause-finishes g c = λ bytes p.
    let functions = g.R.Meaning.Meaning.functions in
    let w = c.args.world.now.0 in (
      subst (λ (o : ReadOutcome). IsOutcome o (read_in functions w c.args.mode bytes)) c.in-Refused.is (c.in_ok-finish_in.ensures.outcome bytes p.after),
      subst (BeginsAt (setting_in functions w c.args.mode) bytes) (sym p.only) p.has_begun.begins,
      subst (λ (o : ReadOutcome). RefusesFrom (setting_in functions w c.args.mode) bytes (begun c.args.self.reader) o) c.in-Refused.is (c.in_ok-finish_in.ensures.has_begun bytes p.has_begun) ∙ sym p.only,
    )
