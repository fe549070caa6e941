use Rattle.std.proofs.Common.{◌≡◌, ◌++◌, true, Option, IfSome, sym, subst, ◌∙◌, arith}
use Rattle.std.specs.Prelude.{vec_len}
use Rattle.std.proofs.lemmas.List.{nil_from_length}
use Rattle.std.proofs.lemmas.Bool.{eqb-true}
use Rattle.lisp_object.specs.Datum.{object_of}
use Rattle.package_table.specs.Table.{Table}
use Rattle.package_table.specs.Symbols.{are_there}
use Rattle.plain_reader.specs.declared.plain.PlainForm.{PlainForm}
use Rattle.lisp_reading.specs.Reading.{form, reads}
use Rattle.prevalence_store.specs.meaning.Acceptance.{setting_in}
use Rattle.sessions.proofs.PlainForms.{plain_form}
use Rattle.prevalence_store.proofs.steps.Settings.{plain_reads}
use Rattle.sessions.proofs.input.Pending.feed_plain.Goals as goal

pub returns-clause-feeds : goal.returns-clause-feeds
returns-clause-feeds c = λ functions bytes p.
    let w = c.args.world.now.0 in
    let f = c.in-Some-2.plain in
    let front = c.in-Some.front.now in
    plain_form functions w c.args.mode c.args.self.now c.new.result bytes front (object_of f.datum) p c.args.piece.now c.in_ok-own.own.items c.in_ok-own.ensures.items c.in-Some.ensures.front
    (nil_from_length c.args.self.now.text.items
    (let none : vec_len c.args.self.now.text ≡ 0 = eqb-true (vec_len c.args.self.now.text) 0 (sym c.is_empty.ensures ∙ c.if-not-is_empty.false) in
    omega (arith, none, c.args.self.now.text.ok.0)))
    (λ more. subst (λ n. reads (setting_in functions w c.args.mode) (front ++ more) ≡ form (object_of f.datum) 0 n n) c.if-plain-front.false
    (plain_reads functions w c.args.mode _ _ _ _ _ front c.in_ok-plain.field-0 f c.form-limits.ensures c.requires.table c.base_in-base.ensures.base c.packages.ensures c.package_in-package.ensures.name c.in-Some-2.is
    c.in_ok-plain.ensures.form more))
    (λ later in_mode. c.new.ensures.none functions later in_mode)

pub returns-clause-all_there : goal.returns-clause-all_there
returns-clause-all_there c =
    subst (λ (o : Option PlainForm). IfSome o (λ f. f.known ≡ true → are_there c.args.world.now.0.packages (object_of f.datum) ≡ true)) c.in-Some-2.is
    (subst (λ (t : Table). IfSome c.in_ok-plain.field-0 (λ f. f.known ≡ true → are_there t (object_of f.datum) ≡ true)) c.packages.ensures c.in_ok-plain.ensures.known)
