use Rattle.std.proofs.Common.{◌≡◌, true, false, ◌∷◌, ◌+◌, ◌-◌, take, drop, length, sym, ap, subst, ◌∙◌}
use Rattle.std.specs.List.{list_all}
use Rattle.lisp_object.specs.Ascii.{is_ascii}
use Rattle.lisp_object.specs.Object.{text}
use Rattle.lisp_reading.specs.declared.attempt.Found.TheVariants.{One as one}
use Rattle.lisp_reading.specs.Plans.{gives}
use Rattle.lisp_reading.specs.Reading.{attempt}
use Rattle.plain_reader.specs.Coming.{ReadsOnAs}
use Rattle.plain_reader.specs.Plain.{setting}
use Rattle.plain_reader.proofs.Fronts.{rest_is}
use Rattle.plain_reader.proofs.Strings.{string_taken, letters_ascii}
use Rattle.plain_reader.proofs.objects.string.Goals as goal

pub text-requires : goal.text-requires
text-requires c =
    subst (λ bs. list_all is_ascii bs ≡ true) (sym c.in_ok-from_slice-in-Some.ensures)
    (letters_ascii c.args.with.now.readtable.now (take c.in-Some.count c.args.text.now) c.in-Some.ensures.letters)

pub returns-in_ok-from_slice-in-Some-clause-takes :
    goal.returns-in_ok-from_slice-in-Some-clause-takes
returns-in_ok-from_slice-in-Some-clause-takes c = λ room functions.
    let setting = setting c.args.with.now functions in
    let text_at = c.args.text.now in
    let count = c.in-Some.count in
    subst (λ x. ReadsOnAs setting (attempt setting room) (34 ∷ text_at) (gives (one false x)) (take (length text_at - (count + 1)) (drop (count + 1) text_at)))
    (sym (c.text.ensures ∙ ap text c.in_ok-from_slice-in-Some.ensures))
    (subst (λ rest. ReadsOnAs setting (attempt setting room) (34 ∷ text_at) (gives (one false (text (take count text_at)))) rest) (sym (rest_is (count + 1) text_at))
    (string_taken setting room count text_at c.args.with.now.sound c.requires c.in-Some.ensures))
