-- What a text begins with, as a reader finds it.
use Rattle.std.proofs.Common.{◌≡◌, ◌≤◌, ℕ, List, [], ◌++◌, length, take, drop, refl, sym, ap, subst, ◌∙◌, arith}
use Rattle.std.proofs.lemmas.List.{take-append-drop, length-take-le}
use Rattle.std.proofs.Math.Seq.{take-length}
use Rattle.lisp_object.specs.declared.datum.Datum.{Datum}
use Rattle.lisp_object.specs.Datum.{object_of}
use Rattle.lisp_object.specs.Object.{Object}
use Rattle.lisp_reading.specs.declared.limits.Limits.{Limits}
use Rattle.lisp_reading.specs.Setting.{Setting}
use Rattle.lisp_reading.specs.Reading.{ReadingResult, form, refused, reads}
use Rattle.lisp_reading.specs.Deciding.{decided_from}
use Rattle.form_reader.specs.declared.reader.FormReader.{FormReader}
use Rattle.form_reader.specs.declared.reader.Advance.{Advance}
use Rattle.form_reader.specs.declared.reader.Advance.TheVariants.{More as AdvanceMore, Form as AdvanceForm, Refused as AdvanceRefused}
use Rattle.form_reader.specs.declared.reader.ReadOutcome.{ReadOutcome}
use Rattle.form_reader.specs.declared.reader.ReadOutcome.TheVariants as outcomes
use Rattle.form_reader.specs.Reader.{begun, FeedsReader, HasBegunAfter, IsAfterBytes, IsOutcome, RefusesFrom, Steps, StepsBegun}
use Rattle.form_check.specs.Checking.{IsBeginning, beginning_at_end}
use Rattle.form_check.specs.declared.begin.Beginning.TheVariants as begins

-- a form has no more bytes than the text
abbrev pub FormsFit : Type 0
FormsFit = (setting : Setting) (text : List ℕ) (x : Object) (start «end» next : ℕ) → reads setting text ≡ form x start «end» next → next ≤ length text

abbrev pub RefusalsFit : Type 0
RefusalsFit = (setting : Setting) (text : List ℕ) (number offset : ℕ) → reads setting text ≡ refused number offset → offset ≤ length text

pub form_begins : (setting : Setting) (new : FormReader) (text : List ℕ) (count : ℕ) (step : Advance) → FeedsReader setting new [] text count step
    → (datum : Datum) (start «end» next : ℕ) → step ≡ AdvanceForm datum start «end» next → FormsFit → IsBeginning setting text (begins.Form next)
form_begins setting new text count step feeds datum start «end» next is fit =
    let steps : Steps setting new (take count text) (AdvanceForm datum start «end» next) = subst (Steps setting new (take count text)) is feeds.steps in
    let read : reads setting text ≡ form (object_of datum) start «end» next =
    subst (λ (t : List ℕ). reads setting t ≡ form (object_of datum) start «end» next) (take-append-drop count text) (steps.0 (drop count text)) in
    (object_of datum, start, «end», read, fit setting text (object_of datum) start «end» next read)

pub refusal_begins : (setting : Setting) (new : FormReader) (text : List ℕ) (count : ℕ) (step : Advance) → count ≤ length text → FeedsReader setting new [] text count step
    → StepsBegun setting new (take count text) step → (number at : ℕ) → step ≡ AdvanceRefused number at → RefusalsFit
    → (start : ℕ) → start ≡ begun new → IsBeginning setting text (begins.Refused number start at)
refusal_begins setting new text count step within feeds has number at is fit start same =
    let steps : Steps setting new (take count text) (AdvanceRefused number at) = subst (Steps setting new (take count text)) is feeds.steps in
    let began : StepsBegun setting new (take count text) (AdvanceRefused number at) = subst (StepsBegun setting new (take count text)) is has in
    let whole : take count text ++ drop count text ≡ text = take-append-drop count text in
    let read : reads setting text ≡ refused number at = subst (λ (t : List ℕ). reads setting t ≡ refused number at) whole (steps.0 (drop count text)) in
    let from : decided_from setting text ≡ begun new = subst (λ (t : List ℕ). decided_from setting t ≡ begun new) whole (began.1 (drop count text)) in
    let far : begun new ≤ length (take count text) = began.0.within in
    let size : length (take count text) ≡ count = length-take-le count text within in
    (read, from ∙ sym same, omega (arith, far, size, within, same), fit setting text number at read)

-- where all of the text was fed, it is after it
pub whole_fed : (setting : Setting) (new : FormReader) (text : List ℕ) (count : ℕ) (step : Advance) → FeedsReader setting new [] text count step
    → step ≡ AdvanceMore → count ≡ length text → IsAfterBytes setting new text
whole_fed setting new text count step feeds is all =
    let steps : Steps setting new (take count text) AdvanceMore = subst (Steps setting new (take count text)) is feeds.steps in
    let same : take count text ≡ text = ap (λ n. take n text) all ∙ take-length text in
    subst (IsAfterBytes setting new) same steps.0

pub whole_begun : (setting : Setting) (new : FormReader) (text : List ℕ) (count : ℕ) (step : Advance) → StepsBegun setting new (take count text) step
    → step ≡ AdvanceMore → count ≡ length text → HasBegunAfter setting new text
whole_begun setting new text count step has is all =
    let began : StepsBegun setting new (take count text) AdvanceMore = subst (StepsBegun setting new (take count text)) is has in
    let same : take count text ≡ text = ap (λ n. take n text) all ∙ take-length text in
    subst (HasBegunAfter setting new) same began

-- at the end of the text
pub ends : (setting : Setting) (text : List ℕ) (outcome : ReadOutcome) (start : ℕ) → IsOutcome outcome (reads setting text) → RefusesFrom setting text start outcome
    → start ≤ length text → FormsFit → RefusalsFit → IsBeginning setting text (beginning_at_end outcome start)
ends setting text outcomes.Empty start is from far forms refusals = is
ends setting text (outcomes.Form datum first «end» next) start is from far forms refusals =
    (object_of datum, first, «end», is.0, forms setting text (object_of datum) first «end» next is.0)
ends setting text (outcomes.Refused number at) start is from far forms refusals = (is, from, far, refusals setting text number at is)

pub began_within : (setting : Setting) (reader : FormReader) (text : List ℕ) (start : ℕ) → start ≡ begun reader → HasBegunAfter setting reader text → start ≤ length text
began_within setting reader text start same has = subst (λ (n : ℕ). n ≤ length text) (sym same) has.begins.within

pub refused_from : (setting : Setting) (text : List ℕ) (outcome : ReadOutcome) (first start : ℕ) → start ≡ first → RefusesFrom setting text first outcome
    → RefusesFrom setting text start outcome
refused_from setting text outcome first start same from = subst (λ (n : ℕ). RefusesFrom setting text n outcome) (sym same) from
