-- From what was read to what is known of it.
use Rattle.std.proofs.Common.{◌≡◌, ◌≤◌, ℕ, List, refl}
use Rattle.form_reader.specs.declared.reader.ReadOutcome.{ReadOutcome}
use Rattle.form_reader.specs.declared.reader.ReadOutcome.TheVariants.{Form as ReadForm, Empty as ReadEmpty, Refused as ReadRefused}
use Rattle.form_reader.specs.Reader.{IsOutcome}
use Rattle.lisp_object.specs.Datum.{object_of}
use Rattle.lisp_object.specs.Object.{Object}
use Rattle.lisp_object.specs.declared.refusal.TheConstants.{END_OF_FILE, OUT_OF_PROFILE}
use Rattle.lisp_reading.specs.DiscardedText.{IsDiscardedText}
use Rattle.lisp_reading.specs.Reading.{empty, form, reads, reads_at, refused}
use Rattle.lisp_reading.specs.Setting.{Setting}
use Rattle.law_tests.specs.Known.{IsFormThere, IsKnownOutcome}

pub known_of : (setting : Setting) (text : List ℕ)
    → ((x : Object) (starts stops next : ℕ) → reads setting text ≡ form x starts stops next → IsFormThere setting text x starts stops next)
    → (reads setting text ≡ empty → IsDiscardedText setting text)
    → ((number offset : ℕ) → reads setting text ≡ refused number offset → (END_OF_FILE ≤ number) × (number ≤ OUT_OF_PROFILE))
    → (outcome : ReadOutcome) → IsOutcome outcome (reads setting text) → IsKnownOutcome setting text outcome
known_of setting text of_form of_empty of_refusal (ReadForm datum starts stops next) is = of_form (object_of datum) starts stops next is.0
known_of setting text of_form of_empty of_refusal ReadEmpty is = of_empty is
known_of setting text of_form of_empty of_refusal (ReadRefused number offset) is = of_refusal number offset is

-- a text is read from its start
pub from_start : (setting : Setting) (text : List ℕ) → reads setting text ≡ reads_at setting 0 text
unfolding reads
from_start setting text = refl
