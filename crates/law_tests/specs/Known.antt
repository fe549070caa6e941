-- What is known of what was read of a text, beside what it is.
use Rattle.std.specs.Prelude.{◌≡◌, ◌≤◌, ◌<◌, ◌-◌, ◌++◌, ℕ, List, length, take, drop}
use Rattle.form_reader.specs.declared.reader.ReadOutcome.{ReadOutcome}
use Rattle.form_reader.specs.declared.reader.ReadOutcome.TheVariants.{Form as ReadForm, Empty as ReadEmpty, Refused as ReadRefused}
use Rattle.lisp_object.specs.Datum.{object_of}
use Rattle.lisp_object.specs.Object.{Object, object_depth}
use Rattle.lisp_object.specs.declared.refusal.TheConstants.{END_OF_FILE, OUT_OF_PROFILE}
use Rattle.lisp_reading.specs.Deciding.{decided_from}
use Rattle.lisp_reading.specs.DiscardedText.{IsDiscardedText}
use Rattle.lisp_reading.specs.Reading.{form, reads}
use Rattle.lisp_reading.specs.Setting.{Setting}

module _ (setting : Setting) (text : List ℕ) where
  -- A form that starts and stops at these places, with the place where the next one begins.
  pub record IsFormThere (x : Object) (starts stops next : ℕ) : Type 0 where
    pub within : stops - starts ≤ setting.limits.text
    pub depth : object_depth x ≤ setting.limits.nesting
    pub begins : decided_from setting text ≡ starts
    -- what follows the text changes nothing, if the form stops before
    pub decided : (more : List ℕ) → stops < length text → reads setting (text ++ more) ≡ form x starts stops next
    -- nor does a greater limit
    pub wider : (most : ℕ) → setting.limits.text ≤ most
        → reads (record setting { limits = record setting.limits { text = most } }) text ≡ form x starts stops next
    -- and where a byte is discarded with it, it is read again from its own bytes and this one
    pub again : (more : List ℕ) → stops < next
        → reads setting (take (next - starts) (drop starts text) ++ more) ≡ form x 0 (stops - starts) (next - starts)

  -- a form is there, or discarded text alone, or a number of reading
  abbrev pub IsKnownOutcome : ReadOutcome → Type 0
  IsKnownOutcome (ReadForm datum starts stops next) = IsFormThere (object_of datum) starts stops next
  IsKnownOutcome ReadEmpty = IsDiscardedText setting text
  IsKnownOutcome (ReadRefused number offset) = (END_OF_FILE ≤ number) × (number ≤ OUT_OF_PROFILE)
