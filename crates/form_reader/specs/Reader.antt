-- A reader that takes a text one byte at a time: what it is after, and what it answers.
use Rattle.std.specs.Prelude.{ℕ, ◌≡◌, ◌+◌, ◌≤◌, ◌<◌, true, false, List, [], ◌∷◌, ◌++◌, length, take, drop, ◌-◌, Bool}
use Rattle.lisp_object.specs.Object.{IsSound}
use Rattle.lisp_object.specs.Datum.{object_of, is_proper}
use Rattle.lisp_reading.specs.declared.limits.Limits.{Limits}
use Rattle.form_reader.specs.declared.state.State.{State}
use Rattle.form_reader.specs.declared.state.State.TheVariants.{Object as AtObject}
use Rattle.form_reader.specs.declared.reader.FormReader.{FormReader}
use Rattle.form_reader.specs.declared.reader.ReaderState.{ReaderState}
use Rattle.form_reader.specs.declared.reader.ReaderState.TheVariants.{Open, Refused, OutOfMemory}
use Rattle.form_reader.specs.declared.reader.Advance.{Advance}
use Rattle.form_reader.specs.declared.reader.Advance.TheVariants.{More as AdvanceMore, Form as AdvanceForm, Refused as AdvanceRefused}
use Rattle.form_reader.specs.declared.reader.ReadOutcome.{ReadOutcome}
use Rattle.form_reader.specs.declared.reader.ReadOutcome.TheVariants.{Form as ReadForm, Empty as ReadEmpty, Refused as ReadRefused}
use Rattle.form_reader.specs.declared.step.Change.{Change}
use Rattle.form_reader.specs.declared.step.Change.TheVariants.{Goes, Form as ChangeForm, Refused as ChangeRefused}
use Rattle.lisp_reading.specs.Setting.{Setting}
use Rattle.lisp_reading.specs.Deciding.{decided_from}
use Rattle.lisp_reading.specs.Reading.{ReadingResult, form, empty, refused, is_whitespace, reads}
use Rattle.form_reader.specs.State.{state_gives}
use Rattle.form_reader.specs.Step.{rest_of_attempt, start_of}

-- the limits under which it reads
abbrev pub limits_of : FormReader → Limits
limits_of reader = reader.limits

-- how many bytes it was fed, while it goes on
abbrev pub fed : FormReader → ℕ
fed reader = reader.start + reader.at

-- where the object, or the discarded call or text, that is now open began; a form begins there or later
abbrev pub begun : FormReader → ℕ
begun reader = reader.start

-- it refused the text, with this number, at this offset
abbrev pub HasRefused : FormReader → ℕ → ℕ → Type 0
HasRefused reader number offset = reader.state ≡ Refused number offset

-- it is in a form, or between forms
abbrev pub IsOpenReader : FormReader → Type 0
IsOpenReader reader = (state : State) × (reader.state ≡ Open state)

-- it ran out of memory
abbrev pub RanOutOfMemory : FormReader → Type 0
RanOutOfMemory reader = reader.state ≡ OutOfMemory

-- The outcome of a text that more bytes may change: it is empty, a form to the end of the text, or a refusal there.
abbrev pub MayGoOn : List ℕ → ReadingResult → Type 0
MayGoOn text empty = Unit {0}
MayGoOn text (form x start «end» next) = next ≡ length text
MayGoOn text (refused number offset) = offset ≡ length text

-- These bytes decide nothing alone: some byte after them is refused at its own offset, and at the end of the text they are not
-- refused so. Then no outcome is that of every text that begins with them: what they decide was answered before.
abbrev pub DecideNothing : Setting → List ℕ → Type 0
DecideNothing setting bytes =
    (c : ℕ) × ((number : ℕ) × (reads setting (bytes ++ c ∷ []) ≡ refused number (length bytes)) × (reads setting bytes ≡ refused number (length bytes) → ⊥))

-- It was fed nothing.
pub record IsNewReader (reader : FormReader) : Type 0 where
  pub start : reader.start ≡ 0
  pub at : reader.at ≡ 0
  pub stack : reader.stack ≡ []
  pub state : reader.state ≡ Open AtObject

-- It is between forms: nothing is open, and no attempt at an object has taken a byte.
pub record IsBetweenForms (reader : FormReader) : Type 0 where
  pub at : reader.at ≡ 0
  pub stack : reader.stack ≡ []
  pub state : reader.state ≡ Open AtObject

-- A reader that gave a form is between forms. Of other answers nothing is said.
abbrev pub LeavesBetween : FormReader → Advance → Type 0
LeavesBetween new (AdvanceForm datum start «end» next) = IsBetweenForms new
LeavesBetween new _ = Unit {0}

-- The reader is after these bytes, in this setting: what is read of them, with any text after them, is what it stands for with
-- this text. A reader that ran out of memory is after no bytes.
abbrev pub IsAfterIn : Setting → FormReader → ReaderState → List ℕ → Type 0
IsAfterIn setting reader (Open state) bytes =
    (fed reader ≡ length bytes)
    × ((cs : List ℕ) → reads setting (bytes ++ cs) ≡ rest_of_attempt setting reader.stack state reader.start reader.at cs)
IsAfterIn setting reader (Refused number offset) bytes = (cs : List ℕ) → reads setting (bytes ++ cs) ≡ refused number offset
IsAfterIn setting reader OutOfMemory bytes = ⊥

-- a reader is where it is after these bytes of a text
abbrev pub IsAfterBytes : Setting → FormReader → List ℕ → Type 0
IsAfterBytes setting reader bytes = IsAfterIn setting reader reader.state bytes

-- What a step answers, after which these bytes were fed: the reader is after them, and they decide nothing alone; or they begin
-- with a form, or are refused, whatever follows them. Where the form's next is the number of bytes, the last byte was taken;
-- where it is one less, that byte is for the next form. After a form the reader is new, and after no bytes, whatever is handed
-- to it then.
abbrev pub Steps : Setting → FormReader → List ℕ → Advance → Type 0
Steps setting reader bytes AdvanceMore =
    IsAfterBytes setting reader bytes × (fed reader ≡ length bytes) × MayGoOn bytes (reads setting bytes) × DecideNothing setting bytes
Steps setting reader bytes (AdvanceForm datum start «end» next) =
    ((cs : List ℕ) → reads setting (bytes ++ cs) ≡ form (object_of datum) start «end» next)
    × (is_proper datum ≡ true) × (next ≤ length bytes) × (length bytes ≤ next + 1) × IsNewReader reader × ((later : Setting) → IsAfterBytes later reader [])
Steps setting reader bytes (AdvanceRefused number offset) =
    ((cs : List ℕ) → reads setting (bytes ++ cs) ≡ refused number offset) × HasRefused reader number offset

-- What was open began where what is open after a step began, or before: of a form, its object, and of a refusal, what is refused;
-- after a form nothing is open.
abbrev pub BeginsLater : FormReader → FormReader → Advance → Type 0
BeginsLater old new AdvanceMore = (begun old ≤ begun new) × (begun new ≤ fed new)
BeginsLater old new (AdvanceForm datum start «end» next) = (begun old ≤ start) × (begun new ≡ 0)
BeginsLater old new (AdvanceRefused number offset) = (begun old ≤ begun new) × (begun new ≤ fed new)

-- this outcome, of a text that lies so many bytes further on
abbrev pub further : ℕ → ReadingResult → ReadingResult
further many (form x start «end» next) = form x (many + start) (many + «end») (many + next)
further many empty = empty
further many (refused number offset) = refused number (many + offset)

-- What these bytes have open begins at this offset: what is before it is discarded text, and from there on the text is read,
-- whatever follows, as it is alone. Its first byte is no whitespace, unless the limit of the text is 0.
pub record BeginsAt (setting : Setting) (bytes : List ℕ) (from : ℕ) : Type 0 where
  pub within : from ≤ length bytes
  pub discarded : reads setting (take from bytes) ≡ empty
  pub alone : (cs : List ℕ) → reads setting (bytes ++ cs) ≡ further from (reads setting (drop from bytes ++ cs))
  pub first : (c : ℕ) (cs : List ℕ) → drop from bytes ≡ c ∷ cs → 0 < setting.limits.text → is_whitespace setting.table c ≡ false

-- whatever follows these bytes, what decides the text begins at this offset
abbrev pub IsDecidedFrom : Setting → List ℕ → ℕ → Type 0
IsDecidedFrom setting bytes from = (cs : List ℕ) → decided_from setting (bytes ++ cs) ≡ from

-- It goes on after these bytes, and what it has open began where it says; where that has no byte, it is between forms. What decides the
-- text begins where the attempt that it is in says.
pub record HasBegunAfter (setting : Setting) (reader : FormReader) (bytes : List ℕ) : Type 0 where
  pub goes_on : IsOpenReader reader
  pub begins : BeginsAt setting bytes (begun reader)
  pub between : begun reader ≡ fed reader → IsBetweenForms reader
  pub decides : (state : State) → reader.state ≡ Open state
      → (cs : List ℕ) → decided_from setting (bytes ++ cs) ≡ start_of setting reader.start (state_gives setting reader.stack state reader.at cs)

-- where what is open after a step began, or what it refused, which decides the text; after a form the reader is new, whatever is handed
-- to it then
abbrev pub StepsBegun : Setting → FormReader → List ℕ → Advance → Type 0
StepsBegun setting reader bytes AdvanceMore = HasBegunAfter setting reader bytes
StepsBegun setting reader bytes (AdvanceForm datum start «end» next) = (later : Setting) → HasBegunAfter later reader []
StepsBegun setting reader bytes (AdvanceRefused number offset) =
    BeginsAt setting bytes (begun reader) × IsDecidedFrom setting bytes (begun reader)

-- What is answered is the outcome, and the object of a form is sound.
abbrev pub IsOutcome : ReadOutcome → ReadingResult → Type 0
IsOutcome (ReadForm datum start «end» next) o = (o ≡ form (object_of datum) start «end» next) × (is_proper datum ≡ true) × IsSound (object_of datum)
IsOutcome ReadEmpty o = o ≡ empty
IsOutcome (ReadRefused number offset) o = o ≡ refused number offset

-- where the text is refused at its end, what is refused begins at this offset
abbrev pub RefusesFrom : Setting → List ℕ → ℕ → ReadOutcome → Type 0
RefusesFrom setting bytes from (ReadRefused number offset) = decided_from setting bytes ≡ from
RefusesFrom setting bytes from _ = Unit {0}

-- how many bytes it was fed after a step: one more, or as many as before where it refuses; after a form none
abbrev pub CountsFedBytes : FormReader → FormReader → Advance → Type 0
CountsFedBytes old new AdvanceMore = fed new ≡ fed old + 1
CountsFedBytes old new (AdvanceForm datum start «end» next) = fed new ≡ 0
CountsFedBytes old new (AdvanceRefused number offset) = fed new ≡ fed old

-- of a form, the object is sound
abbrev pub IsSoundStep : Advance → Type 0
IsSoundStep (AdvanceForm datum start «end» next) = IsSound (object_of datum)
IsSoundStep _ = Unit {0}

-- what a change makes of a reader, and what is answered
abbrev pub Becomes : Change → FormReader → FormReader → Advance → Type 0
Becomes (Goes start at state) old new step =
    (step ≡ AdvanceMore) × (new.start ≡ start) × (new.at ≡ at) × (new.stack ≡ old.stack) × (new.state ≡ Open state)
Becomes (ChangeForm x start «end» next) old new (AdvanceForm datum s e n) =
    (object_of datum ≡ x) × (is_proper datum ≡ true) × (s ≡ start) × (e ≡ «end») × (n ≡ next)
    × (new.start ≡ 0) × (new.at ≡ 0) × (new.stack ≡ old.stack) × (new.state ≡ Open AtObject)
Becomes (ChangeForm x start «end» next) old new _ = ⊥
Becomes (ChangeRefused start number offset) old new step =
    (step ≡ AdvanceRefused number offset) × (new.state ≡ Refused number offset) × (new.start ≡ start) × (fed new ≡ fed old)

-- more bytes decide
abbrev pub is_more : Advance → Bool
is_more AdvanceMore = true
is_more _ = false

-- So many of the bytes are taken, one step after the other, after the bytes before: the last step answers this, and where it decides,
-- those before it had decided nothing.
pub record FeedsReader (setting : Setting) (reader : FormReader) (before bytes : List ℕ) (count : ℕ) (step : Advance) : Type 0 where
  pub steps : Steps setting reader (before ++ take count bytes) step
  pub undecided : is_more step ≡ false → 1 < count → DecideNothing setting (before ++ take (count - 1) bytes)

-- After so many steps, the last of which answers this: more bytes are so many more that were fed, and after a form none was. What was
-- open began where what is open then began, or before: of a form, its object. Of how many were fed as one is refused nothing is said.
abbrev pub AdvancesFed : FormReader → FormReader → ℕ → Advance → Type 0
AdvancesFed old new count AdvanceMore = (fed new ≡ fed old + count) × (begun old ≤ begun new) × (begun new ≤ fed new)
AdvancesFed old new count (AdvanceForm datum start «end» next) = (fed new ≡ 0) × (begun old ≤ start) × (begun new ≡ 0)
AdvancesFed old new count (AdvanceRefused number offset) = begun old ≤ begun new
