-- What a text begins with, to those who read it, and what it is as one form.
use Rattle.std.specs.Prelude.{◌≡◌, ℕ, ◌<◌, ◌≤◌, List, length, true, Err}
use Rattle.form_eval.specs.Laws.{MayEvaluate}
use Rattle.form_eval.specs.declared.read_form.ReadForm.{ReadForm}
use Rattle.lisp_object.specs.Datum.{object_of}
use Rattle.package_table.specs.Table.{Table}
use Rattle.package_table.specs.Symbols.{are_there}
use Rattle.form_reader.specs.declared.reader.ReadOutcome.{ReadOutcome}
use Rattle.form_reader.specs.declared.reader.ReadOutcome.TheVariants.{Form, Empty, Refused}
use Rattle.lisp_reading.specs.Reading.{form}
use Rattle.plist_state.specs.State.{WorldState}
use Rattle.session_words.specs.declared.mode.Mode.{Mode}
use Rattle.prevalence_store.specs.declared.setting.WholeText.{WholeText}
use Rattle.prevalence_store.specs.declared.setting.WholeText.TheVariants as whole
use Rattle.prevalence_store.specs.meaning.Acceptance.{accepts, read_in}
use Rattle.user_macros.specs.Functions.{Functions}

-- if it is a form, each symbol of it is one of the packages
abbrev pub SymbolsAreThere : Table → ReadOutcome → Type 0
SymbolsAreThere packages (Form datum start «end» next) = are_there packages (object_of datum) ≡ true
SymbolsAreThere packages Empty = Unit {0}
SymbolsAreThere packages (Refused code at) = Unit {0}

-- The text is this form, which may be evaluated in this world; its own text goes from one offset to the other.
pub record IsWholeForm (functions : Functions) (world : WorldState) (mode : Mode) (text : List ℕ) (read : ReadForm) (start stop : ℕ) : Type 0 where
  pub reads : read_in functions world mode text ≡ form (object_of read.datum) start stop (length text)
  pub order : start < stop
  pub within : stop ≤ length text
  pub may : MayEvaluate world.packages read

-- the text is a form, or it is refused with this number
abbrev pub IsTextReadWhole : Functions → WorldState → Mode → List ℕ → WholeText → Type 0
IsTextReadWhole functions world mode text (whole.Form read start stop) = IsWholeForm functions world mode text read start stop
IsTextReadWhole functions world mode text (whole.Refused number) = accepts functions world mode text ≡ Err number
