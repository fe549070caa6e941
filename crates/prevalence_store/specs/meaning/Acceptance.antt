-- Which texts a world accepts as forms, and the world after a list of forms.
use Rattle.std.specs.Prelude.{ℕ, ◌==◌, ◌-◌, Bool, true, ◌&&◌, if◌then◌else◌, List, [], ◌∷◌, length, take, drop, Option, None, Some, Result, Ok, Err, unwrap_or}
use Rattle.std.specs.FinMap as finite
use Rattle.gate_log.specs.Layout.{LogRecord, form_limit}
use Rattle.lisp_object.specs.Object.{Object}
use Rattle.lisp_object.specs.declared.refusal.TheConstants.{END_OF_FILE, TEXT_LEFT_OVER}
use Rattle.readtable_core.specs.Tables.{Table, standard}
use Rattle.package_table.specs.Table.{Name, common_lisp_user}
use Rattle.plist_state.specs.State.{WorldState}
use Rattle.lisp_reading.specs.declared.limits.Limits.{Limits}
use Rattle.lisp_reading.specs.Setting.{Setting, setting_of}
use Rattle.lisp_reading.specs.Reading.{ReadingResult as Reading, form, empty, refused, reads}
use Rattle.lisp_operators.specs.Evaluation.{Evaluation}
use Rattle.evaluator.specs.Operators.{OperatorTable, operator_of}
use Rattle.form_eval.specs.Acceptance.{accept_over}
use Rattle.session_words.specs.declared.mode.Mode.{Mode}
use Rattle.session_words.specs.declared.mode.Mode.TheVariants.{Current, Rescue}
use Rattle.user_macros.specs.Functions.{Functions}
use Rattle.prevalence_store.specs.meaning.Forgetting.{forgetting, is_forgetting}
use Rattle.lisp_object.specs.declared.refusal.TheConstants.{ASSERTION_FAILED}
use Rattle.std.specs.Prelude.{◌≤◌}
pub use Rattle.session_words.specs.Kinds.{kind_of, mode_of}

-- What an accepted form gives: its value, the world that it leaves, whether it wrote anything, and the text of its object alone.
pub record Acceptance : Type 0 where
  pub value : Object
  pub world : WorldState
  pub wrote : Bool
  pub text : List ℕ

-- What may differ between programs, of one version or of two, in how a form is read and evaluated.
pub record Rules : Type 0 where
  -- the most bytes of a form, or of one discarded call before it
  pub text_limit : ℕ
  -- *READ-BASE* has a value, and is a place of SETF
  pub based : Bool
  -- which objects are operators, where these are the names of macro functions
  pub operators : List Name → OperatorTable
  -- FORGET-NAMES, as a whole form, takes names away
  pub forgets : Bool

-- the rules in force; `specs/meaning/BeforeOperators.antt` and `specs/meaning/Version1.antt` have earlier ones
abbrev pub rules_in_force : Rules
rules_in_force = record { text_limit = form_limit; based = true; operators = operator_of; forgets = true }

-- the limits of a form by these rules: bytes of the form, characters of a token, calls that are open
abbrev pub limits_by : Rules → Limits
limits_by by = record { text = by.text_limit; token = 4096; nesting = 100 }

-- the limits of a form, by the rules in force
abbrev pub form_limits : Limits
form_limits = limits_by rules_in_force

-- the readtable under which a text is read: the world's current one; or, to get out of a readtable that has become unusable,
-- the standard one
abbrev pub table_in : WorldState → Mode → Table
table_in world Current = unwrap_or (finite.get world.readtables world.current_readtable) standard
table_in world Rescue = standard

-- the package in which a text is read: the world's current one; in Rescue COMMON-LISP-USER
abbrev pub package_in : WorldState → Mode → Name
package_in world Current = world.current_package
package_in world Rescue = common_lisp_user

-- the base in which the numbers of a text are read: the world's; in Rescue 10
abbrev pub base_in : WorldState → Mode → ℕ
base_in world Current = world.read_base
base_in world Rescue = 10

-- under what a text is read by these rules, in this world and mode
abbrev pub setting_by : Rules → Functions → WorldState → Mode → Setting
setting_by by functions world mode =
    setting_of (limits_by by) (table_in world mode) (base_in world mode) world.packages (package_in world mode) functions

-- under what a text is read in this world and mode, by the rules in force
abbrev pub setting_in : Functions → WorldState → Mode → Setting
setting_in functions world mode = setting_by rules_in_force functions world mode

-- what a text begins with, as it is read by these rules in this world and mode
abbrev pub read_by : Rules → Functions → WorldState → Mode → List ℕ → Reading
read_by by functions world mode text = reads (setting_by by functions world mode) text

-- what a text begins with, as it is read in this world and mode, by the rules in force
abbrev pub read_in : Functions → WorldState → Mode → List ℕ → Reading
read_in functions world mode text = read_by rules_in_force functions world mode text

-- the bytes from one offset to another
abbrev pub between : ℕ → ℕ → List ℕ → List ℕ
between start end text = take (end - start) (drop start text)

-- What a form gives as one transaction: its value, the world after it and whether it wrote, or the number of its refusal.
-- FORGET-NAMES, where the rules have it, is carried out before its symbols are interned. Any other form has its symbols
-- interned, and is then evaluated.
abbrev pub transacted_by : Rules → List Name → WorldState → Object → Evaluation Object
transacted_by by names world x =
    if by.forgets && is_forgetting x then forgetting world else accept_over by.based (by.operators names) world x

-- what a form gives as one transaction, by the rules in force
abbrev pub transaction_value : List Name → WorldState → Object → Evaluation Object
transaction_value = transacted_by rules_in_force

-- what evaluation gave for the object of this text, or the number of a refusal
abbrev pub acceptance_of : List ℕ → Evaluation Object → Result Acceptance ℕ
acceptance_of text (Ok done) = Ok (record { value = done.value; world = done.state; wrote = done.wrote; text = text })
acceptance_of text (Err number) = Err number

-- What a text gives that was read so: what its form gives as one transaction. A text without a form is refused, and one with
-- more after it.
abbrev pub accepted_reading : Rules → Functions → WorldState → List ℕ → Reading → Result Acceptance ℕ
accepted_reading by functions world text (form object start end next) =
    if next == length text then acceptance_of (between start end text) (transacted_by by functions.names world object)
    else Err TEXT_LEFT_OVER
accepted_reading by functions world text empty = Err END_OF_FILE
accepted_reading by functions world text (refused number at) = Err number

-- what a text gives that was read so, by the rules in force
abbrev pub accepted_of : Functions → WorldState → List ℕ → Reading → Result Acceptance ℕ
accepted_of functions world text read = accepted_reading rules_in_force functions world text read

-- What a text gives in a world by these rules: it is read whole, and its form is carried out as one transaction.
abbrev pub accepts_by : Rules → Functions → WorldState → Mode → List ℕ → Result Acceptance ℕ
accepts_by by functions world mode text = accepted_reading by functions world text (read_by by functions world mode text)

-- What a text gives in a world, by the rules in force: it is read whole, and its form is carried out as one transaction.
abbrev pub accepts : Functions → WorldState → Mode → List ℕ → Result Acceptance ℕ
accepts functions world mode text = accepts_by rules_in_force functions world mode text

-- the record of a form that was accepted
abbrev pub accepted_record : Mode → List ℕ → LogRecord
accepted_record mode text = record { kind = kind_of mode; text = text }

-- the records of a form that was accepted: one if it wrote, and else none
abbrev pub records_of : Bool → Mode → List ℕ → List LogRecord
records_of wrote mode text = if wrote then accepted_record mode text ∷ [] else []

-- The world after these records, each accepted by these rules in the world that the ones before it left. None if one is not
-- accepted.
abbrev pub after_by : Rules → Functions → WorldState → List LogRecord → Option WorldState
after_by by functions world [] = Some world
after_by by functions world (entry ∷ entries) =
    elim (accepts_by by functions world (mode_of entry.kind) entry.text) [ Ok given ↦ after_by by functions given.world entries | Err number ↦ None ]

-- The world after these records, each accepted by the rules in force in the world that the ones before it left. None if one
-- is not accepted.
abbrev pub after : Functions → WorldState → List LogRecord → Option WorldState
after functions world entries = after_by rules_in_force functions world entries

-- The number under which the first of these records that is not accepted is refused. None if all are accepted.
abbrev pub first_refusal : Functions → WorldState → List LogRecord → Option ℕ
first_refusal functions world [] = None
first_refusal functions world (entry ∷ entries) =
    elim (accepts functions world (mode_of entry.kind) entry.text) [ Ok given ↦ first_refusal functions given.world entries | Err number ↦ Some number ]

-- the numbers under which a form is refused, of reading and of evaluation: from 1 to 47
pub record IsFormNumber (number : ℕ) : Type 0 where
  pub from : END_OF_FILE ≤ number
  pub to : number ≤ ASSERTION_FAILED
