-- A round in memory, and what is asked of its records.
use Rattle.std.specs.Prelude.{◌≡◌, ℕ, pos, Bool, true, List, [], ◌∷◌, length, map, None, Some, IsSome, codes}
use Rattle.std.specs.List.{AllByRecursion}
use Rattle.gate_log.specs.Layout.{IsLogRecord}
use Rattle.form_eval.specs.Laws.{MayEvaluate}
use Rattle.form_eval.specs.declared.read_form.ReadForm.{ReadForm}
use Rattle.lisp_object.specs.Datum.{object_of}
use Rattle.lisp_object.specs.declared.datum.Datum.{Datum}
use Rattle.lisp_object.specs.declared.datum.Datum.TheVariants as datum
use Rattle.lisp_reading.specs.Reading.{form}
use Rattle.package_table.specs.Symbols.{are_there}
use Rattle.package_table.specs.Table.{common_lisp, common_lisp_user}
use Rattle.plist_state.specs.State.{WorldState}
use Rattle.messages.specs.declared.own.Own.{Own}
use Rattle.messages.specs.declared.own.Own.TheVariants.{Clearing, Position}
use Rattle.prevalence_store.specs.declared.failure.Unadded.{Unadded}
use Rattle.prevalence_store.specs.declared.failure.Unadded.TheVariants.{OutOfMemory, Refused}
use Rattle.session_words.specs.declared.mode.Mode.TheVariants.{Rescue}
use Rattle.messages.specs.declared.request.RequestAnswer.{RequestAnswer}
use Rattle.messages.specs.declared.round.Round.{Round as Held}
use Rattle.prevalence_store.specs.meaning.Acceptance.{after, read_in}
use Rattle.messages.specs.MessageAnswers.{Round}
use Rattle.messages.specs.Position.{own_form, own_text, position_property}
use Rattle.prevalence_store.specs.steps.Batch.{entries_in}
use Rattle.user_macros.specs.Functions.{Functions}

-- the text of an answer, and whether its message wrote
abbrev pub told_in : RequestAnswer → List ℕ × Bool
told_in answer = (answer.text.items, answer.wrote)

-- a round as it is held in memory, with this world
abbrev pub round_in : Held → WorldState → Round
round_in held world = record {
  told = map told_in held.answers.items;
  last = held.last;
  left = world;
  entries = entries_in held.batch;
  wrote = held.wrote;
}

-- The records of a round make the world after it, from this one on, and each fits the log.
pub record MayBeLogged (functions : Functions) (first : WorldState) (round : Round) : Type 0 where
  pub again : after functions first round.entries ≡ Some round.left
  pub fit : AllByRecursion IsLogRecord round.entries

-- if the records of a round may be logged, those of the later one may be
abbrev pub StaysMade : Functions → Round → Round → Type 0
StaysMade functions before later = (first : WorldState) → MayBeLogged functions first before → MayBeLogged functions first later

-- what holds of the number, if a form was not added because it is refused; of want of memory nothing is said
abbrev pub IfRefused : Unadded → (ℕ → Type 0) → Type 0
IfRefused (Refused number) holds = holds number
IfRefused OutOfMemory holds = Unit {0}

-- ---- a form of the store's own

-- what a form of the store's own needs in the world: the one that takes the position out needs a position, the one that sets
-- it needs nothing
abbrev pub IsPositionNeeded : Own → WorldState → Type 0
IsPositionNeeded Clearing world = IsSome (position_property world)
IsPositionNeeded (Position n) world = Unit {0}

-- a call of an operator of COMMON-LISP, as a datum
abbrev pub call_datum : List ℕ → List Datum → Datum
call_datum operator arguments = datum.List (datum.Symbol common_lisp operator ∷ arguments) None

-- the position's symbol, quoted
abbrev pub quoted_datum : Datum
quoted_datum = call_datum (codes "QUOTE") (datum.Symbol common_lisp_user (codes "position") ∷ [])

-- a form of the store's own, as a datum
abbrev pub own_datum : Own → Datum
own_datum Clearing = call_datum (codes "REMPROP") (quoted_datum ∷ quoted_datum ∷ [])
own_datum (Position n) = call_datum (codes "SETF") (call_datum (codes "GET") (quoted_datum ∷ quoted_datum ∷ []) ∷ datum.Integer (pos n) ∷ [])

-- A form of the store's own was read from its text in this world, whose packages have each symbol of it.
pub record IsOwnForm (functions : Functions) (own : Own) (world : WorldState) (read : ReadForm) (text : List ℕ) : Type 0 where
  pub own_is : text ≡ own_text own
  pub reads : read_in functions world Rescue text ≡ form (own_form own) 0 (length text) (length text)
  pub object : object_of read.datum ≡ own_form own
  pub all_there : are_there world.packages (own_form own) ≡ true
  pub may : MayEvaluate world.packages read
