-- A message with a name whose text was taken apart: by its name and its form.
use Rattle.std.specs.Prelude.{◌≡◌, ℕ, List, Option, None, Some, IsSome, Result, Ok, Err}
use Rattle.client_table.specs.CallsByName.{IsAmissAt}
use Rattle.client_table.specs.Entries.{admission_text, entry_property}
use Rattle.client_table.specs.declared.asked.TheConstants.{NO_ENTRY}
use Rattle.lisp_object.specs.Object.{Object}
use Rattle.messages.specs.MessageAnswers.{Round, with_form_given}
use Rattle.prevalence_store.specs.meaning.Acceptance.{Acceptance, accepts}
use Rattle.session_words.specs.declared.mode.Mode.TheVariants.{Rescue}
use Rattle.user_macros.specs.Functions.{Functions}

-- as `RefusesNamed` of specs/CallsByName.antt, in a world without the position
abbrev pub RefusesMessageAt : Functions → List ℕ → Option (List ℕ) → Round → ℕ → Type 0
RefusesMessageAt functions name form round refusal = (refusal ≡ NO_ENTRY) × IsAmissAt functions name form round

-- the number with which a form was refused; None, where it was not
abbrev pub refusal_of : Result Object ℕ → Option ℕ
refusal_of (Ok value) = None
refusal_of (Err number) = Some number

-- by what the form that admits a client gives: it was carried out, and the client has an entry then; or nothing was done
abbrev pub IsAdmittedBy : List ℕ → Result Acceptance ℕ → Round → Round → Option ℕ → Type 0
IsAdmittedBy name (Ok given) round after refusal = (refusal ≡ None) × (after ≡ with_form_given (Ok given) round) × IsSome (entry_property after.left name)
IsAdmittedBy name (Err number) round after refusal = (refusal ≡ Some number) × (after ≡ round)

-- a client was admitted by the form that makes its entry, or refused with this number
abbrev pub IsAdmitted : Functions → List ℕ → Round → Round → Option ℕ → Type 0
IsAdmitted functions name round after refusal = IsAdmittedBy name (accepts functions round.left Rescue (admission_text round.left name)) round after refusal
