-- What is answered to messages with a name, among others, and what comes of them.
use Rattle.std.specs.Prelude.{ℕ, ◌==◌, nat_le, nat_lt, Bool, true, false, if◌then◌else◌, List, [], ◌∷◌, ◌++◌, fold, Option, None, Some, Result, Ok, Err, codes}
use Rattle.client_table.specs.Entries.{KeptMessage, admission_text, client_count, entry, entry_in, entry_property, entry_text, is_of, kept_message, leaving_text, table_package, message_symbol, entry_list}
use Rattle.client_table.specs.Names.{form_in, is_client_name, client_name_in}
use Rattle.client_table.specs.declared.asked.AnyRequest.{AnyRequest}
use Rattle.client_table.specs.declared.asked.AnyRequest.TheVariants as asked
use Rattle.client_table.specs.declared.entry.Standing.{Standing}
use Rattle.client_table.specs.declared.entry.Standing.TheVariants.{New, NoEntry, Old, Other, Last, Later}
use Rattle.client_table.specs.declared.asked.TheConstants.{NO_ENTRY, NO_FRAME, NO_ROOM, NOT_KEPT, OTHER_TEXT}
use Rattle.lisp_object.specs.Object.{Object}
use Rattle.messages.specs.MessageAnswers.{Round, answer_in, without_its_position, with_its_position, given_in, one_request, refusal_answer, refusal_text, with_answer, with_form_given, with_old, with_set}
use Rattle.plist_state.specs.State.{WorldState}
use Rattle.prevalence_store.specs.calls.ExecuteAll.{world_left_after, told_of}
use Rattle.prevalence_store.specs.meaning.Acceptance.{Acceptance, accepts}
use Rattle.session_words.specs.declared.mode.Mode.TheVariants.{Current, Rescue}
use Rattle.user_macros.specs.Functions.{Functions}

-- ---- a form of the store's own, and a message that is carried out

-- a round after a form of the store's own, which is no message; no answer is added
abbrev pub with_own_form : Functions → List ℕ → Round → Round
with_own_form functions text round = with_form_given (accepts functions round.left Rescue text) round

-- A round after this entry of a client was put in, with the record of the form that makes it: read in Rescue it does just
-- that, where the symbols are there.
abbrev pub with_entry_kept : List ℕ → ℕ → KeptMessage → Round → Round
with_entry_kept name number kept round = with_set (table_package, name) message_symbol (entry_list number kept) (entry_text name number kept) round

-- the answer to the form of a message, in the world of a round
abbrev pub answer_to_form : Functions → List ℕ → Round → List ℕ
answer_to_form functions form round = let given = accepts functions round.left Current form in answer_in (world_left_after round.left given) (told_of given)

-- A round with one message more. It is carried out as a message with a number is, and the last number stays. Then its
-- number, its form and its answer become the entry.
abbrev pub with_kept : Functions → ℕ → List ℕ → List ℕ → Round → Round
with_kept functions number name form round = with_entry_kept name number (kept_message form (answer_to_form functions form round)) (given_in functions round.last form round)

-- ---- by the table

-- the answer that is kept, again; or the refusal NOT-KEPT, where it is not kept
abbrev pub told_again : KeptMessage → List ℕ
told_again (Ok kept) = kept.1
told_again (Err count) = refusal_text NOT_KEPT (codes "NOT-KEPT")

-- the answer to the last message of a client, again; empty, where the client has no entry
abbrev pub last_told : Option (ℕ × KeptMessage) → List ℕ
last_told None = []
last_told (Some last) = told_again last.1

-- The first message of a client, by what the form that admits the client gives: it is carried out after that form, or
-- refused with its number.
abbrev pub by_admission : Functions → ℕ → List ℕ → List ℕ → Round → Result Acceptance ℕ → Round
by_admission functions number name form round (Ok given) = with_kept functions number name form (with_form_given (Ok given) round)
by_admission functions number name form round (Err refusal) = with_answer (refusal_answer refusal) false round

-- the first message of a client: its symbol is made before anything is carried out, if the table has room
abbrev pub with_first_message : Functions → ℕ → ℕ → List ℕ → List ℕ → Round → Round
with_first_message functions most number name form round =
    if nat_le most (client_count round.left) then with_answer (refusal_text NO_ROOM (codes "NO-ROOM")) false round
    else by_admission functions number name form round (accepts functions round.left Rescue (admission_text round.left name))

-- the client goes: its entry is taken out, and the answer is NIL
abbrev pub without_client : Functions → List ℕ → Round → Round
without_client functions name round = with_answer (codes "NIL") true (with_own_form functions (leaving_text round.left name) round)

-- a message over the last one, which is carried out; without a form the client goes
abbrev pub by_later : Functions → ℕ → List ℕ → Option (List ℕ) → Round → Round
by_later functions number name None round = without_client functions name round
by_later functions number name (Some form) round = with_kept functions number name form round

-- a message of a client that the table has not: its first one; without a form the client has gone already, and the answer is
-- NIL
abbrev pub by_no_entry : Functions → ℕ → ℕ → List ℕ → Option (List ℕ) → Round → Round
by_no_entry functions most number name None round = with_answer (codes "NIL") false round
by_no_entry functions most number name (Some form) round = with_first_message functions most number name form round

-- How a message stands to the table, by what stands where the entry of its client does: under the number of the entry it is old; at it the
-- last one, if its form is that of the entry, and else another; above it a later one. That a client goes is a later one at it too.
abbrev pub at_last : Option (List ℕ) → KeptMessage → Standing
at_last None kept = Later
at_last (Some form) kept = if is_of kept form then Last else Other

-- how a message of this number and form stands to an entry
abbrev pub standing_to : ℕ → Option (List ℕ) → ℕ × KeptMessage → Standing
standing_to number form last = if nat_lt number last.0 then Old else (if number == last.0 then at_last form last.1 else Later)

-- how it stands to what was read as an entry; NoEntry, where that is none
abbrev pub standing_by : ℕ → Option (List ℕ) → Option (ℕ × KeptMessage) → Standing
standing_by number form None = NoEntry
standing_by number form (Some last) = standing_to number form last

-- how it stands to what is there for the entry of its client; New, where nothing is
abbrev pub client_standing : ℕ → Option (List ℕ) → Option Object → Standing
client_standing number form None = New
client_standing number form (Some value) = standing_by number form (entry_in value)

-- a round with one message with a name more, by how it stands to the table
abbrev pub by_standing : Functions → ℕ → ℕ → List ℕ → Option (List ℕ) → Round → Standing → Round
by_standing functions most number name form round New = by_no_entry functions most number name form round
by_standing functions most number name form round NoEntry = with_answer (refusal_text NO_ENTRY (codes "NO-ENTRY")) false round
by_standing functions most number name form round Old = with_old round
by_standing functions most number name form round Other = with_answer (refusal_text OTHER_TEXT (codes "OTHER-TEXT")) false round
by_standing functions most number name form round Last = with_answer (last_told (entry round.left name)) false round
by_standing functions most number name form round Later = by_later functions number name form round

-- a round with one message with a name more, by the table
abbrev pub by_table : Functions → ℕ → ℕ → List ℕ → Option (List ℕ) → Round → Round
by_table functions most number name form round = by_standing functions most number name form round (client_standing number form (entry_property round.left name))

-- a round with one message with a name more; it is refused with NO-FRAME, where the name is none of a client
abbrev pub by_client : Functions → ℕ → ℕ → List ℕ → Option (List ℕ) → Round → Round
by_client functions most number name form round =
    if is_client_name name then by_table functions most number name form round
    else with_answer (refusal_text NO_FRAME (codes "NO-FRAME")) false round

-- a message with a name, of this number and text, in a table of at most so many clients: all of it in a world without the position
abbrev pub by_name : Functions → ℕ → ℕ → List ℕ → Round → Round
by_name functions most number text round = by_client functions most number (client_name_in text) (form_in text) (without_its_position round)

-- ---- one after the other: what all clients see is one order

-- a round with one request more, without a name or with one
abbrev pub one_asked : Functions → ℕ → Round → AnyRequest → Round
one_asked functions most round (asked.Request request) = one_request functions round request
one_asked functions most round (asked.Named message) = by_name functions most message.number message.text.now round

-- a round with all of these more, one after the other
abbrev pub each_asked : Functions → ℕ → Round → List AnyRequest → Round
each_asked functions most round all = fold (λ far one. one_asked functions most far one) round all

-- a whole round: all of these, one after the other, and then the position
abbrev pub all_answered : Functions → ℕ → Round → List AnyRequest → Round
all_answered functions most round all = with_its_position (each_asked functions most round all)
