-- The table of clients: for each client the number of its last message, with its form and its answer, a property of the symbol of its name;
-- and the store's own forms that change the table.
use Rattle.std.specs.Prelude.{All, ℕ, ◌+◌, ◌-◌, ◌<◌, ◌^◌, ◌==◌, nat_le, pos, Bool, true, false, ◌&&◌, if◌then◌else◌, bytes_eq, List, [], ◌∷◌, ◌++◌, length, Option, None, Some, option_and_then, option_map, unwrap_or, Result, Ok, Err, codes, decimal}
use Rattle.std.specs.List.{list_all}
use Rattle.std.specs.FinMap as finite
use Rattle.canon_printer.specs.Written.{printed_text}
use Rattle.client_table.specs.declared.asked.TheConstants.{KEPT_BYTES}
use Rattle.lisp_object.specs.Ascii.{is_ascii}
use Rattle.lisp_object.specs.Object.{Object, integer, is_nil, list_of, pair, symbol, text}
use Rattle.messages.specs.Position.{number_of_object}
use Rattle.package_table.specs.Table.{Name}
use Rattle.plist_state.specs.Changes.{property}
use Rattle.plist_state.specs.Properties.{Symbol}
use Rattle.plist_state.specs.Sound.{IsSymbol}
use Rattle.plist_state.specs.State.{WorldState}

-- ---- what is kept

-- the package of the table: a client is a symbol of it
abbrev pub table_package : Name
table_package = codes "%CLIENTS"

-- the indicator of an entry; and under another indicator this symbol has the number of clients
abbrev pub message_symbol : Symbol
message_symbol = (table_package, codes "%MESSAGE")

-- the indicator under which `message_symbol` has the number of clients
abbrev pub clients_symbol : Symbol
clients_symbol = (table_package, codes "%CLIENTS")

-- a form and its answer; or, if one of them may not be kept, how many bytes the form has
abbrev pub KeptMessage : Type 0
KeptMessage = Result (List ℕ × List ℕ) ℕ

-- whether a form or an answer may be kept: it is short, and each byte is a character of a text
abbrev pub may_be_kept : List ℕ → Bool
may_be_kept bytes = nat_le (length bytes) KEPT_BYTES && list_all is_ascii bytes

-- what is kept of a form and its answer
abbrev pub kept_message : List ℕ → List ℕ → KeptMessage
kept_message form answer = if may_be_kept form && may_be_kept answer then Ok (form, answer) else Err (length form)

-- what is kept may stand in a form: its bytes are characters, and its number is one of a machine
abbrev pub MayStand : KeptMessage → Type 0
MayStand (Ok kept) = All (λ b. b < 128) kept.0 × All (λ b. b < 128) kept.1
MayStand (Err count) = count < 2 ^ 64

-- Whether this is kept of this form. Of a form that is not kept only its length is known.
abbrev pub is_of : KeptMessage → List ℕ → Bool
is_of (Ok kept) form = bytes_eq kept.0 form
is_of (Err count) form = count == length form

-- what is kept, as objects: the form and the answer; or the length and an empty text
abbrev pub kept_objects : KeptMessage → List Object
kept_objects (Ok kept) = text kept.0 ∷ text kept.1 ∷ []
kept_objects (Err count) = integer (pos count) ∷ text [] ∷ []

-- the entry as an object: the list of the number and of what is kept
abbrev pub entry_list : ℕ → KeptMessage → Object
entry_list number kept = list_of (integer (pos number) ∷ kept_objects kept)

-- what a form and an object say of an answer that is kept; None, where the object is no text
abbrev pub whole_with : List ℕ → Object → Option KeptMessage
whole_with form (text answer) = Some (Ok (form, answer))
whole_with form _ = None

-- what is kept by two objects, a form and its answer or a length; None, where they are neither
abbrev pub kept_in : Object → Object → Option KeptMessage
kept_in (text form) answer = whole_with form answer
kept_in count _ = option_map (λ n. Err n) (number_of_object count)

-- the entry of these three objects, if their list ends after them; None, where the first is no number or the others keep
-- nothing
abbrev pub entry_of_three : Bool → Object → Object → Object → Option (ℕ × KeptMessage)
entry_of_three true number form answer = option_and_then (λ n. option_map (λ kept. (n, kept)) (kept_in form answer)) (number_of_object number)
entry_of_three false number form answer = None

-- the entry that an object is; None, where it is no list of three such objects
abbrev pub entry_in : Object → Option (ℕ × KeptMessage)
entry_in (pair number (pair form (pair answer (symbol home name)))) = entry_of_three (is_nil home name) number form answer
entry_in _ = None

-- what is there for the entry of a client, whatever it is; None, where nothing is
abbrev pub entry_property : WorldState → List ℕ → Option Object
entry_property world name = property world (table_package, name) message_symbol

-- the entry of a client; None, where nothing is there for it, or no entry
abbrev pub entry : WorldState → List ℕ → Option (ℕ × KeptMessage)
entry world name = option_and_then entry_in (entry_property world name)

-- the two symbols of a client's entry are there
abbrev pub HasEntrySymbols : WorldState → List ℕ → Type 0
HasEntrySymbols world name = IsSymbol world.packages (table_package, name) × IsSymbol world.packages message_symbol

-- how many clients the table has, by the number that it keeps; 0, where it keeps none
abbrev pub client_count : WorldState → ℕ
client_count world = unwrap_or (option_and_then number_of_object (property world message_symbol clients_symbol)) 0

-- ---- the store's own forms, which are read in Rescue

-- A symbol of the table as a form. Where a name stands in a text, and not between bars, the form is plain, and is read quickly.
abbrev pub client_text : List ℕ → List ℕ
client_text name = codes "(INTERN " ++ printed_text name ++ codes " " ++ printed_text table_package ++ codes ")"

-- what is kept, as the form has it that puts an entry in
abbrev pub kept_text : KeptMessage → List ℕ
kept_text (Ok kept) = codes " " ++ printed_text kept.0 ++ codes " " ++ printed_text kept.1
kept_text (Err count) = codes " " ++ decimal count ++ codes " " ++ printed_text []

-- the form that puts an entry in
abbrev pub entry_text : List ℕ → ℕ → KeptMessage → List ℕ
entry_text name number kept =
    codes "(SETF (GET " ++ client_text name ++ codes " " ++ client_text (codes "%MESSAGE") ++ codes ") '(" ++ decimal number ++ kept_text kept ++ codes "))"

-- the place of the number of clients, and a number of these digits
abbrev pub client_count_text : List ℕ → List ℕ
client_count_text digits = codes "(GET " ++ client_text (codes "%MESSAGE") ++ codes " " ++ client_text (codes "%CLIENTS") ++ codes ") " ++ digits ++ codes ")"

-- the form that takes the entry of a client out, and counts one client fewer
abbrev pub leaving_text : WorldState → List ℕ → List ℕ
leaving_text world name =
    codes "(PROGN (REMPROP " ++ client_text name ++ codes " " ++ client_text (codes "%MESSAGE") ++ codes ") (SETF " ++ client_count_text (decimal (client_count world - 1)) ++ codes ")"

-- what makes the package of the table, where it is not there yet
abbrev pub package_text : Bool → List ℕ
package_text is_there = if is_there then [] else codes "(MAKE-PACKAGE \"%CLIENTS\") "

-- The form that makes the symbol of a client that has no entry, and counts one client more; before the first client it makes
-- the package. The client has an entry from then on, so that its symbol is not forgotten.
abbrev pub admission_text : WorldState → List ℕ → List ℕ
admission_text world name =
    codes "(PROGN " ++ package_text (finite.contains_key world.packages table_package) ++ codes "(SETF " ++ client_count_text (decimal (client_count world + 1))
    ++ codes " (SETF (GET " ++ client_text name ++ codes " " ++ client_text (codes "%MESSAGE") ++ codes ") '(0 0 \"\")))"
