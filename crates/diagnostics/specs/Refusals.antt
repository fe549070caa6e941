-- The refusal that ended a session, and what is told of it.
use Rattle.std.specs.Prelude.{◌≡◌, ℕ, ◌+◌, ◌-◌, ◌^◌, min, List, [], ◌∷◌, ◌++◌, Option, None, Some, codes, decimal}
use Rattle.lisp_object.specs.Refusal.{name_of}
use Rattle.sessions.specs.declared.ending.Ended.{Ended}
use Rattle.sessions.specs.declared.ending.Ended.TheVariants as ways
use Rattle.sessions.specs.declared.ending.Place.{Place}
use Rattle.diagnostics.specs.declared.refusal.Refusal.{Refusal}
use Rattle.diagnostics.specs.declared.refusal.Spots.{Spots}

-- which form was refused, counted from 1
abbrev pub form_of : Refusal → ℕ
form_of refusal = min (refusal.place.forms + 1) (2 ^ 64 - 1)

-- the line and the column of a refusal
abbrev pub spot_text : (line column : ℕ) → List ℕ
spot_text line column = codes "line " ++ (decimal line ++ (codes ", column " ++ (decimal column ++ codes ": ")))

-- a number, its name, and which form it was
abbrev pub refused_text : (number form : ℕ) → List ℕ
refused_text number form = codes "refused with " ++ (decimal number ++ (codes " " ++ (name_of number ++ (codes " in form " ++ (decimal form ++ codes ", ")))))

-- the end of a line on a refusal: where the form began that was refused
abbrev pub start_text : (line column : ℕ) → List ℕ
start_text line column = codes "which began at line " ++ (decimal line ++ (codes ", column " ++ (decimal column ++ 10 ∷ [])))

-- a refusal with its line and its column
abbrev pub place_line : ℕ → ℕ → Spots → List ℕ
place_line number form spots = spot_text spots.at.line spots.at.column ++ (refused_text number form ++ start_text spots.start.line spots.start.column)

-- a place in bytes, if no lines are known
abbrev pub byte_text : ℕ → List ℕ
byte_text bytes = codes "after " ++ (decimal bytes ++ codes " bytes: ")

-- where the refused form began, in bytes
abbrev pub start_byte_text : ℕ → List ℕ
start_byte_text bytes = codes "which began after " ++ (decimal bytes ++ (codes " bytes" ++ 10 ∷ []))

-- a refusal with its offset in bytes, where its line is not known
abbrev pub byte_line : ℕ → ℕ → Place → List ℕ
byte_line number form place = byte_text place.at ++ (refused_text number form ++ start_byte_text place.start)

-- the line on a refusal: by lines and columns where they are known, and else by bytes
abbrev pub line_with : ℕ → ℕ → Place → Option Spots → List ℕ
line_with number form place None = byte_line number form place
line_with number form place (Some spots) = place_line number form spots

-- the line of a refusal
abbrev pub line_of : Refusal → List ℕ
line_of refusal = line_with refusal.number (form_of refusal) refusal.place refusal.spots

-- the number of a refusal, before what is told of it
abbrev pub number_text : ℕ → List ℕ
number_text number = decimal number ++ codes ": "

-- where the refused form began
abbrev pub start_with : Place → Option Spots → List ℕ
start_with place None = byte_text place.start
start_with place (Some spots) = spot_text spots.start.line spots.start.column

-- where a form that was refused begins, and the number
abbrev pub before_text : Refusal → List ℕ
before_text refusal = start_with refusal.place refusal.spots ++ number_text refusal.number

-- where more is told of the number
abbrev pub after_text : ℕ → List ℕ
after_text number = codes " (help " ++ (decimal number ++ codes ")\n")

-- what is told of a form that was refused, where this text is what it is about
abbrev pub form_line : Refusal → List ℕ → List ℕ
form_line refusal text = before_text refusal ++ (text ++ after_text refusal.number)

-- a session that ended so ended with this refusal, or with none
abbrev pub IsRefusalOf : Ended → Option Refusal → Type 0
IsRefusalOf ways.End given = given ≡ None
IsRefusalOf (ways.Unreadable number place) given = (refusal : Refusal) × (given ≡ Some refusal) × (refusal.number ≡ number) × (refusal.place ≡ place)
IsRefusalOf (ways.Unaccepted number place) given = (refusal : Refusal) × (given ≡ Some refusal) × (refusal.number ≡ number) × (refusal.place ≡ place)
IsRefusalOf (ways.Store number) given = given ≡ None
