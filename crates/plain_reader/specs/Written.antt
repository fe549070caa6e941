-- GET of the property of two quoted symbols, and SETF of it to a literal, by the names that stand in the text: their objects, and what each call takes.
use Rattle.std.specs.Prelude.{◌≡◌, ℕ, Bool, true, if◌then◌else◌, List, [], ◌∷◌, ◌++◌, Ok, codes}
use Rattle.lisp_object.specs.Object.{Object, symbol, list_of}
use Rattle.lisp_object.specs.Datum.{object_of}
use Rattle.package_table.specs.Resolving.{found_at, resolution}
use Rattle.package_table.specs.Table.{Name, common_lisp}
use Rattle.std_macros.specs.Values.{headed}
use Rattle.user_macros.specs.Functions.{Functions}
use Rattle.lisp_reading.specs.declared.attempt.Found.TheVariants.{One as one}
use Rattle.lisp_reading.specs.Plans.{gives}
use Rattle.lisp_reading.specs.Reading.{attempt}
use Rattle.plain_reader.specs.declared.context.PlainContext.{PlainContext}
use Rattle.plain_reader.specs.declared.literal.Literal.{Literal}
use Rattle.plain_reader.specs.Coming.{ReadsOnAs}
use Rattle.plain_reader.specs.Plain.{setting, items_from, Gathers}

-- the symbol of COMMON-LISP with this name
abbrev pub lisp : List ℕ → Object
lisp name = symbol common_lisp name

-- (QUOTE x)
abbrev pub quote_of : Object → Object
quote_of x = headed (codes "QUOTE") x

-- a literal as it is written
abbrev pub literal_of : Literal → Object
literal_of l = if l.is_quoted then quote_of (object_of l.datum) else object_of l.datum

-- the current package finds by this name the symbol of this home
abbrev pub FindsSymbol : PlainContext → Name → List ℕ → Type 0
FindsSymbol with home name = resolution with.packages.now.0 with.current.now name ≡ Ok (found_at home)

-- the arguments of GET: 'symbol 'indicator, by their homes and names
abbrev pub arguments_at : Name → List ℕ → Name → List ℕ → List Object
arguments_at h x i y = quote_of (symbol h x) ∷ quote_of (symbol i y) ∷ []

-- (GET 'symbol 'indicator)
abbrev pub get_form_at : Name → List ℕ → Name → List ℕ → Object
get_form_at h x i y = list_of (lisp (codes "GET") ∷ arguments_at h x i y)

-- (SETF (GET 'symbol 'indicator) literal)
abbrev pub setf_at : Name → List ℕ → Name → List ℕ → Literal → Object
setf_at h x i y l = list_of (lisp (codes "SETF") ∷ get_form_at h x i y ∷ literal_of l ∷ [])

-- ---- what each call takes from the text

-- an attempt at an object where so many calls may be opened takes this from the text, whatever the functions are
abbrev pub TakesObject : PlainContext → ℕ → List ℕ → Bool → Object → List ℕ → Type 0
TakesObject with room text token x rest =
    (functions : Functions) → ReadsOnAs (setting with functions) (attempt (setting with functions) room) text (gives (one token x)) rest

-- the items of a list go on from this text with these
abbrev pub TakesItems : PlainContext → ℕ → List ℕ → List Object → List ℕ → Type 0
TakesItems with room text ys rest = (xs : List Object) → Gathers with room xs text (xs ++ ys) rest

-- these are the last items of a list, whose end comes after them
abbrev pub EndsList : PlainContext → ℕ → List ℕ → List Object → List ℕ → Type 0
EndsList with room text ys rest =
    (xs : List Object) (functions : Functions)
    → ReadsOnAs (setting with functions) (items_from (setting with functions) room xs) text (gives (xs ++ ys, true)) rest
