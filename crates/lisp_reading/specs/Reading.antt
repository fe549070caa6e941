-- Reading (standard 2.2, 2.4): objects, the calls of macro characters, and the outermost form.
use Rattle.std.specs.Prelude.{ℕ, ◌≡◌, ◌<◌, ◌≤◌, take, drop, zero, suc, ◌+◌, ◌-◌, ◌==◌, nat_le, Bool, true, false, ◌&&◌, if◌then◌else◌, List, [], ◌∷◌, ◌++◌, length, Option, Some, None, Result, Ok, Err}
use Rattle.lisp_object.specs.Object.{Object, object_depth}
use Rattle.lisp_object.specs.declared.refusal.TheConstants.{END_OF_FILE, INVALID_CHARACTER, DOT_CONTEXT, NO_DISPATCH, MACRO_REFUSED, MACRO_ANSWER, TOO_DEEP, OUT_OF_PROFILE}
use Rattle.readtable_core.specs.Characters.{upper_case}
use Rattle.readtable_core.specs.Tables.{Table, entry_at, dispatch_at}
use Rattle.readtable_core.specs.Names.{is_dispatch_name}
use Rattle.readtable_core.specs.declared.characters.Syntax.{Syntax}
use Rattle.readtable_core.specs.declared.characters.Syntax.TheVariants.{Whitespace, Constituent, TerminatingMacro, NonTerminatingMacro, SingleEscape, MultipleEscape, Invalid}
use Rattle.token_scan.specs.declared.mark.Mark.{Mark}
use Rattle.user_macros.specs.Calls.{MacroAnswer, value, no_value, improper, refused as answer_refused}
use Rattle.std_macros.specs.declared.refusal.StdRefusal.{StdRefusal}
use Rattle.std_macros.specs.declared.refusal.StdRefusal.TheVariants.{StrayClose, OutOfProfile, NumericArgument}
use Rattle.std_macros.specs.Values.{Value, value_of, Material, nothing as no_material, one as one_object, many, dotted, letters, marked}
use Rattle.std_macros.specs.Results.{std_refusal_number}
use Rattle.lisp_reading.specs.declared.attempt.Found.{Found}
use Rattle.lisp_reading.specs.declared.attempt.Found.TheVariants.{Nothing as nothing, One as one, LoneDot as lone_dot, TheEnd as the_end}
use Rattle.lisp_reading.specs.declared.token_resolution.ResolvedToken.{ResolvedToken}
use Rattle.lisp_reading.specs.declared.token_resolution.ResolvedToken.TheVariants.{Object as told_object, Dot as dot_alone}
use Rattle.lisp_reading.specs.declared.way.Function.{Function}
use Rattle.lisp_reading.specs.declared.way.Function.TheVariants.{Standard as AStandard, User}
use Rattle.lisp_reading.specs.declared.way.Keep.{Keep}
use Rattle.lisp_reading.specs.declared.way.Way.{Way}
use Rattle.lisp_reading.specs.declared.way.Way.TheVariants.{Nothing, Next, List as AList, Until, Text, Line, Block, Token, EscapedToken}
use Rattle.package_table.specs.Table.{Table as Packages}
use Rattle.lisp_reading.specs.Plans.{Plan, gives, refuses, takes, scans, then_plan, next_byte, loop, Read, run}
use Rattle.lisp_reading.specs.Setting.{Setting, macro_call, way_in, function_of}
use Rattle.lisp_reading.specs.InvokedCalls.{InvokedCall}
use Rattle.lisp_reading.specs.Naming.{token_meant}
use Rattle.lisp_reading.specs.Answering.{may_be_answered}
use Rattle.lisp_reading.specs.Gathering.{text_turn, line_turn, block_turn, number_turn}

-- the characters up to the terminator, after these
abbrev pub text_to : Setting → ℕ → List ℕ → Plan (List ℕ)
text_to setting terminator cs = loop setting.limits (text_turn setting.table terminator) cs

-- the characters of a line, after these
abbrev pub line_after : Setting → Keep → List ℕ → Plan (List ℕ)
line_after setting keep cs = loop setting.limits (line_turn keep) cs

-- up to the end of a block
abbrev pub block_after : Setting → ℕ × ℕ → Plan (Unit {0})
block_after setting levels = loop setting.limits block_turn levels

-- the number of a dispatch call, after these digits
abbrev pub number_after : Setting → Option ℕ → Plan (Option ℕ)
number_after setting number = loop setting.limits number_turn number

-- ---- what comes next inside a call

-- What comes next inside a call, after discarded text.
pub data Piece : Type 0 where
  item : Bool → Object → Piece
  dot : Piece
  -- the closing character that was looked for
  closed : Piece

-- whether it is the type of whitespace
abbrev pub is_blank : Syntax → Bool
is_blank Whitespace = true
is_blank _ = false

-- whether a character is whitespace in the readtable (standard 2.1.4.7)
abbrev pub is_whitespace : Table → ℕ → Bool
is_whitespace table c = is_blank (entry_at table c).syntax

-- one whitespace character is discarded, where the last part was a token
abbrev pub without_space : {A : Type 0} → Table → Bool → Plan A → Plan A
without_space table false on = on
without_space table true on = takes on (is_whitespace table) (λ c. on)

-- ---- what comes next inside a call: after discarded text, an object, a dot or the closing character

-- an attempt that came to no object is made again; at the end of the input the call is refused
abbrev pub piece_of : Table → Plan Piece → Found → Plan Piece
piece_of table again (nothing token) = without_space table token again
piece_of table again (one token x) = gives (item token x)
piece_of table again lone_dot = gives dot
piece_of table again the_end = refuses END_OF_FILE 0

-- the closing character is looked for before its own syntax
abbrev pub or_closed : Option ℕ → Plan Piece → Plan Piece
or_closed None plan = plan
or_closed (Some close) plan = takes plan (λ c. c == close) (λ c. gives closed)

-- one attempt, before which the closing character is looked for
abbrev pub next_item_turn : Table → Option ℕ → Plan Found → (Unit {0} → Plan Piece) → Unit {0} → Plan Piece
next_item_turn table close attempt more u = or_closed close (then_plan attempt (λ found. piece_of table (more tt) found))

-- the next piece inside a call: the closing character, an object or a dot
abbrev pub next_item : Setting → Option ℕ → Plan Found → Plan Piece
next_item setting close attempt = loop setting.limits (next_item_turn setting.table close attempt) tt

-- ---- objects up to the closing character, or up to a dot

-- the objects, and whether the closing character came
abbrev pub Items : Type 0
Items = List Object × Bool

-- an object goes behind the others; the closing character and a dot end them
abbrev pub items_step : Table → (List Object → Plan Items) → List Object → Piece → Plan Items
items_step table more xs closed = gives (xs, true)
items_step table more xs dot = gives (xs, false)
items_step table more xs (item token x) = without_space table token (more (xs ++ x ∷ []))

-- one piece more
abbrev pub items_turn : Setting → ℕ → Plan Found → (List Object → Plan Items) → List Object → Plan Items
items_turn setting close attempt more xs = then_plan (next_item setting (Some close) attempt) (λ p. items_step setting.table more xs p)

-- the objects after these
abbrev pub items_after : Setting → ℕ → Plan Found → List Object → Plan Items
items_after setting close attempt xs = loop setting.limits (items_turn setting close attempt) xs

-- no dot may stand among them
abbrev pub undotted_plan : (Material → Plan Found) → Items → Plan Found
undotted_plan on (xs, true) = on (many xs)
undotted_plan on (xs, false) = refuses DOT_CONTEXT 0

-- ---- lists: 41 closes them

-- after the object that follows the dot
abbrev pub after_tail : (Material → Plan Found) → List Object → Object → Piece → Plan Found
after_tail on xs tail closed = on (dotted xs tail)
after_tail on xs tail dot = refuses DOT_CONTEXT 0
after_tail on xs tail (item token x) = refuses DOT_CONTEXT 0

-- A dot has one object before it and one after it (standard 2.4.1). Else it is refused, at its own place or at what comes instead.
abbrev pub after_dot : Setting → Plan Found → (Material → Plan Found) → List Object → Piece → Plan Found
after_dot setting attempt on xs closed = refuses DOT_CONTEXT 1
after_dot setting attempt on xs dot = refuses DOT_CONTEXT 0
after_dot setting attempt on xs (item token x) =
    without_space setting.table token (then_plan (next_item setting (Some 41) attempt) (after_tail on xs x))

-- a list ends with the closing character, or with a dot and one object more
abbrev pub list_end : Setting → Plan Found → (Material → Plan Found) → Items → Plan Found
list_end setting attempt on (xs, true) = on (many xs)
list_end setting attempt on ([], false) = refuses DOT_CONTEXT 0
list_end setting attempt on (x ∷ xs, false) = then_plan (next_item setting (Some 41) attempt) (after_dot setting attempt on (x ∷ xs))

-- ---- one object

-- one object; a dot or the closing character in its place is refused
abbrev pub one_piece : (Bool → Object → Plan Found) → Piece → Plan Found
one_piece on (item token x) = on token x
one_piece on dot = refuses DOT_CONTEXT 0
one_piece on closed = refuses DOT_CONTEXT 0

-- ---- what a call gives

-- how many bytes before the end of the call its refusal stands: at the last byte of the call, or at its end
abbrev pub bytes_back : StdRefusal → ℕ
bytes_back StrayClose = 1
bytes_back OutOfProfile = 1
bytes_back NumericArgument = 1
bytes_back _ = 0

-- the value of a standard function; the test says whether a token ends the call
abbrev pub finished_plan : Bool → Value → Plan Found
finished_plan token (Ok (Some x)) = gives (one token x)
finished_plan token (Ok None) = gives (nothing false)
finished_plan token (Err refusal) = refuses (std_refusal_number refusal) (bytes_back refusal)

-- The answer of a function of a user under a limit of nesting at this depth: whether a token ends the call, and whether a token
-- ends an object in it. Where no value is given, only an object has its one whitespace character discarded with it.
abbrev pub plan_after_answer : Packages → ℕ → ℕ → Bool → Bool → MacroAnswer → Plan Found
plan_after_answer packages nesting depth token spaced (value x) =
    elim (may_be_answered packages x && nat_le (object_depth x + depth) nesting) [
      | true ↦ gives (one token x)
      | false ↦ refuses MACRO_ANSWER 0
    ]
plan_after_answer packages nesting depth token spaced no_value = gives (nothing spaced)
plan_after_answer packages nesting depth token spaced improper = refuses MACRO_ANSWER 0
plan_after_answer packages nesting depth token spaced (answer_refused number) = refuses MACRO_REFUSED 0

-- what the function gives for what was gathered
abbrev pub completed_by : Setting → ℕ → InvokedCall → Function → Bool → Bool → Material → Plan Found
completed_by setting depth call (AStandard kind) token spaced material =
    finished_plan token (value_of kind setting.table.letters call.number material)
completed_by setting depth call (User name) token spaced material =
    plan_after_answer setting.packages setting.limits.nesting depth token spaced (setting.answer name (macro_call call material))

-- what the function of the call gives for it
abbrev pub completed_call : Setting → ℕ → InvokedCall → Bool → Bool → Material → Plan Found
completed_call setting depth call token spaced material = completed_by setting depth call call.function token spaced material

-- ---- calls

-- a call that reads objects, where one more may be open
abbrev pub opened_plan : Option (Plan Found) → (Plan Found → Plan Found) → Plan Found
opened_plan None on = refuses TOO_DEEP 1
opened_plan (Some attempt) on = on attempt

-- what a call gathers by the way of its function, and then what the function gives for that
abbrev pub gathering_plan : Setting → ℕ → Option (Plan Found) → InvokedCall → Way → Plan Found
gathering_plan setting depth inner call Nothing = completed_call setting depth call false false no_material
gathering_plan setting depth inner call Next =
    opened_plan inner (λ attempt. then_plan (next_item setting None attempt)
    (one_piece (λ token x. completed_call setting depth call token token (one_object x))))
gathering_plan setting depth inner call AList =
    opened_plan inner (λ attempt. then_plan (items_after setting 41 attempt [])
    (list_end setting attempt (λ m. completed_call setting depth call false false m)))
gathering_plan setting depth inner call (Until close) =
    opened_plan inner (λ attempt. then_plan (items_after setting close attempt [])
    (undotted_plan (λ m. completed_call setting depth call false false m)))
gathering_plan setting depth inner call (Text close) =
    then_plan (text_to setting close []) (λ cs. completed_call setting depth call false false (letters cs))
gathering_plan setting depth inner call (Line keep) =
    then_plan (line_after setting keep []) (λ cs. completed_call setting depth call false false (letters cs))
gathering_plan setting depth inner call Block =
    then_plan (block_after setting (0, 0)) (λ u. completed_call setting depth call false false no_material)
gathering_plan setting depth inner call Token =
    scans false setting.limits.token (λ marks. completed_call setting depth call true false (marked marks))
gathering_plan setting depth inner call EscapedToken =
    scans true setting.limits.token (λ marks. completed_call setting depth call true false (marked marks))

-- a name of no function is outside the profile
abbrev pub gathered_by : Setting → ℕ → Option (Plan Found) → InvokedCall → Option Way → Plan Found
gathered_by setting depth inner call None = refuses OUT_OF_PROFILE 1
gathered_by setting depth inner call (Some way) = gathering_plan setting depth inner call way

-- a call of a function, by the way that is the function's
abbrev pub call_plan : Setting → ℕ → Option (Plan Found) → InvokedCall → Plan Found
call_plan setting depth inner call = gathered_by setting depth inner call (way_in setting call)

-- ---- dispatch: a number and a sub-character, which is taken in upper case

-- of the function at a sub-character; where the readtable has none, as the standard one at `<`, at `)` and at whitespace, it is refused
abbrev pub sub_called : Setting → ℕ → Option (Plan Found) → ℕ → ℕ → Option ℕ → Option (List ℕ) → Plan Found
sub_called setting depth inner c sub number None = refuses NO_DISPATCH 1
sub_called setting depth inner c sub number (Some name) =
    call_plan setting depth inner (record { function = function_of name; character = c; sub = Some (upper_case sub); number = number })

-- the sub-character, which is any character that is no digit
abbrev pub sub_there : Setting → ℕ → Option (Plan Found) → ℕ → Option ℕ → Plan Found
sub_there setting depth inner c number =
    next_byte (λ sub. sub_called setting depth inner c sub number (dispatch_at setting.table c sub))

-- a dispatch call: its digits, if any, and its sub-character (standard 2.4.8)
abbrev pub dispatch_plan : Setting → ℕ → Option (Plan Found) → ℕ → Option ℕ → Plan Found
dispatch_plan setting depth inner c number = then_plan (number_after setting number) (sub_there setting depth inner c)

-- the function at a macro character, which always has one
abbrev pub macro_called : Setting → ℕ → Option (Plan Found) → ℕ → Option (List ℕ) → Plan Found
macro_called setting depth inner c None = refuses OUT_OF_PROFILE 1
macro_called setting depth inner c (Some name) =
    elim (is_dispatch_name name) [
      | true ↦ dispatch_plan setting depth inner c None
      | false ↦ call_plan setting depth inner (record { function = function_of name; character = c; sub = None; number = None })
    ]

-- ---- objects

-- the characters that begin no token
abbrev pub stands_alone : Syntax → Bool
stands_alone Whitespace = true
stands_alone TerminatingMacro = true
stands_alone NonTerminatingMacro = true
stands_alone Invalid = true
stands_alone Constituent = false
stands_alone SingleEscape = false
stands_alone MultipleEscape = false

-- What such a character is where an object may begin (standard 2.2).
abbrev pub alone : Setting → ℕ → Option (Plan Found) → ℕ → Syntax → Plan Found
alone setting depth inner c Whitespace = gives (nothing false)
alone setting depth inner c TerminatingMacro = macro_called setting depth inner c (entry_at setting.table c).function
alone setting depth inner c NonTerminatingMacro = macro_called setting depth inner c (entry_at setting.table c).function
alone setting depth inner c _ = refuses INVALID_CHARACTER 1

-- a token is an object, or a dot, or is refused where it ends
abbrev pub told_found : Result ResolvedToken ℕ → Plan Found
told_found (Ok (told_object x)) = gives (one true x)
told_found (Ok dot_alone) = gives lone_dot
told_found (Err number) = refuses number 0

-- Where no other character stands a token begins. It is empty only at the end of the input.
abbrev pub token_found : Setting → List Mark → Plan Found
token_found setting [] = gives the_end
token_found setting (m ∷ ms) = told_found (token_meant setting (m ∷ ms))

-- One attempt at an object; inner is an attempt one call deeper.
abbrev pub attempt_by : Setting → ℕ → Option (Plan Found) → Plan Found
attempt_by setting depth inner =
    takes (scans false setting.limits.token (token_found setting)) (λ c. stands_alone (entry_at setting.table c).syntax)
    (λ c. alone setting depth inner c (entry_at setting.table c).syntax)

-- an attempt where so many more calls may be open
unfoldable pub inner : Setting → ℕ → Option (Plan Found)
inner setting zero = None
inner setting (suc room) = Some (attempt_by setting (setting.limits.nesting - room) (inner setting room))

-- where so many calls may be open yet
abbrev pub attempt : Setting → ℕ → Plan Found
attempt setting room = attempt_by setting (setting.limits.nesting - room) (inner setting room)

-- ---- the outermost object

-- what a text begins with: a form, nothing but discarded text, or what is refused
pub data ReadingResult : Type 0 where
  -- its start, its end, and where the next form begins
  form : Object → ℕ → ℕ → ℕ → ReadingResult
  empty : ReadingResult
  -- the number of the refusal, and its offset
  refused : ℕ → ℕ → ReadingResult

-- how many bytes are discarded with an object: the one whitespace character that ended its token
abbrev pub space_at : Table → Bool → List ℕ → ℕ
space_at table false cs = 0
space_at table true [] = 0
space_at table true (c ∷ cs) = if is_whitespace table c then 1 else 0

-- of an attempt that began at start; after discarded text a new one begins
abbrev pub outcome : Table → ℕ → (ℕ → List ℕ → ReadingResult) → Read Found → ReadingResult
outcome table start more (Ok (nothing token, at, cs)) = more (start + at) cs
outcome table start more (Ok (one token x, at, cs)) = form x start (start + at) (start + at + space_at table token cs)
outcome table start more (Ok (lone_dot, at, cs)) = refused DOT_CONTEXT (start + at)
outcome table start more (Ok (the_end, at, cs)) = empty
outcome table start more (Err e) = refused e.number (start + e.at)

-- of the text from this offset on; the number bounds the turns
unfoldable pub reads_in : Setting → ℕ → ℕ → List ℕ → ReadingResult
reads_in setting zero start text = empty
reads_in setting (suc n) start text =
    outcome setting.table start (λ next cs. reads_in setting n next cs)
    (run setting.table setting.limits (attempt setting setting.limits.nesting) 0 text)

-- Each turn takes a byte or is the last one, so the length of the text is always enough.
abbrev pub reads_at : Setting → ℕ → List ℕ → ReadingResult
reads_at setting start text = reads_in setting (length text + 1) start text

-- What a text begins with.
unfoldable pub reads : Setting → List ℕ → ReadingResult
reads setting text = reads_at setting 0 text

-- ---- the text of a form

-- What a form has: a byte at least, at most one byte more that is discarded with it, and a text of its own from which it
-- is read again, alone.
pub record IsFramed (setting : Setting) (whole : List ℕ) (x : Object) (start «end» next : ℕ) : Type 0 where
  pub some : start < «end»
  pub after : «end» ≤ next
  pub one : next ≤ «end» + 1
  pub inside : next ≤ length whole
  pub again : reads setting (take («end» - start) (drop start whole)) ≡ form x 0 («end» - start) («end» - start)
