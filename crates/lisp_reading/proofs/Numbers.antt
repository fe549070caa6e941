-- A text is refused under a number of reading alone.
use Rattle.std.proofs.Common.{◌≡◌, ℕ, zero, suc, ◌+◌, ◌-◌, Bool, true, false, List, [], ◌∷◌, ◌++◌, length, Option, Some, None, Result, Ok, Err, subst, arith}
use Rattle.std.specs.Prelude.{nat_le, ◌==◌, ◌&&◌, bytes_eq, if◌then◌else◌}
use Rattle.std.specs.Option.{option_map_or}
use Rattle.std.specs.Result.{IfErr}
use Rattle.lisp_object.specs.Object.{Object, object_depth}
use Rattle.lisp_object.specs.declared.refusal.TheConstants.{END_OF_FILE, INVALID_CHARACTER, DOT_CONTEXT, NO_DISPATCH, MACRO_REFUSED, MACRO_ANSWER, TOO_DEEP, OUT_OF_PROFILE}
use Rattle.readtable_core.specs.Characters.{upper_case}
use Rattle.readtable_core.specs.Names.{is_dispatch_name}
use Rattle.readtable_core.specs.Tables.{Table, entry_at, dispatch_at}
use Rattle.readtable_core.specs.declared.characters.Syntax.{Syntax}
use Rattle.readtable_core.specs.declared.characters.Syntax.TheVariants.{Whitespace, Constituent, TerminatingMacro, NonTerminatingMacro, SingleEscape, MultipleEscape, Invalid}
use Rattle.package_table.specs.declared.error.PackageError.{PackageError}
use Rattle.package_table.specs.declared.error.PackageError.TheVariants.{NoPackage, NotExternal, LockedPackage}
use Rattle.package_table.specs.ErrorNumbers.{package_error_number}
use Rattle.package_table.specs.Lookup.{home_by_name, external_home}
use Rattle.package_table.specs.Resolving.{Resolution, found_at, new_in, resolution, external_resolution, internal_resolution}
use Rattle.package_table.specs.Table.{Name, Table as Packages, common_lisp, package_named}
use Rattle.token_scan.specs.declared.mark.Mark.{Mark}
use Rattle.token_meaning.specs.declared.refusal.MeaningRefusal.{MeaningRefusal}
use Rattle.token_meaning.specs.declared.refusal.MeaningRefusal.TheVariants.{DotsOnly, FloatToken, NumberRange, ZeroDenominator, PackageMarkers}
use Rattle.token_meaning.specs.declared.token.TokenName.{TokenName}
use Rattle.token_meaning.specs.declared.token.TokenName.TheVariants.{Unqualified, Keyword, External, Internal}
use Rattle.token_meaning.specs.Folding.{folded_marks}
use Rattle.token_meaning.specs.Meanings.{Meaning, number, dot as a_dot, name, meaning_of}
use Rattle.token_meaning.specs.Results.{meaning_refusal_number}
use Rattle.user_macros.specs.Calls.{MacroAnswer, value, no_value, improper, refused as answer_refused}
use Rattle.std_macros.specs.declared.refusal.StdRefusal.{StdRefusal}
use Rattle.std_macros.specs.declared.refusal.StdRefusal.TheVariants.{StrayClose, Rational, NumericArgument, CharacterName, RadixToken, VectorLength, UninternedToken, OutOfProfile}
use Rattle.std_macros.specs.Results.{std_refusal_number}
use Rattle.std_macros.specs.Values.{Value, value_of, Material, nothing as no_material, one as one_object, many, dotted, letters, marked}
use Rattle.lisp_reading.specs.declared.attempt.Found.{Found}
use Rattle.lisp_reading.specs.declared.attempt.Found.TheVariants.{Nothing as nothing, One as one, LoneDot as lone_dot, TheEnd as the_end}
use Rattle.lisp_reading.specs.declared.token_resolution.ResolvedToken.{ResolvedToken}
use Rattle.lisp_reading.specs.declared.token_resolution.ResolvedToken.TheVariants.{Object as told_object, Dot as dot_alone}
use Rattle.lisp_reading.specs.declared.way.Function.{Function}
use Rattle.lisp_reading.specs.declared.way.Function.TheVariants.{Standard as AStandard, User}
use Rattle.lisp_reading.specs.declared.way.Way.{Way}
use Rattle.lisp_reading.specs.declared.way.Way.TheVariants.{Nothing, Next, List as AList, Until, Text, Line, Block, Token, EscapedToken}
use Rattle.lisp_reading.specs.Plans.{Plan, gives, refuses, scans, then_plan, character, Read, run}
use Rattle.lisp_reading.specs.InvokedCalls.{InvokedCall}
use Rattle.lisp_reading.specs.Setting.{Setting, macro_call, way_in, function_of}
use Rattle.lisp_reading.specs.Gathering.{text_turn, line_turn, block_turn, number_turn}
use Rattle.lisp_reading.specs.Naming.{symbol_in, symbol_at, named, told_meaning, token_meant}
use Rattle.lisp_reading.specs.Answering.{may_be_answered}
use Rattle.lisp_reading.specs.Reading.{Piece, item, dot, closed, is_whitespace, without_space, piece_of, or_closed, next_item_turn, next_item, Items, items_step, items_turn, items_after, undotted_plan, after_tail, after_dot, list_end, one_piece, bytes_back, finished_plan, plan_after_answer, completed_by, completed_call, opened_plan, gathering_plan, gathered_by, call_plan, sub_called, sub_there, dispatch_plan, macro_called, stands_alone, alone, told_found, token_found, attempt_by, inner, attempt, ReadingResult, form, empty, refused, outcome, reads_in, reads, text_to, line_after, block_after, number_after}
use Rattle.lisp_reading.proofs.NumberedPlans.{IsOfReading, Numbered, NumberedResult, run_numbered, gives_numbered, refuses_numbered, takes_numbered, scans_numbered, then_numbered, if_numbered, next_byte_numbered, loop_numbered, text_numbered, line_numbered, block_numbered, number_numbered}

-- ---- what tokens mean

meaning_numbered : (refusal : MeaningRefusal) → IsOfReading (meaning_refusal_number refusal)
meaning_numbered DotsOnly = (omega arith, omega arith)
meaning_numbered FloatToken = (omega arith, omega arith)
meaning_numbered NumberRange = (omega arith, omega arith)
meaning_numbered ZeroDenominator = (omega arith, omega arith)
meaning_numbered PackageMarkers = (omega arith, omega arith)

abbrev Resolved : {A : Type 0} → Result A PackageError → Type 0
Resolved r = IfErr r (λ e. IsOfReading (package_error_number e))

resolved_by : (t : Packages) (p : Name) (o : Option Name) (own : Name)
    → Resolved {A = Resolution} (option_map_or (λ h. Ok (found_at h)) o (if bytes_eq p common_lisp then Err LockedPackage else Ok (new_in p)))
resolved_by t p (Some h) own = tt
resolved_by t p None own =
    elim (bytes_eq p common_lisp) as (λ b. Resolved {A = Resolution} (if b then Err LockedPackage else Ok (new_in p))) [ true ↦ (omega arith, omega arith) | false ↦ tt ]

resolution_numbered : (t : Packages) (p own : Name) → Resolved (resolution t p own)
resolution_numbered t p own = resolved_by t p (home_by_name t p own) own

external_numbered : (t : Packages) (prefix own : Name) → Resolved (external_resolution t prefix own)
external_numbered t prefix own =
    elim (package_named t prefix) as (λ o. Resolved {A = Name} (option_map_or (λ p. option_map_or (λ h. Ok h) (external_home t p own) (Err NotExternal)) o (Err NoPackage))) [
      | None ↦ (omega arith, omega arith)
      | Some p ↦ elim (external_home t p own) as (λ o. Resolved {A = Name} (option_map_or (λ h. Ok h) o (Err NotExternal))) [ None ↦ (omega arith, omega arith) | Some h ↦ tt ]
    ]

internal_numbered : (t : Packages) (prefix own : Name) → Resolved (internal_resolution t prefix own)
internal_numbered t prefix own =
    elim (package_named t prefix) as (λ o. Resolved {A = Resolution} (option_map_or (λ p. resolution t p own) o (Err NoPackage))) [
      | None ↦ (omega arith, omega arith)
      | Some p ↦ resolution_numbered t p own
    ]

symbol_in_numbered : (own : Name) (r : Result Resolution PackageError) → Resolved r → IfErr (symbol_in own r) IsOfReading
symbol_in_numbered own (Ok r) h = tt
symbol_in_numbered own (Err e) h = h

symbol_at_numbered : (own : Name) (r : Result Name PackageError) → Resolved r → IfErr (symbol_at own r) IsOfReading
symbol_at_numbered own (Ok home) h = tt
symbol_at_numbered own (Err e) h = h

named_numbered : (packages : Packages) (current : Name) (token : TokenName) → IfErr (named packages current token) IsOfReading
named_numbered packages current (Unqualified own) = symbol_in_numbered own (resolution packages current own) (resolution_numbered packages current own)
named_numbered packages current (Keyword own) = tt
named_numbered packages current (External prefix own) =
    symbol_at_numbered own (external_resolution packages prefix own) (external_numbered packages prefix own)
named_numbered packages current (Internal prefix own) =
    symbol_in_numbered own (internal_resolution packages prefix own) (internal_numbered packages prefix own)

told_numbered : (packages : Packages) (current : Name) (meaning : Result Meaning MeaningRefusal) → IfErr (told_meaning packages current meaning) IsOfReading
told_numbered packages current (Ok (number x)) = tt
told_numbered packages current (Ok a_dot) = tt
told_numbered packages current (Ok (name own)) = named_numbered packages current own
told_numbered packages current (Err refusal) = meaning_numbered refusal

told_found_numbered : (r : Result ResolvedToken ℕ) → IfErr r IsOfReading → Numbered (told_found r)
told_found_numbered (Ok (told_object x)) h = gives_numbered (one true x)
told_found_numbered (Ok dot_alone) h = gives_numbered lone_dot
told_found_numbered (Err code) h = refuses_numbered _ code 0 h

token_numbered : (setting : Setting) (marks : List Mark) → Numbered (token_found setting marks)
token_numbered setting [] = gives_numbered the_end
token_numbered setting (m ∷ ms) =
    told_found_numbered (token_meant setting (m ∷ ms))
    (told_numbered setting.packages setting.current (meaning_of setting.base (folded_marks setting.table.letters (m ∷ ms))))

-- ---- what comes next, and objects, inside a call

space_numbered : {A : Type 0} (table : Table) (token : Bool) (on : Plan A) → Numbered on → Numbered (without_space table token on)
space_numbered table false on h = h
space_numbered table true on h = takes_numbered on (is_whitespace table) (λ c. on) h (λ c. h)

piece_of_numbered : (table : Table) (again : Plan Piece) (found : Found) → Numbered again → Numbered (piece_of table again found)
piece_of_numbered table again (nothing token) h = space_numbered table token again h
piece_of_numbered table again (one token x) h = gives_numbered (item token x)
piece_of_numbered table again lone_dot h = gives_numbered dot
piece_of_numbered table again the_end h = refuses_numbered _ END_OF_FILE 0 (omega arith, omega arith)

or_closed_numbered : (close : Option ℕ) (plan : Plan Piece) → Numbered plan → Numbered (or_closed close plan)
or_closed_numbered None plan h = h
or_closed_numbered (Some close) plan h = takes_numbered plan (λ c. c == close) (λ c. gives closed) h (λ c. gives_numbered closed)

next_item_numbered : (setting : Setting) (close : Option ℕ) (attempt : Plan Found) → Numbered attempt → Numbered (next_item setting close attempt)
next_item_numbered setting close attempt h =
    loop_numbered setting.limits (next_item_turn setting.table close attempt)
    (λ more all u. or_closed_numbered close (then_plan attempt (λ found. piece_of setting.table (more tt) found))
    (then_numbered attempt (λ found. piece_of setting.table (more tt) found) h (λ found. piece_of_numbered setting.table (more tt) found (all tt)))) tt

items_step_numbered : (table : Table) (more : List Object → Plan Items) (xs : List Object) (p : Piece) → ((ys : List Object) → Numbered (more ys))
    → Numbered (items_step table more xs p)
items_step_numbered table more xs closed all = gives_numbered (xs, true)
items_step_numbered table more xs dot all = gives_numbered (xs, false)
items_step_numbered table more xs (item token x) all = space_numbered table token (more (xs ++ x ∷ [])) (all (xs ++ x ∷ []))

items_numbered : (setting : Setting) (close : ℕ) (attempt : Plan Found) (xs : List Object) → Numbered attempt → Numbered (items_after setting close attempt xs)
items_numbered setting close attempt xs h =
    loop_numbered setting.limits (items_turn setting close attempt)
    (λ more all ys. then_numbered (next_item setting (Some close) attempt) (λ p. items_step setting.table more ys p)
    (next_item_numbered setting (Some close) attempt h) (λ p. items_step_numbered setting.table more ys p all)) xs

-- ---- what a call gives

standard_numbered : (refusal : StdRefusal) → IsOfReading (std_refusal_number refusal)
standard_numbered StrayClose = (omega arith, omega arith)
standard_numbered (Rational refusal) = meaning_numbered refusal
standard_numbered NumericArgument = (omega arith, omega arith)
standard_numbered CharacterName = (omega arith, omega arith)
standard_numbered RadixToken = (omega arith, omega arith)
standard_numbered VectorLength = (omega arith, omega arith)
standard_numbered UninternedToken = (omega arith, omega arith)
standard_numbered OutOfProfile = (omega arith, omega arith)

finished_numbered : (token : Bool) (v : Value) → Numbered (finished_plan token v)
finished_numbered token (Ok (Some x)) = gives_numbered (one token x)
finished_numbered token (Ok None) = gives_numbered (nothing false)
finished_numbered token (Err refusal) = refuses_numbered _ (std_refusal_number refusal) (bytes_back refusal) (standard_numbered refusal)

answered_numbered : (packages : Packages) (nesting depth : ℕ) (token spaced : Bool) (answer : MacroAnswer) → Numbered (plan_after_answer packages nesting depth token spaced answer)
answered_numbered packages nesting depth token spaced (value x) =
    if_numbered (may_be_answered packages x && nat_le (object_depth x + depth) nesting) (gives (one token x)) (refuses MACRO_ANSWER 0)
    (gives_numbered (one token x)) (refuses_numbered _ MACRO_ANSWER 0 (omega arith, omega arith))
answered_numbered packages nesting depth token spaced no_value = gives_numbered (nothing spaced)
answered_numbered packages nesting depth token spaced improper = refuses_numbered _ MACRO_ANSWER 0 (omega arith, omega arith)
answered_numbered packages nesting depth token spaced (answer_refused code) = refuses_numbered _ MACRO_REFUSED 0 (omega arith, omega arith)

completed_by_numbered : (setting : Setting) (depth : ℕ) (call : InvokedCall) (function : Function) (token spaced : Bool) (material : Material)
    → Numbered (completed_by setting depth call function token spaced material)
completed_by_numbered setting depth call (AStandard kind) token spaced material =
    finished_numbered token (value_of kind setting.table.letters call.number material)
completed_by_numbered setting depth call (User own) token spaced material =
    answered_numbered setting.packages setting.limits.nesting depth token spaced (setting.answer own (macro_call call material))

completed_numbered : (setting : Setting) (depth : ℕ) (call : InvokedCall) (token spaced : Bool) (material : Material)
    → Numbered (completed_call setting depth call token spaced material)
completed_numbered setting depth call token spaced material = completed_by_numbered setting depth call call.function token spaced material

-- ---- calls

one_numbered : (on : Bool → Object → Plan Found) (p : Piece) → ((token : Bool) (x : Object) → Numbered (on token x)) → Numbered (one_piece on p)
one_numbered on (item token x) all = all token x
one_numbered on dot all = refuses_numbered _ DOT_CONTEXT 0 (omega arith, omega arith)
one_numbered on closed all = refuses_numbered _ DOT_CONTEXT 0 (omega arith, omega arith)

undotted_numbered : (on : Material → Plan Found) (items : Items) → ((m : Material) → Numbered (on m)) → Numbered (undotted_plan on items)
undotted_numbered on (xs, true) all = all (many xs)
undotted_numbered on (xs, false) all = refuses_numbered _ DOT_CONTEXT 0 (omega arith, omega arith)

after_tail_numbered : (on : Material → Plan Found) (xs : List Object) (tail : Object) (p : Piece) → ((m : Material) → Numbered (on m)) → Numbered (after_tail on xs tail p)
after_tail_numbered on xs tail closed all = all (dotted xs tail)
after_tail_numbered on xs tail dot all = refuses_numbered _ DOT_CONTEXT 0 (omega arith, omega arith)
after_tail_numbered on xs tail (item token x) all = refuses_numbered _ DOT_CONTEXT 0 (omega arith, omega arith)

after_dot_numbered : (setting : Setting) (attempt : Plan Found) (on : Material → Plan Found) (xs : List Object) (p : Piece) → Numbered attempt → ((m : Material) → Numbered (on m))
    → Numbered (after_dot setting attempt on xs p)
after_dot_numbered setting attempt on xs closed h all = refuses_numbered _ DOT_CONTEXT 1 (omega arith, omega arith)
after_dot_numbered setting attempt on xs dot h all = refuses_numbered _ DOT_CONTEXT 0 (omega arith, omega arith)
after_dot_numbered setting attempt on xs (item token x) h all =
    space_numbered setting.table token (then_plan (next_item setting (Some 41) attempt) (after_tail on xs x))
    (then_numbered (next_item setting (Some 41) attempt) (after_tail on xs x) (next_item_numbered setting (Some 41) attempt h) (λ p. after_tail_numbered on xs x p all))

list_end_numbered : (setting : Setting) (attempt : Plan Found) (on : Material → Plan Found) (items : Items) → Numbered attempt → ((m : Material) → Numbered (on m))
    → Numbered (list_end setting attempt on items)
list_end_numbered setting attempt on (xs, true) h all = all (many xs)
list_end_numbered setting attempt on ([], false) h all = refuses_numbered _ DOT_CONTEXT 0 (omega arith, omega arith)
list_end_numbered setting attempt on (x ∷ xs, false) h all =
    then_numbered (next_item setting (Some 41) attempt) (after_dot setting attempt on (x ∷ xs)) (next_item_numbered setting (Some 41) attempt h)
    (λ p. after_dot_numbered setting attempt on (x ∷ xs) p h all)

abbrev NumberedInner : Option (Plan Found) → Type 0
NumberedInner None = Unit {0}
NumberedInner (Some attempt) = Numbered attempt

opened_numbered : (may : Option (Plan Found)) (on : Plan Found → Plan Found) → NumberedInner may → ((attempt : Plan Found) → Numbered attempt → Numbered (on attempt))
    → Numbered (opened_plan may on)
opened_numbered None on h all = refuses_numbered _ TOO_DEEP 1 (omega arith, omega arith)
opened_numbered (Some attempt) on h all = all attempt h

module _ (setting : Setting) (depth : ℕ) (may : Option (Plan Found)) (numbered : NumberedInner may) where
  gathered_numbered : (call : InvokedCall) (way : Way) → Numbered (gathering_plan setting depth may call way)
  gathered_numbered call Nothing = completed_numbered setting depth call false false no_material
  gathered_numbered call Next =
      opened_numbered may _ numbered (λ attempt h. then_numbered (next_item setting None attempt)
      (one_piece (λ token x. completed_call setting depth call token token (one_object x))) (next_item_numbered setting None attempt h)
      (λ p. one_numbered (λ token x. completed_call setting depth call token token (one_object x)) p (λ token x. completed_numbered setting depth call token token (one_object x))))
  gathered_numbered call AList =
      opened_numbered may _ numbered (λ attempt h. then_numbered (items_after setting 41 attempt [])
      (list_end setting attempt (λ m. completed_call setting depth call false false m)) (items_numbered setting 41 attempt [] h)
      (λ items. list_end_numbered setting attempt (λ m. completed_call setting depth call false false m) items h (λ m. completed_numbered setting depth call false false m)))
  gathered_numbered call (Until close) =
      opened_numbered may _ numbered (λ attempt h. then_numbered (items_after setting close attempt [])
      (undotted_plan (λ m. completed_call setting depth call false false m)) (items_numbered setting close attempt [] h)
      (λ items. undotted_numbered (λ m. completed_call setting depth call false false m) items (λ m. completed_numbered setting depth call false false m)))
  gathered_numbered call (Text close) =
      then_numbered (text_to setting close []) (λ cs. completed_call setting depth call false false (letters cs))
      (loop_numbered setting.limits (text_turn setting.table close) (text_numbered setting.table close) []) (λ cs. completed_numbered setting depth call false false (letters cs))
  gathered_numbered call (Line keep) =
      then_numbered (line_after setting keep []) (λ cs. completed_call setting depth call false false (letters cs))
      (loop_numbered setting.limits (line_turn keep) (line_numbered keep) []) (λ cs. completed_numbered setting depth call false false (letters cs))
  gathered_numbered call Block =
      then_numbered (block_after setting (0, 0)) (λ u. completed_call setting depth call false false no_material)
      (loop_numbered setting.limits block_turn block_numbered (0, 0)) (λ u. completed_numbered setting depth call false false no_material)
  gathered_numbered call Token =
      scans_numbered false setting.limits.token (λ marks. completed_call setting depth call true false (marked marks))
      (λ marks. completed_numbered setting depth call true false (marked marks))
  gathered_numbered call EscapedToken =
      scans_numbered true setting.limits.token (λ marks. completed_call setting depth call true false (marked marks))
      (λ marks. completed_numbered setting depth call true false (marked marks))

  gathered_by_numbered : (call : InvokedCall) (way : Option Way) → Numbered (gathered_by setting depth may call way)
  gathered_by_numbered call None = refuses_numbered _ OUT_OF_PROFILE 1 (omega arith, omega arith)
  gathered_by_numbered call (Some way) = gathered_numbered call way

  called_numbered : (call : InvokedCall) → Numbered (call_plan setting depth may call)
  called_numbered call = gathered_by_numbered call (way_in setting call)

  sub_numbered : (c sub : ℕ) (argument : Option ℕ) (own : Option (List ℕ)) → Numbered (sub_called setting depth may c sub argument own)
  sub_numbered c sub argument None = refuses_numbered _ NO_DISPATCH 1 (omega arith, omega arith)
  sub_numbered c sub argument (Some own) =
      called_numbered (record { function = function_of own; character = c; sub = Some (upper_case sub); number = argument })

  dispatched_numbered : (c : ℕ) (argument : Option ℕ) → Numbered (dispatch_plan setting depth may c argument)
  dispatched_numbered c argument =
      then_numbered (number_after setting argument) (sub_there setting depth may c) (loop_numbered setting.limits number_turn number_numbered argument)
      (λ n. next_byte_numbered (λ sub. sub_called setting depth may c sub n (dispatch_at setting.table c sub))
      (λ sub. sub_numbered c sub n (dispatch_at setting.table c sub)))

  macro_numbered : (c : ℕ) (own : Option (List ℕ)) → Numbered (macro_called setting depth may c own)
  macro_numbered c None = refuses_numbered _ OUT_OF_PROFILE 1 (omega arith, omega arith)
  macro_numbered c (Some own) =
      let call : InvokedCall = record { function = function_of own; character = c; sub = None; number = None } in
      if_numbered (is_dispatch_name own) (dispatch_plan setting depth may c None) (call_plan setting depth may call) (dispatched_numbered c None) (called_numbered call)

  -- ---- objects

  alone_numbered : (c : ℕ) (syntax : Syntax) → Numbered (alone setting depth may c syntax)
  alone_numbered c Whitespace = gives_numbered (nothing false)
  alone_numbered c TerminatingMacro = macro_numbered c (entry_at setting.table c).function
  alone_numbered c NonTerminatingMacro = macro_numbered c (entry_at setting.table c).function
  alone_numbered c Constituent = refuses_numbered _ INVALID_CHARACTER 1 (omega arith, omega arith)
  alone_numbered c SingleEscape = refuses_numbered _ INVALID_CHARACTER 1 (omega arith, omega arith)
  alone_numbered c MultipleEscape = refuses_numbered _ INVALID_CHARACTER 1 (omega arith, omega arith)
  alone_numbered c Invalid = refuses_numbered _ INVALID_CHARACTER 1 (omega arith, omega arith)

  attempt_by_numbered : Numbered (attempt_by setting depth may)
  attempt_by_numbered =
      takes_numbered (scans false setting.limits.token (token_found setting)) (λ c. stands_alone (entry_at setting.table c).syntax)
      (λ c. alone setting depth may c (entry_at setting.table c).syntax)
      (scans_numbered false setting.limits.token (token_found setting) (token_numbered setting)) (λ c. alone_numbered c (entry_at setting.table c).syntax)

inner_numbered : (setting : Setting) (room : ℕ) → NumberedInner (inner setting room)
unfolding inner
inner_numbered setting zero = tt
inner_numbered setting (suc room) = attempt_by_numbered setting (setting.limits.nesting - room) (inner setting room) (inner_numbered setting room)

attempt_numbered : (setting : Setting) (room : ℕ) → Numbered (attempt setting room)
attempt_numbered setting room = attempt_by_numbered setting (setting.limits.nesting - room) (inner setting room) (inner_numbered setting room)

-- ---- forms

abbrev NumberedOutcome : ReadingResult → Type 0
NumberedOutcome (form x start «end» next) = Unit {0}
NumberedOutcome empty = Unit {0}
NumberedOutcome (refused code offset) = IsOfReading code

outcome_numbered : (table : Table) (start : ℕ) (more : ℕ → List ℕ → ReadingResult) (r : Read Found) → ((next : ℕ) (cs : List ℕ) → NumberedOutcome (more next cs))
    → NumberedResult r → NumberedOutcome (outcome table start more r)
outcome_numbered table start more (Ok (nothing token, at, cs)) all h = all (start + at) cs
outcome_numbered table start more (Ok (one token x, at, cs)) all h = tt
outcome_numbered table start more (Ok (lone_dot, at, cs)) all h = (omega arith, omega arith)
outcome_numbered table start more (Ok (the_end, at, cs)) all h = tt
outcome_numbered table start more (Err e) all h = h

reads_in_numbered : (setting : Setting) (n start : ℕ) (text : List ℕ) → NumberedOutcome (reads_in setting n start text)
unfolding reads_in
reads_in_numbered setting zero start text = tt
reads_in_numbered setting (suc n) start text =
    outcome_numbered setting.table start (λ next cs. reads_in setting n next cs) (run setting.table setting.limits (attempt setting setting.limits.nesting) 0 text)
    (λ next cs. reads_in_numbered setting n next cs)
    (run_numbered setting.table setting.limits (attempt setting setting.limits.nesting) 0 text (attempt_numbered setting setting.limits.nesting))

refused_under : (o : ReadingResult) (code at : ℕ) → o ≡ refused code at → NumberedOutcome o → IsOfReading code
refused_under (form x start «end» next) code at e h = absurd cc
refused_under empty code at e h = absurd cc
refused_under (refused given there) code at e h = let same : given ≡ code = cc in subst IsOfReading same h

pub refusal_numbered : (setting : Setting) (text : List ℕ) (code at : ℕ) → reads setting text ≡ refused code at → IsOfReading code
unfolding reads
refusal_numbered setting text code at e = refused_under (reads setting text) code at e (reads_in_numbered setting (length text + 1) 0 text)
