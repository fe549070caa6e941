-- The end of a text blames no byte: what is refused there has another number than a byte that is no character, and than one
-- too many.
use Rattle.std.proofs.Common.{◌≡◌, ℕ, ◌+◌, ◌≤◌, Bool, true, false, List, [], ◌∷◌, ◌++◌, length, Option, Some, None, Result, Ok, Err, refl, sym, ap, subst, ◌∙◌}
use Rattle.std.specs.Prelude.{nat_le, ◌==◌, ◌&&◌, bytes_eq, if◌then◌else◌, IsTrue}
use Rattle.std.specs.Option.{option_map_or}
use Rattle.std.specs.Result.{IfErr}
use Rattle.std.proofs.lemmas.Bool.{le-leb}
use Rattle.lisp_object.specs.Object.{Object, object_depth}
use Rattle.lisp_object.specs.declared.refusal.TheConstants.{END_OF_FILE, DOT_CONTEXT, MACRO_REFUSED, MACRO_ANSWER, FORM_TOO_LONG}
use Rattle.readtable_core.specs.Tables.{Table}
use Rattle.package_table.specs.declared.error.PackageError.{PackageError}
use Rattle.package_table.specs.declared.error.PackageError.TheVariants.{NoPackage, NotExternal, LockedPackage}
use Rattle.package_table.specs.ErrorNumbers.{package_error_number}
use Rattle.package_table.specs.Lookup.{home_by_name, external_home}
use Rattle.package_table.specs.Resolving.{Resolution, found_at, new_in, resolution, external_resolution, internal_resolution}
use Rattle.package_table.specs.Table.{Name, Table as Packages, common_lisp, package_named}
use Rattle.token_scan.specs.declared.mark.Mark.{Mark}
use Rattle.token_scan.specs.declared.refusal.ScanRefusal.TheVariants.{EndOfFile}
use Rattle.token_scan.specs.declared.stage.Stage.{Stage as ScanStage}
use Rattle.token_scan.specs.declared.stage.Stage.TheVariants.{Outside, Inside, EscapedOutside, EscapedInside, Refused as ScanRefused}
use Rattle.token_scan.specs.Tokens.{outside, with_front}
use Rattle.token_scan.specs.ByteByByte.{from_stage}
use Rattle.token_meaning.specs.declared.refusal.MeaningRefusal.{MeaningRefusal}
use Rattle.token_meaning.specs.declared.refusal.MeaningRefusal.TheVariants.{DotsOnly, FloatToken, NumberRange, ZeroDenominator, PackageMarkers}
use Rattle.token_meaning.specs.declared.token.TokenName.{TokenName}
use Rattle.token_meaning.specs.declared.token.TokenName.TheVariants.{Unqualified, Keyword, External, Internal}
use Rattle.token_meaning.specs.Folding.{folded_marks}
use Rattle.token_meaning.specs.Meanings.{Meaning, number, dot as a_dot, name, meaning_of}
use Rattle.token_meaning.specs.Results.{meaning_refusal_number}
use Rattle.user_macros.specs.Calls.{MacroAnswer, value, no_value, improper, refused as answer_refused}
use Rattle.std_macros.specs.declared.refusal.StdRefusal.{StdRefusal}
use Rattle.std_macros.specs.declared.refusal.StdRefusal.TheVariants.{StrayClose, Rational, NumericArgument, CharacterName, RadixToken, VectorLength, UninternedToken, OutOfProfile}
use Rattle.std_macros.specs.Results.{std_refusal_number}
use Rattle.std_macros.specs.Values.{Value, value_of, Material, one as one_object, many, dotted, letters, marked}
use Rattle.lisp_reading.specs.declared.attempt.Found.{Found}
use Rattle.lisp_reading.specs.declared.attempt.Found.TheVariants.{Nothing as nothing, One as one, LoneDot as lone_dot, TheEnd as the_end}
use Rattle.form_reader.specs.declared.stack.Frame.{Frame}
use Rattle.form_reader.specs.declared.stack.Part.{Part}
use Rattle.form_reader.specs.declared.stack.Part.TheVariants.{Next as InNext, List as InList, Until as InUntil, Dotted as InDotted, Tailed as InTailed}
use Rattle.form_reader.specs.declared.state.State.{State}
use Rattle.form_reader.specs.declared.state.State.TheVariants.{Object as AtObject, Token as AtToken, CallToken as AtCallToken, Text as AtText, Escaped as AtEscaped, Line as AtLine, Block as AtBlock, Number as AtNumber}
use Rattle.lisp_reading.specs.declared.token_resolution.ResolvedToken.{ResolvedToken}
use Rattle.lisp_reading.specs.declared.token_resolution.ResolvedToken.TheVariants.{Object as told_object, Dot as dot_alone}
use Rattle.lisp_reading.specs.declared.way.Function.{Function}
use Rattle.lisp_reading.specs.declared.way.Function.TheVariants.{Standard as AStandard, User}
use Rattle.lisp_reading.specs.Plans.{Plan, gives, refuses, then_plan, next_byte, Read, run}
use Rattle.lisp_reading.specs.InvokedCalls.{InvokedCall, keep_of}
use Rattle.lisp_reading.specs.Setting.{Setting, macro_call}
use Rattle.lisp_reading.specs.Gathering.{text_turn, line_turn, block_turn, number_turn}
use Rattle.lisp_reading.specs.Naming.{symbol_in, symbol_at, named, told_meaning, token_meant}
use Rattle.lisp_reading.specs.Answering.{may_be_answered}
use Rattle.form_reader.specs.Token.{is_going}
use Rattle.form_reader.specs.Stack.{next_item_in, part_gives, call_in, outer_plan, between_objects, token_goes_on}
use Rattle.lisp_reading.specs.Reading.{Piece, item, dot, closed, is_whitespace, without_space, piece_of, or_closed, next_item_turn, next_item, Items, items_step, items_turn, items_after, undotted_plan, after_tail, after_dot, list_end, bytes_back, finished_plan, plan_after_answer, completed_by, completed_call, text_to, line_after, block_after, number_after, sub_there, dispatch_plan, told_found, token_found, attempt, ReadingResult, form, empty, refused}
use Rattle.form_reader.specs.State.{IsStateAt, inner_at, state_gives}
use Rattle.form_reader.specs.Step.{outcome_of}
use Rattle.form_reader.proofs.Tokens.{cut, refused_cut}
use Rattle.lisp_reading.proofs.Forms.{reads_is, the_end_there}
use Rattle.form_reader.proofs.PlanEnds.{blames_byte, AtEnd, Whatever, Never, LastRead, gives_at_end, refuses_at_end, takes_at_end, then_at_end, weaker, never_then, loop_at_end, next_byte_at_end, run_at_end}

-- ---- what a call gives

meaning_blames : (refusal : MeaningRefusal) → blames_byte (meaning_refusal_number refusal) ≡ false
meaning_blames DotsOnly = refl
meaning_blames FloatToken = refl
meaning_blames NumberRange = refl
meaning_blames ZeroDenominator = refl
meaning_blames PackageMarkers = refl

standard_blames : (refusal : StdRefusal) → blames_byte (std_refusal_number refusal) ≡ false
standard_blames StrayClose = refl
standard_blames (Rational refusal) = meaning_blames refusal
standard_blames NumericArgument = refl
standard_blames CharacterName = refl
standard_blames RadixToken = refl
standard_blames VectorLength = refl
standard_blames UninternedToken = refl
standard_blames OutOfProfile = refl

finished_at_end : (token : Bool) (v : Value) → AtEnd Whatever (finished_plan token v)
finished_at_end token (Ok (Some x)) = gives_at_end Whatever (one token x) tt
finished_at_end token (Ok None) = gives_at_end Whatever (nothing false) tt
finished_at_end token (Err refusal) = refuses_at_end Whatever (std_refusal_number refusal) (bytes_back refusal) (standard_blames refusal)

answered_at_end : (packages : Packages) (nesting depth : ℕ) (token spaced : Bool) (answer : MacroAnswer) → AtEnd Whatever (plan_after_answer packages nesting depth token spaced answer)
answered_at_end packages nesting depth token spaced (value x) =
    elim (may_be_answered packages x && nat_le (object_depth x + depth) nesting) as (λ b. AtEnd Whatever (elim b [ true ↦ gives (one token x) | false ↦ refuses MACRO_ANSWER 0 ])) [
      | true ↦ gives_at_end Whatever (one token x) tt
      | false ↦ refuses_at_end Whatever MACRO_ANSWER 0 refl
    ]
answered_at_end packages nesting depth token spaced no_value = gives_at_end Whatever (nothing spaced) tt
answered_at_end packages nesting depth token spaced improper = refuses_at_end Whatever MACRO_ANSWER 0 refl
answered_at_end packages nesting depth token spaced (answer_refused code) = refuses_at_end Whatever MACRO_REFUSED 0 refl

completed_by_at_end : (setting : Setting) (depth : ℕ) (call : InvokedCall) (function : Function) (token spaced : Bool) (material : Material)
    → AtEnd Whatever (completed_by setting depth call function token spaced material)
completed_by_at_end setting depth call (AStandard kind) token spaced material =
    finished_at_end token (value_of kind setting.table.letters call.number material)
completed_by_at_end setting depth call (User own) token spaced material =
    answered_at_end setting.packages setting.limits.nesting depth token spaced (setting.answer own (macro_call call material))

completed_at_end : (setting : Setting) (depth : ℕ) (call : InvokedCall) (token spaced : Bool) (material : Material)
    → AtEnd Whatever (completed_call setting depth call token spaced material)
completed_at_end setting depth call token spaced material = completed_by_at_end setting depth call call.function token spaced material

-- ---- tokens

abbrev Resolved : {A : Type 0} → Result A PackageError → Type 0
Resolved r = IfErr r (λ e. blames_byte (package_error_number e) ≡ false)

resolved_by : (p : Name) (o : Option Name) → Resolved {A = Resolution} (option_map_or (λ h. Ok (found_at h)) o (if bytes_eq p common_lisp then Err LockedPackage else Ok (new_in p)))
resolved_by p (Some h) = tt
resolved_by p None = elim (bytes_eq p common_lisp) as (λ b. Resolved {A = Resolution} (if b then Err LockedPackage else Ok (new_in p))) [ true ↦ refl | false ↦ tt ]

resolution_blames : (t : Packages) (p own : Name) → Resolved (resolution t p own)
resolution_blames t p own = resolved_by p (home_by_name t p own)

external_blames : (t : Packages) (prefix own : Name) → Resolved (external_resolution t prefix own)
external_blames t prefix own =
    elim (package_named t prefix) as (λ o. Resolved {A = Name} (option_map_or (λ p. option_map_or (λ h. Ok h) (external_home t p own) (Err NotExternal)) o (Err NoPackage))) [
      | None ↦ refl
      | Some p ↦ elim (external_home t p own) as (λ o. Resolved {A = Name} (option_map_or (λ h. Ok h) o (Err NotExternal))) [ None ↦ refl | Some h ↦ tt ]
    ]

internal_blames : (t : Packages) (prefix own : Name) → Resolved (internal_resolution t prefix own)
internal_blames t prefix own =
    elim (package_named t prefix) as (λ o. Resolved {A = Resolution} (option_map_or (λ p. resolution t p own) o (Err NoPackage))) [
      | None ↦ refl
      | Some p ↦ resolution_blames t p own
    ]

abbrev Blameless : {A : Type 0} → Result A ℕ → Type 0
Blameless r = IfErr r (λ code. blames_byte code ≡ false)

symbol_in_blames : (own : Name) (r : Result Resolution PackageError) → Resolved r → Blameless (symbol_in own r)
symbol_in_blames own (Ok r) h = tt
symbol_in_blames own (Err e) h = h

symbol_at_blames : (own : Name) (r : Result Name PackageError) → Resolved r → Blameless (symbol_at own r)
symbol_at_blames own (Ok home) h = tt
symbol_at_blames own (Err e) h = h

named_blames : (packages : Packages) (current : Name) (token : TokenName) → Blameless (named packages current token)
named_blames packages current (Unqualified own) = symbol_in_blames own (resolution packages current own) (resolution_blames packages current own)
named_blames packages current (Keyword own) = tt
named_blames packages current (External prefix own) = symbol_at_blames own (external_resolution packages prefix own) (external_blames packages prefix own)
named_blames packages current (Internal prefix own) = symbol_in_blames own (internal_resolution packages prefix own) (internal_blames packages prefix own)

told_blames : (packages : Packages) (current : Name) (meaning : Result Meaning MeaningRefusal) → Blameless (told_meaning packages current meaning)
told_blames packages current (Ok (number x)) = tt
told_blames packages current (Ok a_dot) = tt
told_blames packages current (Ok (name own)) = named_blames packages current own
told_blames packages current (Err refusal) = meaning_blames refusal

told_found_at_end : (r : Result ResolvedToken ℕ) → Blameless r → AtEnd Whatever (told_found r)
told_found_at_end (Ok (told_object x)) h = gives_at_end Whatever (one true x) tt
told_found_at_end (Ok dot_alone) h = gives_at_end Whatever lone_dot tt
told_found_at_end (Err code) h = refuses_at_end Whatever code 0 h

token_at_end : (setting : Setting) (marks : List Mark) → AtEnd Whatever (token_found setting marks)
token_at_end setting [] = gives_at_end Whatever the_end tt
token_at_end setting (m ∷ ms) =
    told_found_at_end (token_meant setting (m ∷ ms)) (told_blames setting.packages setting.current (meaning_of setting.base (folded_marks setting.table.letters (m ∷ ms))))

-- ---- where an object may begin

attempt_at_end : (setting : Setting) (room : ℕ) → AtEnd (λ found. found ≡ the_end) (attempt setting room)
unfolding AtEnd
attempt_at_end setting room = refl

space_at_end : {A : Type 0} (P : A → Type 0) (table : Table) (token : Bool) (on : Plan A) → AtEnd P on → AtEnd P (without_space table token on)
space_at_end P table false on h = h
space_at_end P table true on h = takes_at_end P on (is_whitespace table) (λ c. on) h

or_closed_at_end : (close : Option ℕ) (plan : Plan Piece) → AtEnd Never plan → AtEnd Never (or_closed close plan)
or_closed_at_end None plan h = h
or_closed_at_end (Some close) plan h = takes_at_end Never plan (λ c. c == close) (λ c. gives closed) h

next_item_at_end : (setting : Setting) (close : Option ℕ) (room : ℕ) → AtEnd Never (next_item setting close (attempt setting room))
next_item_at_end setting close room =
    loop_at_end Never setting.limits (next_item_turn setting.table close (attempt setting room)) tt
    (λ more. or_closed_at_end close (then_plan (attempt setting room) (λ found. piece_of setting.table (more tt) found))
    (then_at_end (λ found. found ≡ the_end) Never (attempt setting room) (λ found. piece_of setting.table (more tt) found) (attempt_at_end setting room)
    (λ found is. subst (λ (f : Found). AtEnd Never (piece_of setting.table (more tt) f)) (sym is) (refuses_at_end Never END_OF_FILE 0 refl))))

items_at_end : (setting : Setting) (close room : ℕ) (xs : List Object) → AtEnd Never (items_after setting close (attempt setting room) xs)
items_at_end setting close room xs =
    loop_at_end Never setting.limits (items_turn setting close (attempt setting room)) xs
    (λ more. never_then Never (next_item setting (Some close) (attempt setting room)) (λ p. items_step setting.table more xs p) (next_item_at_end setting (Some close) room))

-- ---- open calls

module _ (setting : Setting) (depth room : ℕ) (call : InvokedCall) where
  abbrev may : Plan Found
  may = attempt setting room

  undotted_at_end : (items : Items) → AtEnd Whatever (undotted_plan (λ m. completed_call setting depth call false false m) items)
  undotted_at_end (xs, true) = completed_at_end setting depth call false false (many xs)
  undotted_at_end (xs, false) = refuses_at_end Whatever DOT_CONTEXT 0 refl

  list_at_end : (items : Items) → AtEnd Whatever (list_end setting may (λ m. completed_call setting depth call false false m) items)
  list_at_end (xs, true) = completed_at_end setting depth call false false (many xs)
  list_at_end ([], false) = refuses_at_end Whatever DOT_CONTEXT 0 refl
  list_at_end (x ∷ xs, false) =
      never_then Whatever (next_item setting (Some 41) may) (after_dot setting may (λ m. completed_call setting depth call false false m) (x ∷ xs)) (next_item_at_end setting (Some 41) room)

  step_at_end : (close : ℕ) (xs : List Object) (p : Piece) → AtEnd Whatever (items_step setting.table (items_after setting close may) xs p)
  step_at_end close xs closed = gives_at_end Whatever (xs, true) tt
  step_at_end close xs dot = gives_at_end Whatever (xs, false) tt
  step_at_end close xs (item token x) =
      space_at_end Whatever setting.table token (items_after setting close may (xs ++ x ∷ []))
      (weaker (items_after setting close may (xs ++ x ∷ [])) (items_at_end setting close room (xs ++ x ∷ [])))

  part_at_end : (part : Part) (p : Piece) → AtEnd Whatever (part_gives setting depth may call part p)
  part_at_end InNext (item token x) = completed_at_end setting depth call token token (one_object x)
  part_at_end InNext dot = refuses_at_end Whatever DOT_CONTEXT 0 refl
  part_at_end InNext closed = refuses_at_end Whatever DOT_CONTEXT 0 refl
  part_at_end (InList xs) p =
      then_at_end Whatever Whatever (items_step setting.table (items_after setting 41 may) xs p) (list_end setting may (λ m. completed_call setting depth call false false m))
      (step_at_end 41 xs p) (λ items none. list_at_end items)
  part_at_end (InUntil close xs) p =
      then_at_end Whatever Whatever (items_step setting.table (items_after setting close may) xs p) (undotted_plan (λ m. completed_call setting depth call false false m))
      (step_at_end close xs p) (λ items none. undotted_at_end items)
  part_at_end (InDotted xs) closed = refuses_at_end Whatever DOT_CONTEXT 1 refl
  part_at_end (InDotted xs) dot = refuses_at_end Whatever DOT_CONTEXT 0 refl
  part_at_end (InDotted xs) (item token x) =
      space_at_end Whatever setting.table token (then_plan (next_item setting (Some 41) may) (after_tail (λ m. completed_call setting depth call false false m) xs x))
      (never_then Whatever (next_item setting (Some 41) may) (after_tail (λ m. completed_call setting depth call false false m) xs x) (next_item_at_end setting (Some 41) room))
  part_at_end (InTailed xs tail) closed = completed_at_end setting depth call false false (dotted xs tail)
  part_at_end (InTailed xs tail) dot = refuses_at_end Whatever DOT_CONTEXT 0 refl
  part_at_end (InTailed xs tail) (item token x) = refuses_at_end Whatever DOT_CONTEXT 0 refl

module _ (setting : Setting) where
  found_at_end : (f : Frame) (fs : List Frame) (found : Found) → AtEnd Whatever (piece_of setting.table (next_item_in setting f fs) found)
  found_at_end f fs (nothing token) =
      space_at_end Whatever setting.table token (next_item_in setting f fs) (weaker (next_item_in setting f fs) (next_item_at_end setting _ _))
  found_at_end f fs (one token x) = gives_at_end Whatever (item token x) tt
  found_at_end f fs lone_dot = gives_at_end Whatever dot tt
  found_at_end f fs the_end = refuses_at_end Whatever END_OF_FILE 0 refl

  given_at_end : (stack : List Frame) (plan : Plan Found) → AtEnd Whatever plan → AtEnd Whatever (outer_plan setting stack plan)
  unfolding outer_plan
  given_at_end [] plan h = h
  given_at_end (f ∷ fs) plan h =
      given_at_end fs (then_plan (then_plan plan (λ found. piece_of setting.table (next_item_in setting f fs) found)) (λ p. call_in setting f fs p))
      (then_at_end Whatever Whatever (then_plan plan (λ found. piece_of setting.table (next_item_in setting f fs) found)) (λ p. call_in setting f fs p)
      (then_at_end Whatever Whatever plan (λ found. piece_of setting.table (next_item_in setting f fs) found) h (λ found none. found_at_end f fs found))
      (λ p none. part_at_end setting (length fs) _ f.call f.part p))

  between_at_end : (stack : List Frame) → AtEnd Whatever (between_objects setting stack)
  unfolding AtEnd
  between_at_end [] = tt
  between_at_end (f ∷ fs) =
      given_at_end fs (then_plan (next_item_in setting f fs) (λ p. call_in setting f fs p))
      (never_then Whatever (next_item_in setting f fs) (λ p. call_in setting f fs p) (next_item_at_end setting _ _))

  -- ---- at each state

  module _ (stack : List Frame) (at : ℕ) (le : at ≤ setting.limits.text) where
    last : (plan : Plan Found) → AtEnd Whatever plan → LastRead Whatever (run setting.table setting.limits (outer_plan setting stack plan) at [])
    last plan h = run_at_end Whatever setting.table setting.limits at le (outer_plan setting stack plan) (given_at_end stack plan h)

    never : {A : Type 0} (plan : Plan A) (on : A → Plan Found) → AtEnd Never plan → LastRead Whatever (run setting.table setting.limits (outer_plan setting stack (then_plan plan on)) at [])
    never plan on h = last (then_plan plan on) (never_then Whatever plan on h)

    token_last : (on : List Mark → Plan Found) (stage : ScanStage) (marks : List Mark) (left : ℕ) → ((marks : List Mark) → AtEnd Whatever (on marks)) → IsTrue (is_going stage)
        → LastRead Whatever (token_goes_on setting stack on (cut setting.limits.text (with_front marks (from_stage stage left at []))))
    unfolding outside
    token_last on Outside marks left all going =
        let by : Bool → Read Found = λ b. token_goes_on setting stack on (elim b [ true ↦ Ok (marks ++ [], at, []) | false ↦ Err (record { number = FORM_TOO_LONG; at = setting.limits.text }) ]) in
        subst (LastRead Whatever) (sym (ap by (le-leb at setting.limits.text le))) (last (on (marks ++ [])) (all (marks ++ [])))
    token_last on Inside marks left all going =
        subst (LastRead Whatever) (sym (ap (token_goes_on setting stack on) (refused_cut setting.limits.text EndOfFile at le))) refl
    token_last on EscapedOutside marks left all going =
        subst (LastRead Whatever) (sym (ap (token_goes_on setting stack on) (refused_cut setting.limits.text EndOfFile at le))) refl
    token_last on EscapedInside marks left all going =
        subst (LastRead Whatever) (sym (ap (token_goes_on setting stack on) (refused_cut setting.limits.text EndOfFile at le))) refl
    token_last on (ScanRefused refusal) marks left all going = cc

    pub state_last : (state : State) → IsStateAt at state → LastRead Whatever (state_gives setting stack state at [])
    state_last AtObject h = run_at_end Whatever setting.table setting.limits at le (between_objects setting stack) (between_at_end stack)
    state_last (AtToken scan) h = token_last (token_found setting) scan.stage scan.marks scan.left (token_at_end setting) h
    state_last (AtCallToken call scan) h =
        token_last (λ marks. completed_call setting (length stack) call true false (marked marks)) scan.stage scan.marks scan.left
        (λ marks. completed_at_end setting (length stack) call true false (marked marks)) h
    state_last (AtText held) h =
        never (text_to setting held.terminator held.text) _ (loop_at_end Never setting.limits (text_turn setting.table held.terminator) held.text (λ more. next_byte_at_end Never _))
    state_last (AtEscaped held) h = never (next_byte (λ d. text_to setting held.terminator (held.text ++ d ∷ []))) _ (next_byte_at_end Never _)
    state_last (AtLine call text) h =
        last (then_plan (line_after setting (keep_of call.function) text) (λ cs. completed_call setting (length stack) call false false (letters cs)))
        (then_at_end Whatever Whatever (line_after setting (keep_of call.function) text) (λ cs. completed_call setting (length stack) call false false (letters cs))
        (loop_at_end Whatever setting.limits (line_turn (keep_of call.function)) text (λ more. takes_at_end Whatever (gives text) (λ c. true) _ (gives_at_end Whatever text tt)))
        (λ cs none. completed_at_end setting (length stack) call false false (letters cs)))
    state_last (AtBlock call levels) h =
        never (block_after setting levels) _ (loop_at_end Never setting.limits block_turn levels (λ more. next_byte_at_end Never _))
    state_last (AtNumber c argument) h =
        last (dispatch_plan setting (length stack) (inner_at setting (length stack)) c argument)
        (then_at_end Whatever Whatever (number_after setting argument) (sub_there setting (length stack) (inner_at setting (length stack)) c)
        (loop_at_end Whatever setting.limits number_turn argument (λ more. takes_at_end Whatever (gives argument) _ _ (gives_at_end Whatever argument tt)))
        (λ n none. next_byte_at_end Whatever _))

-- ---- of the whole text

abbrev Blames : ReadingResult → Type 0
Blames (form x start «end» next) = Unit {0}
Blames empty = Unit {0}
Blames (refused code offset) = blames_byte code ≡ false

pub last_blames : (setting : Setting) (start : ℕ) (r : Read Found) → LastRead Whatever r → Blames (outcome_of setting start r)
last_blames setting start (Ok (nothing token, at, cs)) h =
    let none : outcome_of setting start (Ok (nothing token, at, cs)) ≡ empty =
    ap (λ (ds : List ℕ). outcome_of setting start (Ok (nothing token, at, ds))) h.1 ∙ reads_is setting (start + at) [] ∙ ap (outcome_of setting (start + at)) (the_end_there setting) in
    subst Blames (sym none) tt
last_blames setting start (Ok (one token x, at, cs)) h = tt
last_blames setting start (Ok (lone_dot, at, cs)) h = refl
last_blames setting start (Ok (the_end, at, cs)) h = tt
last_blames setting start (Err e) h = h

pub last_refused : (o : ReadingResult) (code offset : ℕ) → o ≡ refused code offset → Blames o → blames_byte code ≡ false
last_refused o code offset e h = subst Blames e h
