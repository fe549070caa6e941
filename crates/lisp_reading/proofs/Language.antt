-- What holds of each object that is read, where it holds of what tokens mean, of what functions make, and of what may be
-- answered; and that a refusal is at the last byte that was taken, or later.
use Rattle.std.proofs.Common.{◌≡◌, ℕ, zero, suc, ◌+◌, ◌-◌, ◌≤◌, Bool, true, false, List, [], ◌∷◌, ◌++◌, All, Option, Some, None, Result, Ok, Err, refl, arith}
use Rattle.std.specs.Prelude.{nat_le, ◌&&◌}
use Rattle.std.proofs.lemmas.Bool.{and_parts, leb-true}
use Rattle.std.proofs.lemmas.List.Elements.{All-nil, All-push}
use Rattle.lisp_object.specs.declared.refusal.TheConstants.{MACRO_ANSWER}
use Rattle.lisp_object.specs.Object.{Object, object_depth}
use Rattle.readtable_core.specs.Tables.{entry_at, dispatch_at}
use Rattle.readtable_core.specs.Names.{is_dispatch_name}
use Rattle.readtable_core.specs.Characters.{upper_case}
use Rattle.readtable_core.specs.declared.characters.Syntax.{Syntax}
use Rattle.readtable_core.specs.declared.characters.Syntax.TheVariants.{Whitespace, Constituent, TerminatingMacro, NonTerminatingMacro, SingleEscape, MultipleEscape, Invalid}
use Rattle.token_scan.specs.declared.mark.Mark.{Mark}
use Rattle.token_scan.specs.Marks.{character_count}
use Rattle.user_macros.specs.Calls.{MacroAnswer, value, no_value, improper, refused as answer_refused}
use Rattle.std_macros.specs.declared.kind.Standard.{Standard}
use Rattle.std_macros.specs.declared.refusal.StdRefusal.{StdRefusal}
use Rattle.std_macros.specs.Values.{Value, value_of, Material, nothing as no_material, one as one_object, many, dotted, letters, marked}
use Rattle.lisp_reading.specs.declared.attempt.Found.{Found}
use Rattle.lisp_reading.specs.declared.attempt.Found.TheVariants.{Nothing as nothing, One as one, LoneDot as lone_dot, TheEnd as the_end}
use Rattle.lisp_reading.specs.declared.token_resolution.ResolvedToken.{ResolvedToken}
use Rattle.lisp_reading.specs.declared.token_resolution.ResolvedToken.TheVariants.{Object as told_object, Dot as dot_alone}
use Rattle.lisp_reading.specs.declared.way.Function.{Function}
use Rattle.lisp_reading.specs.declared.way.Function.TheVariants.{Standard as AStandard, User}
use Rattle.lisp_reading.specs.declared.way.Way.{Way}
use Rattle.lisp_reading.specs.declared.way.Way.TheVariants.{Nothing, Next, List as AList, Until, Text, Line, Block, Token, EscapedToken}
use Rattle.lisp_reading.specs.Answering.{may_be_answered}
use Rattle.lisp_reading.specs.InvokedCalls.{InvokedCall}
use Rattle.lisp_reading.specs.Naming.{token_meant}
use Rattle.lisp_reading.specs.Plans.{Plan, gives, refuses, then_plan}
use Rattle.lisp_reading.specs.Setting.{Setting, macro_call, way_in, function_of}
use Rattle.lisp_reading.specs.Reading.{text_to, line_after, block_after, number_after, Piece, item, dot, closed, without_space, piece_of, or_closed, next_item_turn, next_item, Items, items_step, items_turn, items_after, undotted_plan, after_tail, after_dot, list_end, one_piece, bytes_back, finished_plan, plan_after_answer, completed_by, completed_call, gathering_plan, gathered_by, call_plan, sub_called, sub_there, dispatch_plan, macro_called, alone, told_found, token_found, attempt_by, inner, attempt}
use Rattle.lisp_reading.proofs.Keeping.{most_back, Keeps, keeps_either, keeps_weaker, keeps_then, keeps_loop, keeps_next}
use Rattle.lisp_reading.proofs.Backs.{back_of, StaysIn, way_stays}
use Rattle.lisp_reading.proofs.TextsKept.{Any, text_keeps, line_keeps, block_keeps, number_keeps}

-- ---- objects

-- V holds of an object that is read where so many more calls may be open.
module _ (V : ℕ → Object → Type 0) where
  abbrev pub FoundAt : ℕ → Bool → Found → Type 0
  FoundAt room taken (one token x) = V room x
  FoundAt room taken _ = Unit {0}

  -- the same of a call, which comes to an object or to nothing
  abbrev pub CallAt : ℕ → Bool → Found → Type 0
  CallAt room taken (one token x) = V room x
  CallAt room taken (nothing token) = Unit {0}
  CallAt room taken lone_dot = ⊥
  CallAt room taken the_end = ⊥

  pub call_more : (room : ℕ) (f : Found) → CallAt room false f → CallAt room true f
  call_more room (nothing token) h = h
  call_more room (one token x) h = h
  call_more room lone_dot h = h
  call_more room the_end h = h

  call_found : (room : ℕ) (taken : Bool) (f : Found) → CallAt room taken f → FoundAt room taken f
  call_found room taken (nothing token) h = h
  call_found room taken (one token x) h = h
  call_found room taken lone_dot h = absurd h
  call_found room taken the_end h = absurd h

  pub found_more : (room : ℕ) (f : Found) → FoundAt room false f → FoundAt room true f
  found_more room (nothing token) h = h
  found_more room (one token x) h = h
  found_more room lone_dot h = h
  found_more room the_end h = h

  abbrev pub PieceAt : ℕ → Bool → Piece → Type 0
  PieceAt room taken (item token x) = V room x
  PieceAt room taken dot = Unit {0}
  PieceAt room taken closed = taken ≡ true

  abbrev pub ItemsAt : ℕ → Bool → Items → Type 0
  ItemsAt room taken xs = All (V room) xs.0

  -- objects were read in a call, where one call less may be open
  abbrev pub MaterialAt : ℕ → ℕ → Material → Type 0
  MaterialAt limit room no_material = Unit {0}
  MaterialAt limit zero (one_object x) = ⊥
  MaterialAt limit zero (many xs) = ⊥
  MaterialAt limit zero (dotted xs tail) = ⊥
  MaterialAt limit (suc room) (one_object x) = V room x
  MaterialAt limit (suc room) (many xs) = All (V room) xs
  MaterialAt limit (suc room) (dotted xs tail) = All (V room) xs × V room tail
  MaterialAt limit room (letters cs) = Unit {0}
  MaterialAt limit room (marked marks) = character_count marks ≤ limit

  -- an attempt where one call less may be open
  abbrev pub InnerAt : ℕ → Option (Plan Found) → Type 0
  InnerAt room None = Unit {0}
  InnerAt zero (Some attempt) = ⊥
  InnerAt (suc room) (Some attempt) = Keeps (FoundAt room) false attempt

-- V holds of what tokens mean, of what standard functions make of such objects, and of what may be answered.
pub record AreKept (setting : Setting) (V : ℕ → Object → Type 0) : Type 0 where
  pub tokens : (room : ℕ) (marks : List Mark) (x : Object) → token_meant setting marks ≡ Ok (told_object x) → V room x
  pub values : (room : ℕ) (kind : Standard) (number : Option ℕ) (material : Material) (x : Object) → MaterialAt V setting.limits.token room material
      → value_of kind setting.table.letters number material ≡ Ok (Some x) → V room x
  pub answers : (room : ℕ) (x : Object) → room ≤ setting.limits.nesting → may_be_answered setting.packages x ≡ true
      → object_depth x + (setting.limits.nesting - room) ≤ setting.limits.nesting → V room x

module _ (setting : Setting) (V : ℕ → Object → Type 0) (laws : AreKept setting V) where
  call_either : (room : ℕ) (taken : Bool) (plan : Plan Found) → Keeps (CallAt V room) false plan → Keeps (CallAt V room) taken plan
  call_either room taken plan h = keeps_either (CallAt V room) (call_more V room) taken plan h

  space_keeps : {A : Type 0} (P : Bool → A → Type 0) (token taken : Bool) (plan : Plan A) → ((x : A) → P false x → P true x) → Keeps P false plan
      → Keeps P taken (without_space setting.table token plan)
  space_keeps P false taken plan more h = keeps_either P more taken plan h
  space_keeps P true taken plan more h = (h, λ c. keeps_either P more true plan h)

  -- ---- what comes next

  piece_more : (room : ℕ) (p : Piece) → PieceAt V room false p → PieceAt V room true p
  piece_more room (item token x) h = h
  piece_more room dot h = h
  piece_more room closed h = refl

  piece_of_keeps : (room : ℕ) (again : Plan Piece) (taken : Bool) (found : Found) → Keeps (PieceAt V room) false again → FoundAt V room taken found
      → Keeps (PieceAt V room) taken (piece_of setting.table again found)
  piece_of_keeps room again taken (nothing token) h f = space_keeps (PieceAt V room) token taken again (piece_more room) h
  piece_of_keeps room again taken (one token x) h f = f
  piece_of_keeps room again taken lone_dot h f = tt
  piece_of_keeps room again taken the_end h f = omega arith

  closed_keeps : (room : ℕ) (close : Option ℕ) (plan : Plan Piece) → Keeps (PieceAt V room) false plan → Keeps (PieceAt V room) false (or_closed close plan)
  closed_keeps room None plan h = h
  closed_keeps room (Some c) plan h = (h, λ d. refl)

  next_item_keeps : (room : ℕ) (close : Option ℕ) (may : Plan Found) → Keeps (FoundAt V room) false may → Keeps (PieceAt V room) false (next_item setting close may)
  next_item_keeps room close may h =
      keeps_loop (PieceAt V room) (λ s. Unit {0}) (next_item_turn setting.table close may)
      (λ more all s i. closed_keeps room close (then_plan may (λ found. piece_of setting.table (more tt) found))
      (keeps_then (FoundAt V room) (PieceAt V room) false may (λ found. piece_of setting.table (more tt) found) h
      (λ taken found f. piece_of_keeps room (more tt) taken found (all tt tt) f)))
      (setting.limits.text + 1) tt tt

  -- ---- objects up to the closing character

  items_step_keeps : (room : ℕ) (more : List Object → Plan Items) (xs : List Object) (taken : Bool) (p : Piece)
      → ((ys : List Object) → All (V room) ys → Keeps (ItemsAt V room) false (more ys)) → All (V room) xs → PieceAt V room taken p
      → Keeps (ItemsAt V room) taken (items_step setting.table more xs p)
  items_step_keeps room more xs taken (item token x) all h p =
      space_keeps (ItemsAt V room) token taken (more (xs ++ x ∷ [])) (λ ys g. g) (all (xs ++ x ∷ []) (All-push (V room) xs x h p))
  items_step_keeps room more xs taken dot all h p = h
  items_step_keeps room more xs taken closed all h p = h

  items_keep : (room close : ℕ) (may : Plan Found) (xs : List Object) → Keeps (FoundAt V room) false may → All (V room) xs
      → Keeps (ItemsAt V room) false (items_after setting close may xs)
  items_keep room close may xs h all =
      keeps_loop (ItemsAt V room) (λ ys. All (V room) ys) (items_turn setting close may)
      (λ more each ys i. keeps_then (PieceAt V room) (ItemsAt V room) false (next_item setting (Some close) may) (λ p. items_step setting.table more ys p)
      (next_item_keeps room (Some close) may h) (λ taken p f. items_step_keeps room more ys taken p each i f))
      (setting.limits.text + 1) xs all

  -- ---- what a call gives

  finished_keeps : (room : ℕ) (taken token : Bool) (v : Value) → ((x : Object) → v ≡ Ok (Some x) → V room x)
      → ((refusal : StdRefusal) → v ≡ Err refusal → bytes_back refusal ≤ most_back taken) → Keeps (CallAt V room) taken (finished_plan token v)
  finished_keeps room taken token (Ok (Some x)) all back = all x refl
  finished_keeps room taken token (Ok None) all back = tt
  finished_keeps room taken token (Err refusal) all back = back refusal refl

  answered_keeps : (room : ℕ) (taken token spaced : Bool) (a : MacroAnswer) → room ≤ setting.limits.nesting
      → Keeps (CallAt V room) taken (plan_after_answer setting.packages setting.limits.nesting (setting.limits.nesting - room) token spaced a)
  answered_keeps room taken token spaced (value x) h =
      let test = may_be_answered setting.packages x && nat_le (object_depth x + (setting.limits.nesting - room)) setting.limits.nesting in
      let by : (b : Bool) → test ≡ b → Keeps (CallAt V room) taken (elim b [ true ↦ gives (one token x) | false ↦ refuses MACRO_ANSWER 0 ]) =
      λ b. elim b as (λ b. test ≡ b → Keeps (CallAt V room) taken (elim b [ true ↦ gives (one token x) | false ↦ refuses MACRO_ANSWER 0 ])) [
        | true ↦ λ e.
            let parts = and_parts (may_be_answered setting.packages x) (nat_le (object_depth x + (setting.limits.nesting - room)) setting.limits.nesting) e in
            laws.answers room x h parts.0 (leb-true (object_depth x + (setting.limits.nesting - room)) setting.limits.nesting parts.1)
        | false ↦ λ e. omega arith
      ] in
      by test refl
  answered_keeps room taken token spaced no_value h = tt
  answered_keeps room taken token spaced improper h = omega arith
  answered_keeps room taken token spaced (answer_refused code) h = omega arith

  completed_by_keeps : (room : ℕ) (taken : Bool) (call : InvokedCall) (f : Function) (token spaced : Bool) (material : Material) → room ≤ setting.limits.nesting
      → StaysIn setting.table.letters call.number (most_back taken) f → MaterialAt V setting.limits.token room material
      → Keeps (CallAt V room) taken (completed_by setting (setting.limits.nesting - room) call f token spaced material)
  completed_by_keeps room taken call (AStandard kind) token spaced material le back h =
      finished_keeps room taken token (value_of kind setting.table.letters call.number material)
      (λ x e. laws.values room kind call.number material x h e) (λ refusal e. back material refusal e)
  completed_by_keeps room taken call (User name) token spaced material le back h =
      answered_keeps room taken token spaced (setting.answer name (macro_call call material)) le

  -- after which nothing more is asked of what comes next
  completed_keeps : (room : ℕ) (taken : Bool) (call : InvokedCall) (token spaced : Bool) (material : Material) → room ≤ setting.limits.nesting
      → StaysIn setting.table.letters call.number 0 call.function → MaterialAt V setting.limits.token room material
      → Keeps (CallAt V room) taken (completed_call setting (setting.limits.nesting - room) call token spaced material)
  completed_keeps room taken call token spaced material le back h =
      call_either room taken (completed_call setting (setting.limits.nesting - room) call token spaced material)
      (completed_by_keeps room false call call.function token spaced material le back h)

  -- ---- lists

  undotted_keeps : (room : ℕ) (on : Material → Plan Found) (taken : Bool) (xs : List Object) (all : Bool) → ((t : Bool) → Keeps (CallAt V room) t (on (many xs)))
      → Keeps (CallAt V room) taken (undotted_plan on (xs, all))
  undotted_keeps room on taken xs true h = h taken
  undotted_keeps room on taken xs false h = omega arith

  tail_keeps : (room : ℕ) (on : Material → Plan Found) (xs : List Object) (tail : Object) (taken : Bool) (p : Piece) → ((t : Bool) → Keeps (CallAt V room) t (on (dotted xs tail)))
      → Keeps (CallAt V room) taken (after_tail on xs tail p)
  tail_keeps room on xs tail taken closed h = h taken
  tail_keeps room on xs tail taken dot h = omega arith
  tail_keeps room on xs tail taken (item token x) h = omega arith

  module _ (room : ℕ) (may : Plan Found) (attempts : Keeps (FoundAt V room) false may) (on : Material → Plan Found)
      (lists : (xs : List Object) → All (V room) xs → (t : Bool) → Keeps (CallAt V (suc room)) t (on (many xs)))
      (pairs : (xs : List Object) (tail : Object) → All (V room) xs → V room tail → (t : Bool) → Keeps (CallAt V (suc room)) t (on (dotted xs tail))) where
    dot_keeps : (xs : List Object) (taken : Bool) (p : Piece) → All (V room) xs → PieceAt V room taken p → Keeps (CallAt V (suc room)) taken (after_dot setting may on xs p)
    dot_keeps xs taken closed all p = elim taken as (λ t. t ≡ true → 1 ≤ most_back t) [ true ↦ λ e. omega arith | false ↦ λ e. absurd cc ] p
    dot_keeps xs taken dot all p = omega arith
    dot_keeps xs taken (item token x) all p =
        space_keeps (CallAt V (suc room)) token taken (then_plan (next_item setting (Some 41) may) (after_tail on xs x))
        (call_more V (suc room))
        (keeps_then (PieceAt V room) (CallAt V (suc room)) false (next_item setting (Some 41) may) (after_tail on xs x) (next_item_keeps room (Some 41) may attempts)
        (λ t q f. tail_keeps (suc room) on xs x t q (pairs xs x all p)))

    list_end_keeps : (taken : Bool) (xs : List Object) (b : Bool) → All (V room) xs → Keeps (CallAt V (suc room)) taken (list_end setting may on (xs, b))
    list_end_keeps taken xs true all = lists xs all taken
    list_end_keeps taken [] false all = omega arith
    list_end_keeps taken (x ∷ xs) false all =
        call_either (suc room) taken (then_plan (next_item setting (Some 41) may) (after_dot setting may on (x ∷ xs)))
        (keeps_then (PieceAt V room) (CallAt V (suc room)) false (next_item setting (Some 41) may) (after_dot setting may on (x ∷ xs)) (next_item_keeps room (Some 41) may attempts)
        (λ t p f. dot_keeps (x ∷ xs) t p all f))

  -- ---- calls, at their last byte

  one_piece_keeps : (room : ℕ) (on : Bool → Object → Plan Found) (taken : Bool) (p : Piece)
      → ((token : Bool) (x : Object) → V room x → Keeps (CallAt V (suc room)) taken (on token x)) → PieceAt V room taken p → Keeps (CallAt V (suc room)) taken (one_piece on p)
  one_piece_keeps room on taken (item token x) all p = all token x p
  one_piece_keeps room on taken dot all p = omega arith
  one_piece_keeps room on taken closed all p = omega arith

  gathered_keeps : (room : ℕ) (may : Option (Plan Found)) (call : InvokedCall) (way : Way) → room ≤ setting.limits.nesting → InnerAt V room may
      → StaysIn setting.table.letters call.number (back_of way) call.function
      → Keeps (CallAt V room) true (gathering_plan setting (setting.limits.nesting - room) may call way)
  gathered_keeps room may call Nothing le h back = completed_by_keeps room true call call.function false false no_material le back tt
  gathered_keeps room None call Next le h back = omega arith
  gathered_keeps room None call AList le h back = omega arith
  gathered_keeps room None call (Until close) le h back = omega arith
  gathered_keeps zero (Some may) call Next le h back = absurd h
  gathered_keeps zero (Some may) call AList le h back = absurd h
  gathered_keeps zero (Some may) call (Until close) le h back = absurd h
  gathered_keeps (suc room) (Some may) call Next le h back =
      call_either (suc room) true (gathering_plan setting (setting.limits.nesting - suc room) (Some may) call Next)
      (keeps_then (PieceAt V room) (CallAt V (suc room)) false (next_item setting None may)
      (one_piece (λ token x. completed_call setting (setting.limits.nesting - suc room) call token token (one_object x))) (next_item_keeps room None may h)
      (λ t p f. one_piece_keeps room (λ token x. completed_call setting (setting.limits.nesting - suc room) call token token (one_object x)) t p
      (λ token x v. completed_keeps (suc room) t call token token (one_object x) le back v) f))
  gathered_keeps (suc room) (Some may) call AList le h back =
      let on : Material → Plan Found = λ m. completed_call setting (setting.limits.nesting - suc room) call false false m in
      call_either (suc room) true (gathering_plan setting (setting.limits.nesting - suc room) (Some may) call AList)
      (keeps_then (ItemsAt V room) (CallAt V (suc room)) false (items_after setting 41 may []) (list_end setting may on) (items_keep room 41 may [] h (All-nil (V room)))
      (λ t xs f. list_end_keeps room may h on (λ ys all u. completed_keeps (suc room) u call false false (many ys) le back all)
      (λ ys tail all v u. completed_keeps (suc room) u call false false (dotted ys tail) le back (all, v)) t xs.0 xs.1 f))
  gathered_keeps (suc room) (Some may) call (Until close) le h back =
      let on : Material → Plan Found = λ m. completed_call setting (setting.limits.nesting - suc room) call false false m in
      call_either (suc room) true (gathering_plan setting (setting.limits.nesting - suc room) (Some may) call (Until close))
      (keeps_then (ItemsAt V room) (CallAt V (suc room)) false (items_after setting close may []) (undotted_plan on) (items_keep room close may [] h (All-nil (V room)))
      (λ t xs f. undotted_keeps (suc room) on t xs.0 xs.1 (λ u. completed_keeps (suc room) u call false false (many xs.0) le back f)))
  gathered_keeps room may call (Text close) le h back =
      keeps_then (Any {A = List ℕ}) (CallAt V room) true (text_to setting close []) (λ cs. completed_call setting (setting.limits.nesting - room) call false false (letters cs))
      (text_keeps setting close true []) (λ t cs f. completed_keeps room t call false false (letters cs) le back tt)
  gathered_keeps room may call (Line keep) le h back =
      keeps_then (Any {A = List ℕ}) (CallAt V room) true (line_after setting keep []) (λ cs. completed_call setting (setting.limits.nesting - room) call false false (letters cs))
      (line_keeps setting keep true []) (λ t cs f. completed_keeps room t call false false (letters cs) le back tt)
  gathered_keeps room may call Block le h back =
      keeps_then (Any {A = Unit {0}}) (CallAt V room) true (block_after setting (0, 0)) (λ u. completed_call setting (setting.limits.nesting - room) call false false no_material)
      (block_keeps setting true (0, 0)) (λ t u f. completed_keeps room t call false false no_material le back tt)
  gathered_keeps room may call Token le h back = λ marks few. completed_keeps room false call true false (marked marks) le back few
  gathered_keeps room may call EscapedToken le h back = λ marks few. completed_keeps room false call true false (marked marks) le back few

  gathered_by_keeps : (room : ℕ) (may : Option (Plan Found)) (call : InvokedCall) (o : Option Way) → way_in setting call ≡ o → room ≤ setting.limits.nesting → InnerAt V room may
      → Keeps (CallAt V room) true (gathered_by setting (setting.limits.nesting - room) may call o)
  gathered_by_keeps room may call None e le h = omega arith
  gathered_by_keeps room may call (Some way) e le h = gathered_keeps room may call way le h (way_stays setting call way e)

  called_keeps : (room : ℕ) (may : Option (Plan Found)) (call : InvokedCall) → room ≤ setting.limits.nesting → InnerAt V room may
      → Keeps (CallAt V room) true (call_plan setting (setting.limits.nesting - room) may call)
  called_keeps room may call le h = gathered_by_keeps room may call (way_in setting call) refl le h

  -- ---- dispatch

  module _ (room : ℕ) (may : Option (Plan Found)) (le : room ≤ setting.limits.nesting) (h : InnerAt V room may) where
    sub_called_keeps : (c sub : ℕ) (number : Option ℕ) (o : Option (List ℕ)) → Keeps (CallAt V room) true (sub_called setting (setting.limits.nesting - room) may c sub number o)
    sub_called_keeps c sub number None = omega arith
    sub_called_keeps c sub number (Some name) =
        called_keeps room may (record { function = function_of name; character = c; sub = Some (upper_case sub); number = number }) le h

    dispatched_keeps : (taken : Bool) (c : ℕ) (number : Option ℕ) → Keeps (CallAt V room) taken (dispatch_plan setting (setting.limits.nesting - room) may c number)
    dispatched_keeps taken c number =
        keeps_then (Any {A = Option ℕ}) (CallAt V room) taken (number_after setting number) (sub_there setting (setting.limits.nesting - room) may c) (number_keeps setting taken number)
        (λ t n f. keeps_next (CallAt V room) t (λ sub. sub_called setting (setting.limits.nesting - room) may c sub n (dispatch_at setting.table c sub))
        (λ sub small. sub_called_keeps c sub n (dispatch_at setting.table c sub)))

    macro_keeps : (c : ℕ) (o : Option (List ℕ)) → Keeps (CallAt V room) true (macro_called setting (setting.limits.nesting - room) may c o)
    macro_keeps c None = omega arith
    macro_keeps c (Some name) =
        let one_call : InvokedCall = record { function = function_of name; character = c; sub = None; number = None } in
        elim (is_dispatch_name name) as (λ b. Keeps (CallAt V room) true (elim b [
          | true ↦ dispatch_plan setting (setting.limits.nesting - room) may c None
          | false ↦ call_plan setting (setting.limits.nesting - room) may (record { function = function_of name; character = c; sub = None; number = None })
        ])) [ true ↦ dispatched_keeps true c None | false ↦ called_keeps room may one_call le h ]

    -- ---- attempts

    alone_keeps : (c : ℕ) (s : Syntax) → Keeps (CallAt V room) true (alone setting (setting.limits.nesting - room) may c s)
    alone_keeps c Whitespace = tt
    alone_keeps c TerminatingMacro = macro_keeps c (entry_at setting.table c).function
    alone_keeps c NonTerminatingMacro = macro_keeps c (entry_at setting.table c).function
    alone_keeps c Constituent = omega arith
    alone_keeps c SingleEscape = omega arith
    alone_keeps c MultipleEscape = omega arith
    alone_keeps c Invalid = omega arith

    told_keeps : (marks : List Mark) (r : Result ResolvedToken ℕ) → token_meant setting marks ≡ r → Keeps (FoundAt V room) false (told_found r)
    told_keeps marks (Ok (told_object x)) e = laws.tokens room marks x e
    told_keeps marks (Ok dot_alone) e = tt
    told_keeps marks (Err code) e = omega arith

    token_keeps : (marks : List Mark) → Keeps (FoundAt V room) false (token_found setting marks)
    token_keeps [] = tt
    token_keeps (m ∷ ms) = told_keeps (m ∷ ms) (token_meant setting (m ∷ ms)) refl

    attempt_keeps : Keeps (FoundAt V room) false (attempt_by setting (setting.limits.nesting - room) may)
    attempt_keeps = (
      λ marks few. token_keeps marks,
      λ c. keeps_weaker (CallAt V room) (FoundAt V room) (call_found V room) true (alone setting (setting.limits.nesting - room) may c (entry_at setting.table c).syntax)
          (alone_keeps c (entry_at setting.table c).syntax),
    )

  inner_keeps : (room : ℕ) → room ≤ setting.limits.nesting → InnerAt V room (inner setting room)
  unfolding inner
  inner_keeps zero le = tt
  inner_keeps (suc room) le = attempt_keeps room (inner setting room) (omega arith) (inner_keeps room (omega arith))

  pub outermost_keeps : Keeps (FoundAt V setting.limits.nesting) false (attempt setting setting.limits.nesting)
  outermost_keeps = attempt_keeps setting.limits.nesting (inner setting setting.limits.nesting) (omega arith) (inner_keeps setting.limits.nesting (omega arith))

  pub outermost_calls : (c : ℕ) (s : Syntax) → Keeps (CallAt V setting.limits.nesting) true (alone setting (setting.limits.nesting - setting.limits.nesting) (inner setting setting.limits.nesting) c s)
  outermost_calls c s = alone_keeps setting.limits.nesting (inner setting setting.limits.nesting) (omega arith) (inner_keeps setting.limits.nesting (omega arith)) c s
