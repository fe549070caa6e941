-- A form that is read under limits is read under larger ones too. There a plan has more turns and more room. So it gives what the
-- plan under the smaller limits gives, and may go on where that one is refused.
--     attempt_allowed      what is found at the front of a text, under limits of which none is smaller
--     form_widens      a form, under a larger limit of the text
use Rattle.std.proofs.Common.{◌≡◌, ℕ, zero, suc, ◌+◌, ◌-◌, ◌≤◌, Bool, true, false, List, [], ◌∷◌, ◌++◌, length, Option, Some, None, Result, Ok, Err, refl, sym, ap, subst, ◌∙◌, arith}
use Rattle.std.specs.Prelude.{nat_le, nat_lt, ◌==◌, ◌&&◌}
use Rattle.std.proofs.lemmas.Bool.{and_from, and_parts, le-leb, lt-leb, leb-true, leb-false}
use Rattle.lisp_object.specs.Object.{Object, object_depth}
use Rattle.lisp_object.specs.declared.refusal.TheConstants.{END_OF_FILE, INVALID_CHARACTER, DOT_CONTEXT, MACRO_ANSWER, MACRO_REFUSED, NO_DISPATCH, NUMERIC_ARGUMENT, TOO_DEEP, FORM_TOO_LONG, OUT_OF_PROFILE}
use Rattle.readtable_core.specs.Characters.{is_digit, upper_case}
use Rattle.readtable_core.specs.Names.{is_dispatch_name}
use Rattle.readtable_core.specs.Tables.{Table, entry_at, dispatch_at}
use Rattle.readtable_core.specs.declared.characters.Syntax.{Syntax}
use Rattle.readtable_core.specs.declared.characters.Syntax.TheVariants.{Whitespace, TerminatingMacro, NonTerminatingMacro}
use Rattle.token_scan.specs.declared.mark.Mark.{Mark}
use Rattle.user_macros.specs.Calls.{MacroAnswer, value, no_value, improper, refused as answer_refused}
use Rattle.std_macros.specs.Values.{Material, value_of, nothing as no_material, one as one_object, many, dotted, letters, marked}
use Rattle.lisp_reading.specs.declared.attempt.Found.{Found}
use Rattle.lisp_reading.specs.declared.attempt.Found.TheVariants.{Nothing as nothing, One as one, LoneDot as lone_dot, TheEnd as the_end}
use Rattle.lisp_reading.specs.declared.limits.Limits.{Limits}
use Rattle.lisp_reading.specs.declared.way.Function.{Function}
use Rattle.lisp_reading.specs.declared.way.Function.TheVariants.{Standard as AStandard, User}
use Rattle.lisp_reading.specs.declared.way.Keep.{Keep}
use Rattle.lisp_reading.specs.declared.way.Way.{Way}
use Rattle.lisp_reading.specs.declared.way.Way.TheVariants.{Nothing, Next, List as AList, Until, Text, Line, Block, Token, EscapedToken}
use Rattle.lisp_reading.specs.InvokedCalls.{InvokedCall}
use Rattle.lisp_reading.specs.Gathering.{text_turn, is_escape, kept_characters, line_turn, block_next, block_goes, block_turn, number_turn, next_digit}
use Rattle.lisp_reading.specs.Plans.{Plan, gives, refuses, takes, scans, then_plan, character, next_byte, loop_in, loop, Read, token_at_front, run}
use Rattle.lisp_reading.specs.Setting.{Setting, macro_call, way_in, function_of}
use Rattle.lisp_reading.specs.Reading.{text_to, line_after, block_after, number_after, Piece, item, dot, closed, is_whitespace, without_space, piece_of, or_closed, next_item_turn, next_item, Items, items_step, items_turn, items_after, undotted_plan, after_tail, after_dot, list_end, one_piece, finished_plan, plan_after_answer, completed_by, completed_call, opened_plan, gathering_plan, gathered_by, call_plan, sub_called, sub_there, dispatch_plan, macro_called, stands_alone, alone, token_found, attempt_by, inner, attempt, ReadingResult, form, outcome, reads_in, reads}
use Rattle.lisp_reading.specs.Answering.{may_be_answered}
use Rattle.lisp_reading.proofs.LargerLimits.{GivesToo, byte_too, gives_along, outcome_too, scanned_too, token_too, within_text}
use Rattle.lisp_reading.proofs.Steps.{and_then, run_then}

module _ (setting : Setting) (wider : Limits) where
  -- the setting with the larger limits
  abbrev wide : Setting
  wide = record setting { limits = wider }

  -- under the larger limits the second plan gives what the first one gives under the limits
  abbrev Widens : {A : Type 0} → Plan A → Plan A → Type 0
  Widens p q = (at : ℕ) (cs : List ℕ) → GivesToo (run setting.table setting.limits p at cs) (run setting.table wide.limits q at cs)

  abbrev WidensTurn : {S A : Type 0} → ((S → Plan A) → S → Plan A) → ((S → Plan A) → S → Plan A) → Type 0
  WidensTurn {S = S} {A = A} turn turn2 = (p q : S → Plan A) → ((s : S) → Widens (p s) (q s)) → (s : S) → Widens (turn p s) (turn2 q s)

  -- of attempts one call deeper
  abbrev WidensInner : Option (Plan Found) → Option (Plan Found) → Type 0
  WidensInner None may = Unit {0}
  WidensInner (Some p) None = ⊥
  WidensInner (Some p) (Some q) = Widens p q

  -- ---- parts of plans

  gives_widens : {A : Type 0} (x : A) → Widens (gives x) (gives x)
  unfolding run
  gives_widens x at cs = refl

  -- what is refused may go on in any way
  refuses_widens : {A : Type 0} (number back : ℕ) (q : Plan A) → Widens (refuses number back) q
  unfolding run
  refuses_widens number back q at cs = tt

  if_widens : {A : Type 0} (b : Bool) (p q p2 q2 : Plan A) → Widens p p2 → Widens q q2
      → Widens (elim b [ true ↦ p | false ↦ q ]) (elim b [ true ↦ p2 | false ↦ q2 ])
  if_widens true p q p2 q2 h g = h
  if_widens false p q p2 q2 h g = g

  and_then_too : {A B : Type 0} (next next2 : A → Plan B) (r r2 : Read A) → ((x : A) → Widens (next x) (next2 x)) → GivesToo r r2
      → GivesToo (and_then setting.table setting.limits next r) (and_then setting.table wide.limits next2 r2)
  and_then_too next next2 (Ok p) r2 all h =
      let first = run setting.table setting.limits (next p.0) p.1 p.2 in
      gives_along first first (and_then setting.table wide.limits next2 r2) (run setting.table wide.limits (next2 p.0) p.1 p.2)
      refl (ap (and_then setting.table wide.limits next2) h) (all p.0 p.1 p.2)
  and_then_too next next2 (Err e) r2 all h = tt

  then_widens : {A B : Type 0} (p q : Plan A) (next next2 : A → Plan B) → Widens p q → ((x : A) → Widens (next x) (next2 x))
      → Widens (then_plan p next) (then_plan q next2)
  then_widens p q next next2 h all at cs =
      let r = run setting.table setting.limits p at cs in
      let r2 = run setting.table wide.limits q at cs in
      gives_along (run setting.table setting.limits (then_plan p next) at cs) (and_then setting.table setting.limits next r)
      (run setting.table wide.limits (then_plan q next2) at cs) (and_then setting.table wide.limits next2 r2)
      (run_then setting.table setting.limits p next at cs) (run_then setting.table wide.limits q next2 at cs)
      (and_then_too next next2 r r2 all (h at cs))

  -- what gives an object, where the test is passed under the larger limits too
  opens_widens : {A : Type 0} (b b2 : Bool) (x : A) (number back : ℕ) (q : Plan A) → (b ≡ true → b2 ≡ true) → Widens (elim b [ true ↦ gives x | false ↦ refuses number back ]) (elim b2 [ true ↦ gives x | false ↦ q ])
  opens_widens true b2 x number back q too = subst (λ (c : Bool). Widens (gives x) (elim c [ true ↦ gives x | false ↦ q ])) (sym (too refl)) (gives_widens x)
  opens_widens false b2 x number back q too = refuses_widens number back (elim b2 [ true ↦ gives x | false ↦ q ])

  module _ (larger : setting.limits.text ≤ wider.text) (longer : setting.limits.token ≤ wider.token) (deeper : setting.limits.nesting ≤ wider.nesting) where
    takes_widens : {A : Type 0} (p q : Plan A) (test : ℕ → Bool) (on on2 : ℕ → Plan A) → Widens p q → ((c : ℕ) → Widens (on c) (on2 c))
        → Widens (takes p test on) (takes q test on2)
    unfolding run
    takes_widens p q test on on2 h all at [] = h at []
    takes_widens p q test on on2 h all at (c ∷ cs) =
        byte_too (test c) (nat_le setting.limits.text at) (nat_le wider.text at) at
        (run setting.table setting.limits (on c) (at + 1) cs) (run setting.table setting.limits p at (c ∷ cs))
        (run setting.table wide.limits (on2 c) (at + 1) cs) (run setting.table wide.limits q at (c ∷ cs))
        (λ e. lt-leb wider.text at (omega (arith, larger, leb-false setting.limits.text at e))) (all c (at + 1) cs) (h at (c ∷ cs))

    scans_widens : {A : Type 0} (escaped : Bool) (limit limit2 : ℕ) (on on2 : List Mark → Plan A) → limit ≤ limit2 → ((marks : List Mark) → Widens (on marks) (on2 marks))
        → Widens (scans escaped limit on) (scans escaped limit2 on2)
    unfolding run
    scans_widens escaped limit limit2 on on2 le all at cs =
        let r = token_at_front escaped setting.table limit at cs in
        let r2 = token_at_front escaped setting.table limit2 at cs in
        and_then_too on on2 (within_text setting.limits.text r) (within_text wider.text r2) all
        (token_too setting.limits.text wider.text larger r r2 (scanned_too limit limit2 le escaped setting.table at cs))

    -- a plan gives the same under the larger limits
    same_widens : {A : Type 0} (plan : Plan A) → Widens plan plan
    same_widens (gives x) = gives_widens x
    same_widens (refuses number back) = refuses_widens number back (refuses number back)
    same_widens (takes other test on) = takes_widens other other test on on (same_widens other) (λ c. same_widens (on c))
    same_widens (scans escaped limit on) = scans_widens escaped limit limit on on (omega arith) (λ marks. same_widens (on marks))

    character_widens : {A : Type 0} (on on2 : ℕ → Plan A) (c : ℕ) → Widens (on c) (on2 c) → Widens (character on c) (character on2 c)
    character_widens on on2 c h =
        if_widens (nat_lt c 128) (on c) (refuses INVALID_CHARACTER 1) (on2 c) (refuses INVALID_CHARACTER 1) h
        (refuses_widens INVALID_CHARACTER 1 (refuses INVALID_CHARACTER 1))

    next_byte_widens : {A : Type 0} (on on2 : ℕ → Plan A) → ((c : ℕ) → Widens (on c) (on2 c)) → Widens (next_byte on) (next_byte on2)
    next_byte_widens on on2 all =
        takes_widens (refuses END_OF_FILE 0) (refuses END_OF_FILE 0) (λ c. true) (λ c. character on c) (λ c. character on2 c)
        (refuses_widens END_OF_FILE 0 (refuses END_OF_FILE 0)) (λ c. character_widens on on2 c (all c))

    -- ---- turns: under a larger limit of the text there are more

    loop_in_widens : {S A : Type 0} (turn turn2 : (S → Plan A) → S → Plan A) → WidensTurn turn turn2 → (n m : ℕ) → n ≤ m → (s : S)
        → Widens (loop_in turn n s) (loop_in turn2 m s)
    unfolding loop_in
    loop_in_widens turn turn2 all zero m le s = refuses_widens FORM_TOO_LONG 0 (loop_in turn2 m s)
    loop_in_widens turn turn2 all (suc n) zero le s = absurd (omega arith)
    loop_in_widens turn turn2 all (suc n) (suc m) le s =
        all (λ t. loop_in turn n t) (λ t. loop_in turn2 m t) (λ t. loop_in_widens turn turn2 all n m (omega arith) t) s

    loop_widens : {S A : Type 0} (turn turn2 : (S → Plan A) → S → Plan A) → WidensTurn turn turn2 → (s : S)
        → Widens (loop setting.limits turn s) (loop wide.limits turn2 s)
    loop_widens turn turn2 all s = loop_in_widens turn turn2 all (setting.limits.text + 1) (wider.text + 1) (omega (arith, larger)) s

    text_turn_widens : (terminator : ℕ) → WidensTurn (text_turn setting.table terminator) (text_turn setting.table terminator)
    text_turn_widens terminator p q all s =
        let on : (List ℕ → Plan (List ℕ)) → ℕ → Plan (List ℕ) =
        λ more c. elim (is_escape (entry_at setting.table c).syntax) [ true ↦ next_byte (λ d. more (s ++ d ∷ [])) | false ↦ more (s ++ c ∷ []) ] in
        next_byte_widens (λ c. elim (c == terminator) [ true ↦ gives s | false ↦ on p c ]) (λ c. elim (c == terminator) [ true ↦ gives s | false ↦ on q c ])
        (λ c. if_widens (c == terminator) (gives s) (on p c) (gives s) (on q c) (gives_widens s)
        (if_widens (is_escape (entry_at setting.table c).syntax) (next_byte (λ d. p (s ++ d ∷ []))) (p (s ++ c ∷ []))
        (next_byte (λ d. q (s ++ d ∷ []))) (q (s ++ c ∷ []))
        (next_byte_widens (λ d. p (s ++ d ∷ [])) (λ d. q (s ++ d ∷ [])) (λ d. all (s ++ d ∷ []))) (all (s ++ c ∷ []))))

    text_widens : (terminator : ℕ) (cs : List ℕ) → Widens (text_to setting terminator cs) (text_to wide terminator cs)
    text_widens terminator cs = loop_widens (text_turn setting.table terminator) (text_turn setting.table terminator) (text_turn_widens terminator) cs

    line_turn_widens : (keep : Keep) → WidensTurn (line_turn keep) (line_turn keep)
    line_turn_widens keep p q all s =
        let on : (List ℕ → Plan (List ℕ)) → ℕ → Plan (List ℕ) = λ more c. elim (c == 10) [ true ↦ gives s | false ↦ more (kept_characters keep s c) ] in
        takes_widens (gives s) (gives s) (λ c. true) (character (on p)) (character (on q)) (gives_widens s)
        (λ c. character_widens (on p) (on q) c
        (if_widens (c == 10) (gives s) (p (kept_characters keep s c)) (gives s) (q (kept_characters keep s c)) (gives_widens s) (all (kept_characters keep s c))))

    line_widens : (keep : Keep) (cs : List ℕ) → Widens (line_after setting keep cs) (line_after wide keep cs)
    line_widens keep cs = loop_widens (line_turn keep) (line_turn keep) (line_turn_widens keep) cs

    goes_widens : (p q : ℕ × ℕ → Plan (Unit {0})) → ((s : ℕ × ℕ) → Widens (p s) (q s)) → (next : Option (ℕ × ℕ)) → Widens (block_goes p next) (block_goes q next)
    goes_widens p q all None = gives_widens tt
    goes_widens p q all (Some s) = all s

    block_widens : (levels : ℕ × ℕ) → Widens (block_after setting levels) (block_after wide levels)
    block_widens levels =
        loop_widens block_turn block_turn
        (λ p q all s. next_byte_widens (λ c. block_goes p (block_next s c)) (λ c. block_goes q (block_next s c)) (λ c. goes_widens p q all (block_next s c))) levels

    number_widens : (number : Option ℕ) → Widens (number_after setting number) (number_after wide number)
    number_widens number =
        loop_widens number_turn number_turn
        (λ p q all n. takes_widens (gives n) (gives n) is_digit
        (λ c. elim (nat_le (next_digit n c) 999999) [ true ↦ p (Some (next_digit n c)) | false ↦ refuses NUMERIC_ARGUMENT 1 ])
        (λ c. elim (nat_le (next_digit n c) 999999) [ true ↦ q (Some (next_digit n c)) | false ↦ refuses NUMERIC_ARGUMENT 1 ]) (gives_widens n)
        (λ c. if_widens (nat_le (next_digit n c) 999999) (p (Some (next_digit n c))) (refuses NUMERIC_ARGUMENT 1) (q (Some (next_digit n c))) (refuses NUMERIC_ARGUMENT 1)
        (all (Some (next_digit n c))) (refuses_widens NUMERIC_ARGUMENT 1 (refuses NUMERIC_ARGUMENT 1)))) number

    -- ---- what comes next inside a call

    space_widens : {A : Type 0} (token : Bool) (p q : Plan A) → Widens p q → Widens (without_space setting.table token p) (without_space setting.table token q)
    space_widens false p q h = h
    space_widens true p q h = takes_widens p q (is_whitespace setting.table) (λ c. p) (λ c. q) h (λ c. h)

    piece_widens : (p q : Plan Piece) (found : Found) → Widens p q → Widens (piece_of setting.table p found) (piece_of setting.table q found)
    piece_widens p q (nothing token) h = space_widens token p q h
    piece_widens p q (one token x) h = gives_widens (item token x)
    piece_widens p q lone_dot h = gives_widens dot
    piece_widens p q the_end h = refuses_widens END_OF_FILE 0 (refuses END_OF_FILE 0)

    closed_widens : (close : Option ℕ) (p q : Plan Piece) → Widens p q → Widens (or_closed close p) (or_closed close q)
    closed_widens None p q h = h
    closed_widens (Some close) p q h =
        takes_widens p q (λ c. c == close) (λ c. gives closed) (λ c. gives closed) h (λ c. gives_widens closed)

    next_item_widens : (close : Option ℕ) (p q : Plan Found) → Widens p q → Widens (next_item setting close p) (next_item wide close q)
    next_item_widens close p q h =
        loop_widens (next_item_turn setting.table close p) (next_item_turn setting.table close q)
        (λ more more2 all u.
        closed_widens close (then_plan p (λ found. piece_of setting.table (more tt) found)) (then_plan q (λ found. piece_of setting.table (more2 tt) found))
        (then_widens p q (λ found. piece_of setting.table (more tt) found) (λ found. piece_of setting.table (more2 tt) found) h
        (λ found. piece_widens (more tt) (more2 tt) found (all tt)))) tt

    item_widens : (p q : List Object → Plan Items) (xs : List Object) (piece : Piece) → ((ys : List Object) → Widens (p ys) (q ys))
        → Widens (items_step setting.table p xs piece) (items_step setting.table q xs piece)
    item_widens p q xs closed all = gives_widens (xs, true)
    item_widens p q xs dot all = gives_widens (xs, false)
    item_widens p q xs (item token x) all = space_widens token (p (xs ++ x ∷ [])) (q (xs ++ x ∷ [])) (all (xs ++ x ∷ []))

    items_widen : (close : ℕ) (p q : Plan Found) (xs : List Object) → Widens p q → Widens (items_after setting close p xs) (items_after wide close q xs)
    items_widen close p q xs h =
        loop_widens (items_turn setting close p) (items_turn wide close q)
        (λ more more2 all ys.
        then_widens (next_item setting (Some close) p) (next_item wide (Some close) q)
        (λ piece. items_step setting.table more ys piece) (λ piece. items_step setting.table more2 ys piece)
        (next_item_widens (Some close) p q h) (λ piece. item_widens more more2 ys piece all)) xs

    -- ---- the end of a list

    -- what is done with what was gathered
    module _ (on on2 : Material → Plan Found) (done : (material : Material) → Widens (on material) (on2 material)) where
      closed_tail_widens : (xs : List Object) (x : Object) (piece : Piece) → Widens (after_tail on xs x piece) (after_tail on2 xs x piece)
      closed_tail_widens xs x closed = done (dotted xs x)
      closed_tail_widens xs x _ = refuses_widens DOT_CONTEXT 0 (refuses DOT_CONTEXT 0)

      tail_widens : (p q : Plan Found) (xs : List Object) (piece : Piece) → Widens p q → Widens (after_dot setting p on xs piece) (after_dot wide q on2 xs piece)
      tail_widens p q xs closed h = refuses_widens DOT_CONTEXT 1 (refuses DOT_CONTEXT 1)
      tail_widens p q xs dot h = refuses_widens DOT_CONTEXT 0 (refuses DOT_CONTEXT 0)
      tail_widens p q xs (item token x) h =
          space_widens token (then_plan (next_item setting (Some 41) p) (after_tail on xs x)) (then_plan (next_item wide (Some 41) q) (after_tail on2 xs x))
          (then_widens (next_item setting (Some 41) p) (next_item wide (Some 41) q) (after_tail on xs x) (after_tail on2 xs x)
          (next_item_widens (Some 41) p q h) (λ piece. closed_tail_widens xs x piece))

      end_widens : (p q : Plan Found) (items : Items) → Widens p q → Widens (list_end setting p on items) (list_end wide q on2 items)
      end_widens p q (xs, true) h = done (many xs)
      end_widens p q ([], false) h = refuses_widens DOT_CONTEXT 0 (refuses DOT_CONTEXT 0)
      end_widens p q (x ∷ xs, false) h =
          then_widens (next_item setting (Some 41) p) (next_item wide (Some 41) q) (after_dot setting p on (x ∷ xs)) (after_dot wide q on2 (x ∷ xs))
          (next_item_widens (Some 41) p q h) (λ piece. tail_widens p q (x ∷ xs) piece h)

      undotted_widens : (items : Items) → Widens (undotted_plan on items) (undotted_plan on2 items)
      undotted_widens (xs, true) = done (many xs)
      undotted_widens (xs, false) = refuses_widens DOT_CONTEXT 0 (refuses DOT_CONTEXT 0)

    piece_done : (on on2 : Bool → Object → Plan Found) → ((token : Bool) (x : Object) → Widens (on token x) (on2 token x)) → (piece : Piece)
        → Widens (one_piece on piece) (one_piece on2 piece)
    piece_done on on2 all (item token x) = all token x
    piece_done on on2 all _ = refuses_widens DOT_CONTEXT 0 (refuses DOT_CONTEXT 0)

    -- ---- what a call gives: an answer may be as deep as the nesting allows

    answer_widens : (depth : ℕ) (token spaced : Bool) (answer : MacroAnswer) → Widens (plan_after_answer setting.packages setting.limits.nesting depth token spaced answer) (plan_after_answer setting.packages wider.nesting depth token spaced answer)
    answer_widens depth token spaced (value x) =
        let may = may_be_answered setting.packages x in
        opens_widens (may && nat_le (object_depth x + depth) setting.limits.nesting) (may && nat_le (object_depth x + depth) wider.nesting) (one token x) MACRO_ANSWER 0 (refuses MACRO_ANSWER 0)
        (λ e. let both = and_parts may (nat_le (object_depth x + depth) setting.limits.nesting) e in
        and_from may (nat_le (object_depth x + depth) wider.nesting) both.0
        (le-leb (object_depth x + depth) wider.nesting (omega (arith, deeper, leb-true (object_depth x + depth) setting.limits.nesting both.1))))
    answer_widens depth token spaced no_value = gives_widens (nothing spaced)
    answer_widens depth token spaced improper = refuses_widens MACRO_ANSWER 0 (refuses MACRO_ANSWER 0)
    answer_widens depth token spaced (answer_refused number) = refuses_widens MACRO_REFUSED 0 (refuses MACRO_REFUSED 0)

    by_function : (depth : ℕ) (call : InvokedCall) (function : Function) (token spaced : Bool) (material : Material) → Widens (completed_by setting depth call function token spaced material) (completed_by wide depth call function token spaced material)
    by_function depth call (AStandard kind) token spaced material = same_widens (finished_plan token (value_of kind setting.table.letters call.number material))
    by_function depth call (User name) token spaced material = answer_widens depth token spaced (setting.answer name (macro_call call material))

    completed_widens : (depth : ℕ) (call : InvokedCall) (token spaced : Bool) (material : Material) → Widens (completed_call setting depth call token spaced material) (completed_call wide depth call token spaced material)
    completed_widens depth call token spaced material = by_function depth call call.function token spaced material

    -- ---- calls

    opened_widens : (may may2 : Option (Plan Found)) (on on2 : Plan Found → Plan Found) → WidensInner may may2
        → ((p q : Plan Found) → Widens p q → Widens (on p) (on2 q)) → Widens (opened_plan may on) (opened_plan may2 on2)
    opened_widens None may2 on on2 h all = refuses_widens TOO_DEEP 1 (opened_plan may2 on2)
    opened_widens (Some p) None on on2 h all = absurd h
    opened_widens (Some p) (Some q) on on2 h all = all p q h

    module _ (depth : ℕ) (may may2 : Option (Plan Found)) (inside : WidensInner may may2) where
      abbrev on_marks : Setting → InvokedCall → List Mark → Plan Found
      on_marks by call marks = completed_call by depth call true false (marked marks)

      token_call_widens : (escaped : Bool) (call : InvokedCall) → Widens (scans escaped setting.limits.token (on_marks setting call)) (scans escaped wider.token (on_marks wide call))
      token_call_widens escaped call =
          scans_widens escaped setting.limits.token wider.token (on_marks setting call) (on_marks wide call) longer (λ marks. completed_widens depth call true false (marked marks))

      gathered_widens : (call : InvokedCall) (way : Way) → Widens (gathering_plan setting depth may call way) (gathering_plan wide depth may2 call way)
      gathered_widens call Nothing = completed_widens depth call false false no_material
      gathered_widens call Next =
          let on : Setting → Bool → Object → Plan Found = λ by token x. completed_call by depth call token token (one_object x) in
          opened_widens may may2 (λ p. then_plan (next_item setting None p) (one_piece (on setting))) (λ q. then_plan (next_item wide None q) (one_piece (on wide))) inside
          (λ p q h. then_widens (next_item setting None p) (next_item wide None q) (one_piece (on setting)) (one_piece (on wide)) (next_item_widens None p q h)
          (λ piece. piece_done (on setting) (on wide) (λ token x. completed_widens depth call token token (one_object x)) piece))
      gathered_widens call AList =
          let on : Setting → Material → Plan Found = λ by m. completed_call by depth call false false m in
          opened_widens may may2 (λ p. then_plan (items_after setting 41 p []) (list_end setting p (on setting))) (λ q. then_plan (items_after wide 41 q []) (list_end wide q (on wide))) inside
          (λ p q h. then_widens (items_after setting 41 p []) (items_after wide 41 q []) (list_end setting p (on setting)) (list_end wide q (on wide))
          (items_widen 41 p q [] h) (λ items. end_widens (on setting) (on wide) (λ m. completed_widens depth call false false m) p q items h))
      gathered_widens call (Until close) =
          let on : Setting → Material → Plan Found = λ by m. completed_call by depth call false false m in
          opened_widens may may2 (λ p. then_plan (items_after setting close p []) (undotted_plan (on setting))) (λ q. then_plan (items_after wide close q []) (undotted_plan (on wide))) inside
          (λ p q h. then_widens (items_after setting close p []) (items_after wide close q []) (undotted_plan (on setting)) (undotted_plan (on wide)) (items_widen close p q [] h)
          (λ items. undotted_widens (on setting) (on wide) (λ m. completed_widens depth call false false m) items))
      gathered_widens call (Text close) =
          then_widens (text_to setting close []) (text_to wide close []) (λ cs. completed_call setting depth call false false (letters cs))
          (λ cs. completed_call wide depth call false false (letters cs)) (text_widens close []) (λ cs. completed_widens depth call false false (letters cs))
      gathered_widens call (Line keep) =
          then_widens (line_after setting keep []) (line_after wide keep []) (λ cs. completed_call setting depth call false false (letters cs))
          (λ cs. completed_call wide depth call false false (letters cs)) (line_widens keep []) (λ cs. completed_widens depth call false false (letters cs))
      gathered_widens call Block =
          then_widens (block_after setting (0, 0)) (block_after wide (0, 0)) (λ u. completed_call setting depth call false false no_material)
          (λ u. completed_call wide depth call false false no_material) (block_widens (0, 0)) (λ u. completed_widens depth call false false no_material)
      gathered_widens call Token = token_call_widens false call
      gathered_widens call EscapedToken = token_call_widens true call

      way_widens : (call : InvokedCall) (way : Option Way) → Widens (gathered_by setting depth may call way) (gathered_by wide depth may2 call way)
      way_widens call None = refuses_widens OUT_OF_PROFILE 1 (refuses OUT_OF_PROFILE 1)
      way_widens call (Some way) = gathered_widens call way

      called_widens : (call : InvokedCall) → Widens (call_plan setting depth may call) (call_plan wide depth may2 call)
      called_widens call = way_widens call (way_in setting call)

      sub_widens : (c sub : ℕ) (number : Option ℕ) (name : Option (List ℕ))
          → Widens (sub_called setting depth may c sub number name) (sub_called wide depth may2 c sub number name)
      sub_widens c sub number None = refuses_widens NO_DISPATCH 1 (refuses NO_DISPATCH 1)
      sub_widens c sub number (Some name) =
          called_widens (record { function = function_of name; character = c; sub = Some (upper_case sub); number = number })

      dispatched_widens : (c : ℕ) → Widens (dispatch_plan setting depth may c None) (dispatch_plan wide depth may2 c None)
      dispatched_widens c =
          then_widens (number_after setting None) (number_after wide None) (sub_there setting depth may c) (sub_there wide depth may2 c) (number_widens None)
          (λ number. next_byte_widens (λ sub. sub_called setting depth may c sub number (dispatch_at setting.table c sub))
          (λ sub. sub_called wide depth may2 c sub number (dispatch_at setting.table c sub)) (λ sub. sub_widens c sub number (dispatch_at setting.table c sub)))

      macro_widens : (c : ℕ) (name : Option (List ℕ)) → Widens (macro_called setting depth may c name) (macro_called wide depth may2 c name)
      macro_widens c None = refuses_widens OUT_OF_PROFILE 1 (refuses OUT_OF_PROFILE 1)
      macro_widens c (Some name) =
          let call : InvokedCall = record { function = function_of name; character = c; sub = None; number = None } in
          if_widens (is_dispatch_name name) (dispatch_plan setting depth may c None) (call_plan setting depth may call)
          (dispatch_plan wide depth may2 c None) (call_plan wide depth may2 call) (dispatched_widens c) (called_widens call)

      alone_widens : (c : ℕ) (s : Syntax) → Widens (alone setting depth may c s) (alone wide depth may2 c s)
      alone_widens c Whitespace = gives_widens (nothing false)
      alone_widens c TerminatingMacro = macro_widens c (entry_at setting.table c).function
      alone_widens c NonTerminatingMacro = macro_widens c (entry_at setting.table c).function
      alone_widens c _ = refuses_widens INVALID_CHARACTER 1 (refuses INVALID_CHARACTER 1)

      attempt_widens : Widens (attempt_by setting depth may) (attempt_by wide depth may2)
      attempt_widens =
          takes_widens (scans false setting.limits.token (token_found setting)) (scans false wider.token (token_found wide)) (λ c. stands_alone (entry_at setting.table c).syntax)
          (λ c. alone setting depth may c (entry_at setting.table c).syntax) (λ c. alone wide depth may2 c (entry_at setting.table c).syntax)
          (scans_widens false setting.limits.token wider.token (token_found setting) (token_found wide) longer (λ marks. same_widens (token_found setting marks)))
          (λ c. alone_widens c (entry_at setting.table c).syntax)

    -- as many calls are as_many in both, so more may be opened under the larger limit
    at_depth : (room room2 : ℕ) → room + wider.nesting ≡ room2 + setting.limits.nesting → WidensInner (inner setting room) (inner wide room2) → Widens (attempt setting room) (attempt wide room2)
    at_depth room room2 as_many inside =
        let depth : setting.limits.nesting - room ≡ wider.nesting - room2 = omega (arith, as_many, deeper) in
        subst (λ (d : ℕ). Widens (attempt setting room) (attempt_by wide d (inner wide room2))) depth
        (attempt_widens (setting.limits.nesting - room) (inner setting room) (inner wide room2) inside)

    inner_widens : (room room2 : ℕ) → room + wider.nesting ≡ room2 + setting.limits.nesting → WidensInner (inner setting room) (inner wide room2)
    unfolding inner
    inner_widens zero room2 as_many = tt
    inner_widens (suc room) zero as_many = absurd (omega (arith, as_many, deeper))
    inner_widens (suc room) (suc room2) as_many =
        let before : room + wider.nesting ≡ room2 + setting.limits.nesting = omega (arith, as_many) in
        at_depth room room2 before (inner_widens room room2 before)

    attempts_widen : (room room2 : ℕ) → room + wider.nesting ≡ room2 + setting.limits.nesting → Widens (attempt setting room) (attempt wide room2)
    attempts_widen room room2 as_many = at_depth room room2 as_many (inner_widens room room2 as_many)

    form_too : (x : Object) (from «end» next n start : ℕ) (text : List ℕ) → reads_in setting n start text ≡ form x from «end» next
        → reads_in wide n start text ≡ form x from «end» next
    unfolding reads_in
    form_too x from «end» next zero start text e = cc
    form_too x from «end» next (suc n) start text e =
        outcome_too setting.table x from «end» next (λ at cs. reads_in setting n at cs) (λ at cs. reads_in wide n at cs) start
        (run setting.table setting.limits (attempt setting setting.limits.nesting) 0 text)
        (run setting.table wider (attempt wide wider.nesting) 0 text)
        (λ at cs f. form_too x from «end» next n at cs f) (attempts_widen setting.limits.nesting wider.nesting (omega arith) 0 text) e

-- what is found at the front of a text stays what it is under larger limits
pub attempt_allowed : (setting : Setting) (wider : Limits) (text : List ℕ) (v : Found × ℕ × List ℕ) → setting.limits.text ≤ wider.text → setting.limits.token ≤ wider.token → setting.limits.nesting ≤ wider.nesting
    → run setting.table setting.limits (attempt setting setting.limits.nesting) 0 text ≡ Ok v
    → run setting.table wider (attempt (record setting { limits = wider }) wider.nesting) 0 text ≡ Ok v
attempt_allowed setting wider text v larger longer deeper e =
    subst (λ (r : Read Found). GivesToo r (run setting.table wider (attempt (record setting { limits = wider }) wider.nesting) 0 text)) e
    (attempts_widen setting wider larger longer deeper setting.limits.nesting wider.nesting (omega arith) 0 text)

-- a form stays what it is under a larger limit of the text, and where it is
pub form_widens : (setting : Setting) (text : List ℕ) (most : ℕ) (x : Object) (start «end» next : ℕ) → setting.limits.text ≤ most
    → reads setting text ≡ form x start «end» next → reads (record setting { limits = record setting.limits { text = most } }) text ≡ form x start «end» next
unfolding reads
form_widens setting text most x start «end» next larger e =
    form_too setting (record setting.limits { text = most }) larger (omega arith) (omega arith) x start «end» next (length text + 1) 0 text e
