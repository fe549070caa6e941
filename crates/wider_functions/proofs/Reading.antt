-- A form that is read with some macro functions is read with more of them. The plan that has more gives what the one that has fewer
-- gives, and may go on where that one is refused.
--     reading_widens      a form stays what it is, and where it is
use Rattle.std.proofs.Common.{◌≡◌, ℕ, zero, suc, ◌+◌, ◌-◌, Bool, true, false, List, [], ◌∷◌, ◌++◌, length, Option, Some, None, Result, Ok, Err, refl, sym, ap, subst, ◌∙◌, cond}
use Rattle.std.specs.Prelude.{nat_le, nat_lt, ◌==◌, option_map}
use Rattle.lisp_object.specs.Object.{Object}
use Rattle.lisp_object.specs.declared.refusal.TheConstants.{END_OF_FILE, INVALID_CHARACTER, DOT_CONTEXT, NO_DISPATCH, TOO_DEEP, FORM_TOO_LONG, OUT_OF_PROFILE}
use Rattle.readtable_core.specs.Characters.{upper_case}
use Rattle.readtable_core.specs.Names.{is_among, is_dispatch_name}
use Rattle.readtable_core.specs.Tables.{Table, entry_at, dispatch_at}
use Rattle.readtable_core.specs.declared.characters.Syntax.{Syntax}
use Rattle.readtable_core.specs.declared.characters.Syntax.TheVariants.{Whitespace, Constituent, TerminatingMacro, NonTerminatingMacro, SingleEscape, MultipleEscape, Invalid}
use Rattle.package_table.specs.Table.{Name, Table as Packages}
use Rattle.token_scan.specs.declared.mark.Mark.{Mark}
use Rattle.user_macros.specs.Calls.{MacroCall, refused as answer_refused}
use Rattle.user_macros.specs.Functions.{Functions, named_way, named_answer}
use Rattle.std_macros.specs.Values.{Material, nothing as no_material, one as one_object, many as many_objects, letters, marked}
use Rattle.lisp_reading.specs.declared.limits.Limits.{Limits}
use Rattle.lisp_reading.specs.declared.attempt.Found.{Found}
use Rattle.lisp_reading.specs.declared.attempt.Found.TheVariants.{Nothing as nothing, One as one, LoneDot as lone_dot, TheEnd as the_end}
use Rattle.lisp_reading.specs.declared.way.Function.{Function}
use Rattle.lisp_reading.specs.declared.way.Function.TheVariants.{Standard as AStandard, User}
use Rattle.lisp_reading.specs.declared.way.Way.{Way}
use Rattle.lisp_reading.specs.declared.way.Way.TheVariants.{Nothing, Next, List as AList, Until, Text, Line, Block, Token, EscapedToken}
use Rattle.lisp_reading.specs.InvokedCalls.{InvokedCall, caller}
use Rattle.lisp_reading.specs.Plans.{Plan, gives, refuses, takes, scans, then_plan, next_byte, character, loop_in, loop, Fault, Read, within, limited_token, token_at_front, run}
use Rattle.lisp_reading.specs.Setting.{Setting, setting_of, macro_call, user_way, way_in, function_of}
use Rattle.lisp_reading.specs.Reading.{text_to, line_after, block_after, number_after, Piece, item, dot, closed, is_whitespace, without_space, piece_of, or_closed, next_item_turn, next_item, Items, items_step, items_turn, items_after, undotted_plan, after_tail, after_dot, list_end, one_piece, plan_after_answer, completed_call, opened_plan, gathering_plan, gathered_by, call_plan, sub_called, sub_there, dispatch_plan, macro_called, stands_alone, alone, token_found, attempt_by, inner, attempt, ReadingResult, form, outcome, reads_in, reads}
use Rattle.lisp_reading.proofs.Steps.{and_then, run_then}
use Rattle.wider_functions.specs.Among.{AreAmong}

-- ---- results

-- what the first gives the second gives too; where the first is a fault, nothing is said
abbrev GivesToo : {B : Type 0} → Result B Fault → Result B Fault → Type 0
GivesToo (Ok v) r = r ≡ Ok v
GivesToo (Err e) r = Unit {0}

itself : {B : Type 0} (r : Result B Fault) → GivesToo r r
itself (Ok v) = refl
itself (Err e) = tt

gives_along : {B : Type 0} (r s r2 s2 : Result B Fault) → r ≡ s → r2 ≡ s2 → GivesToo s s2 → GivesToo r r2
gives_along {B = B} r s r2 s2 e e2 h =
    subst (λ (q : Result B Fault). GivesToo q r2) (sym e) (subst (λ (q : Result B Fault). GivesToo s q) (sym e2) h)

byte_too : {A : Type 0} (b full : Bool) (at : ℕ) (r s r2 s2 : Read A) → GivesToo r r2 → GivesToo s s2
    → GivesToo {B = A × ℕ × List ℕ} (elim b [ true ↦ within full at r | false ↦ s ]) (elim b [ true ↦ within full at r2 | false ↦ s2 ])
byte_too true true at r s r2 s2 h g = tt
byte_too true false at r s r2 s2 h g = h
byte_too false full at r s r2 s2 h g = g

outcome_too : (table : Table) (x : Object) (from «end» next : ℕ) (again again2 : ℕ → List ℕ → ReadingResult) (start : ℕ) (r r2 : Read Found)
    → ((at : ℕ) (cs : List ℕ) → again at cs ≡ form x from «end» next → again2 at cs ≡ form x from «end» next) → GivesToo r r2
    → outcome table start again r ≡ form x from «end» next → outcome table start again2 r2 ≡ form x from «end» next
outcome_too table x from «end» next again again2 start (Ok (nothing token, at, cs)) r2 all h e = ap (outcome table start again2) h ∙ all (start + at) cs e
outcome_too table x from «end» next again again2 start (Ok (one token y, at, cs)) r2 all h e = ap (outcome table start again2) h ∙ e
outcome_too table x from «end» next again again2 start (Ok (lone_dot, at, cs)) r2 all h e = cc
outcome_too table x from «end» next again again2 start (Ok (the_end, at, cs)) r2 all h e = cc
outcome_too table x from «end» next again again2 start (Err f) r2 all h e = cc

module _ (limits : Limits) (table : Table) (base : ℕ) (packages : Packages) (current : Name) (fewer more : Functions) (among : AreAmong fewer more) where
  -- the two settings
  abbrev few : Setting
  few = setting_of limits table base packages current fewer

  abbrev many : Setting
  many = setting_of limits table base packages current more

  -- the second plan gives what the first one gives
  abbrev Widens : {A : Type 0} → Plan A → Plan A → Type 0
  Widens p q = (at : ℕ) (cs : List ℕ) → GivesToo (run table limits p at cs) (run table limits q at cs)

  abbrev WidensTurn : {S A : Type 0} → ((S → Plan A) → S → Plan A) → ((S → Plan A) → S → Plan A) → Type 0
  WidensTurn {S = S} {A = A} turn turn2 = (p q : S → Plan A) → ((s : S) → Widens (p s) (q s)) → (s : S) → Widens (turn p s) (turn2 q s)

  -- of attempts one call deeper
  abbrev WidensInner : Option (Plan Found) → Option (Plan Found) → Type 0
  WidensInner None may = Unit {0}
  WidensInner (Some p) None = ⊥
  WidensInner (Some p) (Some q) = Widens p q

  -- ---- parts of plans

  same_widens : {A : Type 0} (p : Plan A) → Widens p p
  same_widens p at cs = itself (run table limits p at cs)

  equal_widens : {A : Type 0} (p q : Plan A) → q ≡ p → Widens p q
  equal_widens p q e = subst (λ r. Widens p r) (sym e) (same_widens p)

  -- what is refused may go on in any way
  refuses_widens : {A : Type 0} (number back : ℕ) (q : Plan A) → Widens (refuses number back) q
  unfolding run
  refuses_widens number back q at cs = tt

  if_widens : {A : Type 0} (b : Bool) (p q p2 q2 : Plan A) → Widens p p2 → Widens q q2
      → Widens (elim b [ true ↦ p | false ↦ q ]) (elim b [ true ↦ p2 | false ↦ q2 ])
  if_widens true p q p2 q2 h g = h
  if_widens false p q p2 q2 h g = g

  and_then_too : {A B : Type 0} (next next2 : A → Plan B) (r r2 : Read A) → ((x : A) → Widens (next x) (next2 x)) → GivesToo r r2
      → GivesToo (and_then table limits next r) (and_then table limits next2 r2)
  and_then_too next next2 (Ok p) r2 all h =
      let first = run table limits (next p.0) p.1 p.2 in
      gives_along first first (and_then table limits next2 r2) (run table limits (next2 p.0) p.1 p.2)
      refl (ap (and_then table limits next2) h) (all p.0 p.1 p.2)
  and_then_too next next2 (Err e) r2 all h = tt

  then_widens : {A B : Type 0} (p q : Plan A) (next next2 : A → Plan B) → Widens p q → ((x : A) → Widens (next x) (next2 x))
      → Widens (then_plan p next) (then_plan q next2)
  then_widens p q next next2 h all at cs =
      let r = run table limits p at cs in
      let r2 = run table limits q at cs in
      gives_along (run table limits (then_plan p next) at cs) (and_then table limits next r)
      (run table limits (then_plan q next2) at cs) (and_then table limits next2 r2)
      (run_then table limits p next at cs) (run_then table limits q next2 at cs) (and_then_too next next2 r r2 all (h at cs))

  takes_widens : {A : Type 0} (p q : Plan A) (test : ℕ → Bool) (on on2 : ℕ → Plan A) → Widens p q → ((c : ℕ) → Widens (on c) (on2 c))
      → Widens (takes p test on) (takes q test on2)
  unfolding run
  takes_widens p q test on on2 h all at [] = h at []
  takes_widens p q test on on2 h all at (c ∷ cs) =
      byte_too (test c) (nat_le limits.text at) at (run table limits (on c) (at + 1) cs) (run table limits p at (c ∷ cs))
      (run table limits (on2 c) (at + 1) cs) (run table limits q at (c ∷ cs)) (all c (at + 1) cs) (h at (c ∷ cs))

  scans_widens : {A : Type 0} (escaped : Bool) (limit : ℕ) (on on2 : List Mark → Plan A) → ((marks : List Mark) → Widens (on marks) (on2 marks))
      → Widens (scans escaped limit on) (scans escaped limit on2)
  unfolding run
  scans_widens escaped limit on on2 all at cs =
      let r = limited_token limits.text (token_at_front escaped table limit at cs) (λ p. p.1) in
      and_then_too on on2 r r all (itself r)

  next_byte_widens : {A : Type 0} (on on2 : ℕ → Plan A) → ((c : ℕ) → Widens (on c) (on2 c)) → Widens (next_byte on) (next_byte on2)
  next_byte_widens on on2 all =
      takes_widens (refuses END_OF_FILE 0) (refuses END_OF_FILE 0) (λ c. true) (λ c. character on c) (λ c. character on2 c)
      (same_widens (refuses END_OF_FILE 0))
      (λ c. if_widens (nat_lt c 128) (on c) (refuses INVALID_CHARACTER 1) (on2 c) (refuses INVALID_CHARACTER 1) (all c)
      (same_widens (refuses INVALID_CHARACTER 1)))

  loop_in_widens : {S A : Type 0} (turn turn2 : (S → Plan A) → S → Plan A) → WidensTurn turn turn2 → (n : ℕ) (s : S)
      → Widens (loop_in turn n s) (loop_in turn2 n s)
  unfolding loop_in
  loop_in_widens turn turn2 all zero s = same_widens (refuses FORM_TOO_LONG 0)
  loop_in_widens turn turn2 all (suc n) s = all (λ t. loop_in turn n t) (λ t. loop_in turn2 n t) (λ t. loop_in_widens turn turn2 all n t) s

  loop_widens : {S A : Type 0} (turn turn2 : (S → Plan A) → S → Plan A) → WidensTurn turn turn2 → (s : S)
      → Widens (loop limits turn s) (loop limits turn2 s)
  loop_widens turn turn2 all s = loop_in_widens turn turn2 all (limits.text + 1) s

  -- ---- what comes next inside a call

  space_widens : {A : Type 0} (token : Bool) (p q : Plan A) → Widens p q → Widens (without_space table token p) (without_space table token q)
  space_widens false p q h = h
  space_widens true p q h = takes_widens p q (is_whitespace table) (λ c. p) (λ c. q) h (λ c. h)

  piece_widens : (p q : Plan Piece) (found : Found) → Widens p q → Widens (piece_of table p found) (piece_of table q found)
  piece_widens p q (nothing token) h = space_widens token p q h
  piece_widens p q (one token x) h = same_widens (gives (item token x))
  piece_widens p q lone_dot h = same_widens (gives dot)
  piece_widens p q the_end h = same_widens (refuses END_OF_FILE 0)

  closed_widens : (close : Option ℕ) (p q : Plan Piece) → Widens p q → Widens (or_closed close p) (or_closed close q)
  closed_widens None p q h = h
  closed_widens (Some close) p q h =
      takes_widens p q (λ c. c == close) (λ c. gives closed) (λ c. gives closed) h (λ c. same_widens (gives closed))

  next_item_widens : (close : Option ℕ) (p q : Plan Found) → Widens p q → Widens (next_item few close p) (next_item many close q)
  next_item_widens close p q h =
      loop_widens (next_item_turn table close p) (next_item_turn table close q)
      (λ again again2 all u.
      closed_widens close (then_plan p (λ found. piece_of table (again tt) found)) (then_plan q (λ found. piece_of table (again2 tt) found))
      (then_widens p q (λ found. piece_of table (again tt) found) (λ found. piece_of table (again2 tt) found) h
      (λ found. piece_widens (again tt) (again2 tt) found (all tt)))) tt

  item_widens : (p q : List Object → Plan Items) (xs : List Object) (piece : Piece) → ((ys : List Object) → Widens (p ys) (q ys))
      → Widens (items_step table p xs piece) (items_step table q xs piece)
  item_widens p q xs closed all = same_widens (gives (xs, true))
  item_widens p q xs dot all = same_widens (gives (xs, false))
  item_widens p q xs (item token x) all = space_widens token (p (xs ++ x ∷ [])) (q (xs ++ x ∷ [])) (all (xs ++ x ∷ []))

  items_widen : (close : ℕ) (p q : Plan Found) (xs : List Object) → Widens p q → Widens (items_after few close p xs) (items_after many close q xs)
  items_widen close p q xs h =
      loop_widens (items_turn few close p) (items_turn many close q)
      (λ again again2 all ys.
      then_widens (next_item few (Some close) p) (next_item many (Some close) q)
      (λ piece. items_step table again ys piece) (λ piece. items_step table again2 ys piece)
      (next_item_widens (Some close) p q h) (λ piece. item_widens again again2 ys piece all)) xs

  -- what a call makes of what was gathered
  abbrev WidensEnd : (Material → Plan Found) → (Material → Plan Found) → Type 0
  WidensEnd on on2 = (m : Material) → Widens (on m) (on2 m)

  undotted_widens : (on on2 : Material → Plan Found) (items : Items) → WidensEnd on on2 → Widens (undotted_plan on items) (undotted_plan on2 items)
  undotted_widens on on2 (xs, true) all = all (many_objects xs)
  undotted_widens on on2 (xs, false) all = same_widens (refuses DOT_CONTEXT 0)

  -- ---- the end of a list

  last_widens : (on on2 : Material → Plan Found) (xs : List Object) (x : Object) (piece : Piece) → WidensEnd on on2
      → Widens (after_tail on xs x piece) (after_tail on2 xs x piece)
  last_widens on on2 xs x closed all = all _
  last_widens on on2 xs x dot all = same_widens (refuses DOT_CONTEXT 0)
  last_widens on on2 xs x (item token y) all = same_widens (refuses DOT_CONTEXT 0)

  tail_widens : (p q : Plan Found) (on on2 : Material → Plan Found) (xs : List Object) (piece : Piece) → Widens p q → WidensEnd on on2
      → Widens (after_dot few p on xs piece) (after_dot many q on2 xs piece)
  tail_widens p q on on2 xs closed h all = same_widens (refuses DOT_CONTEXT 1)
  tail_widens p q on on2 xs dot h all = same_widens (refuses DOT_CONTEXT 0)
  tail_widens p q on on2 xs (item token x) h all =
      space_widens token (then_plan (next_item few (Some 41) p) (after_tail on xs x)) (then_plan (next_item many (Some 41) q) (after_tail on2 xs x))
      (then_widens (next_item few (Some 41) p) (next_item many (Some 41) q) (after_tail on xs x) (after_tail on2 xs x)
      (next_item_widens (Some 41) p q h) (λ piece. last_widens on on2 xs x piece all))

  end_widens : (p q : Plan Found) (on on2 : Material → Plan Found) (items : Items) → Widens p q → WidensEnd on on2
      → Widens (list_end few p on items) (list_end many q on2 items)
  end_widens p q on on2 (xs, true) h all = all (many_objects xs)
  end_widens p q on on2 ([], false) h all = same_widens (refuses DOT_CONTEXT 0)
  end_widens p q on on2 (x ∷ xs, false) h all =
      then_widens (next_item few (Some 41) p) (next_item many (Some 41) q) (after_dot few p on (x ∷ xs)) (after_dot many q on2 (x ∷ xs))
      (next_item_widens (Some 41) p q h) (λ piece. tail_widens p q on on2 (x ∷ xs) piece h all)

  one_widens : (on on2 : Bool → Object → Plan Found) (piece : Piece) → ((token : Bool) (x : Object) → Widens (on token x) (on2 token x))
      → Widens (one_piece on piece) (one_piece on2 piece)
  one_widens on on2 (item token x) all = all token x
  one_widens on on2 dot all = same_widens (refuses DOT_CONTEXT 0)
  one_widens on on2 closed all = same_widens (refuses DOT_CONTEXT 0)

  -- ---- calls

  opened_widens : (may may2 : Option (Plan Found)) (on on2 : Plan Found → Plan Found) → WidensInner may may2
      → ((p q : Plan Found) → Widens p q → Widens (on p) (on2 q)) → Widens (opened_plan may on) (opened_plan may2 on2)
  opened_widens None may2 on on2 h all = refuses_widens TOO_DEEP 1 (opened_plan may2 on2)
  opened_widens (Some p) None on on2 h all = absurd h
  opened_widens (Some p) (Some q) on on2 h all = all p q h

  -- a function that the fewer have gathers and answers with more of them as before
  same_way : (name : List ℕ) → is_among fewer.names name ≡ true → named_way more name ≡ named_way fewer name
  same_way name is =
      let there = among.names name is in
      let first : named_way more name ≡ fewer.way name = λ i. cond (there i) (among.way name is i) None in
      let second : named_way fewer name ≡ fewer.way name = ap (λ (b : Bool). cond b (fewer.way name) None) is in
      first ∙ sym second

  same_answer : (name : List ℕ) (call : MacroCall) → is_among fewer.names name ≡ true → named_answer more name call ≡ named_answer fewer name call
  same_answer name call is =
      let there = among.names name is in
      let first : named_answer more name call ≡ fewer.answer name call = λ i. cond (there i) (among.answer name call is i) (answer_refused 0) in
      let second : named_answer fewer name call ≡ fewer.answer name call = ap (λ (b : Bool). cond b (fewer.answer name call) (answer_refused 0)) is in
      first ∙ sym second

  -- what a call ends with
  abbrev end_of : Setting → ℕ → InvokedCall → Material → Plan Found
  end_of setting depth call m = completed_call setting depth call false false m

  module _ (depth : ℕ) (may may2 : Option (Plan Found)) (deeper : WidensInner may may2) where
    -- where the function of the call is one
    module _ (call : InvokedCall) (ends : (token spaced : Bool) (m : Material) → Widens (completed_call few depth call token spaced m) (completed_call many depth call token spaced m)) where
      gathered_widens : (way : Way) → Widens (gathering_plan few depth may call way) (gathering_plan many depth may2 call way)
      gathered_widens Nothing = ends false false no_material
      gathered_widens Next =
          let on : Piece → Plan Found = one_piece (λ token x. completed_call few depth call token token (one_object x)) in
          let on2 : Piece → Plan Found = one_piece (λ token x. completed_call many depth call token token (one_object x)) in
          opened_widens may may2 (λ p. then_plan (next_item few None p) on) (λ q. then_plan (next_item many None q) on2) deeper
          (λ p q h. then_widens (next_item few None p) (next_item many None q) on on2 (next_item_widens None p q h)
          (λ piece. one_widens _ _ piece (λ token x. ends token token (one_object x))))
      gathered_widens AList =
          opened_widens may may2 (λ p. then_plan (items_after few 41 p []) (list_end few p (end_of few depth call)))
          (λ q. then_plan (items_after many 41 q []) (list_end many q (end_of many depth call))) deeper
          (λ p q h. then_widens (items_after few 41 p []) (items_after many 41 q []) (list_end few p (end_of few depth call)) (list_end many q (end_of many depth call))
          (items_widen 41 p q [] h) (λ items. end_widens p q (end_of few depth call) (end_of many depth call) items h (ends false false)))
      gathered_widens (Until close) =
          opened_widens may may2 (λ p. then_plan (items_after few close p []) (undotted_plan (end_of few depth call)))
          (λ q. then_plan (items_after many close q []) (undotted_plan (end_of many depth call))) deeper
          (λ p q h. then_widens (items_after few close p []) (items_after many close q []) (undotted_plan (end_of few depth call)) (undotted_plan (end_of many depth call))
          (items_widen close p q [] h) (λ items. undotted_widens (end_of few depth call) (end_of many depth call) items (ends false false)))
      gathered_widens (Text close) =
          then_widens (text_to few close []) (text_to many close []) (λ cs. end_of few depth call (letters cs)) (λ cs. end_of many depth call (letters cs))
          (same_widens (text_to few close [])) (λ cs. ends false false (letters cs))
      gathered_widens (Line keep) =
          then_widens (line_after few keep []) (line_after many keep []) (λ cs. end_of few depth call (letters cs)) (λ cs. end_of many depth call (letters cs))
          (same_widens (line_after few keep [])) (λ cs. ends false false (letters cs))
      gathered_widens Block =
          then_widens (block_after few (0, 0)) (block_after many (0, 0)) (λ u. end_of few depth call no_material) (λ u. end_of many depth call no_material)
          (same_widens (block_after few (0, 0))) (λ u. ends false false no_material)
      gathered_widens Token =
          scans_widens false limits.token (λ marks. completed_call few depth call true false (marked marks)) (λ marks. completed_call many depth call true false (marked marks))
          (λ marks. ends true false (marked marks))
      gathered_widens EscapedToken =
          scans_widens true limits.token (λ marks. completed_call few depth call true false (marked marks)) (λ marks. completed_call many depth call true false (marked marks))
          (λ marks. ends true false (marked marks))

      way_widens : (way : Option Way) → Widens (gathered_by few depth may call way) (gathered_by many depth may2 call way)
      way_widens None = same_widens (refuses OUT_OF_PROFILE 1)
      way_widens (Some way) = gathered_widens way

    -- a function of users: one that the fewer are without is refused there
    abbrev of_user : List ℕ → ℕ → Option ℕ → Option ℕ → InvokedCall
    of_user name c sub number = record { function = User name; character = c; sub = sub; number = number }

    user_widens : (name : List ℕ) (c : ℕ) (sub number : Option ℕ) (b : Bool) → is_among fewer.names name ≡ b
        → Widens (call_plan few depth may (of_user name c sub number)) (call_plan many depth may2 (of_user name c sub number))
    user_widens name c sub number true is =
        let call = of_user name c sub number in
        let way : way_in many call ≡ way_in few call = ap (option_map (user_way (caller call))) (same_way name is) in
        subst (λ (w : Option Way). Widens (call_plan few depth may call) (gathered_by many depth may2 call w)) (sym way)
        (way_widens call (λ token spaced m. equal_widens _ _ (ap (plan_after_answer packages limits.nesting depth token spaced) (same_answer name (macro_call call m) is))) (way_in few call))
    user_widens name c sub number false is =
        let call = of_user name c sub number in
        let none : way_in few call ≡ None = ap (λ (b : Bool). option_map (user_way (caller call)) (cond b (fewer.way name) None)) is in
        subst (λ (w : Option Way). Widens (gathered_by few depth may call w) (call_plan many depth may2 call)) (sym none)
        (refuses_widens OUT_OF_PROFILE 1 (call_plan many depth may2 call))

    called_widens : (f : Function) (c : ℕ) (sub number : Option ℕ)
        → Widens (call_plan few depth may (record { function = f; character = c; sub = sub; number = number })) (call_plan many depth may2 (record { function = f; character = c; sub = sub; number = number }))
    called_widens (AStandard kind) c sub number =
        let call : InvokedCall = record { function = AStandard kind; character = c; sub = sub; number = number } in
        way_widens call (λ token spaced m. same_widens (completed_call few depth call token spaced m)) (way_in few call)
    called_widens (User name) c sub number = user_widens name c sub number (is_among fewer.names name) refl

    sub_widens : (c sub : ℕ) (number : Option ℕ) (name : Option (List ℕ))
        → Widens (sub_called few depth may c sub number name) (sub_called many depth may2 c sub number name)
    sub_widens c sub number None = same_widens (refuses NO_DISPATCH 1)
    sub_widens c sub number (Some name) = called_widens (function_of name) c (Some (upper_case sub)) number

    dispatched_widens : (c : ℕ) → Widens (dispatch_plan few depth may c None) (dispatch_plan many depth may2 c None)
    dispatched_widens c =
        then_widens (number_after few None) (number_after many None) (sub_there few depth may c) (sub_there many depth may2 c) (same_widens (number_after few None))
        (λ number. next_byte_widens (λ sub. sub_called few depth may c sub number (dispatch_at table c sub))
        (λ sub. sub_called many depth may2 c sub number (dispatch_at table c sub)) (λ sub. sub_widens c sub number (dispatch_at table c sub)))

    macro_widens : (c : ℕ) (name : Option (List ℕ)) → Widens (macro_called few depth may c name) (macro_called many depth may2 c name)
    macro_widens c None = same_widens (refuses OUT_OF_PROFILE 1)
    macro_widens c (Some name) =
        let call : InvokedCall = record { function = function_of name; character = c; sub = None; number = None } in
        if_widens (is_dispatch_name name) (dispatch_plan few depth may c None) (call_plan few depth may call)
        (dispatch_plan many depth may2 c None) (call_plan many depth may2 call) (dispatched_widens c) (called_widens (function_of name) c None None)

    alone_widens : (c : ℕ) (s : Syntax) → Widens (alone few depth may c s) (alone many depth may2 c s)
    alone_widens c Whitespace = same_widens (gives (nothing false))
    alone_widens c TerminatingMacro = macro_widens c (entry_at table c).function
    alone_widens c NonTerminatingMacro = macro_widens c (entry_at table c).function
    alone_widens c Constituent = same_widens (refuses INVALID_CHARACTER 1)
    alone_widens c SingleEscape = same_widens (refuses INVALID_CHARACTER 1)
    alone_widens c MultipleEscape = same_widens (refuses INVALID_CHARACTER 1)
    alone_widens c Invalid = same_widens (refuses INVALID_CHARACTER 1)

    attempt_widens : Widens (attempt_by few depth may) (attempt_by many depth may2)
    attempt_widens =
        let token : Plan Found = scans false limits.token (token_found few) in
        takes_widens token token (λ c. stands_alone (entry_at table c).syntax) (λ c. alone few depth may c (entry_at table c).syntax)
        (λ c. alone many depth may2 c (entry_at table c).syntax) (same_widens token) (λ c. alone_widens c (entry_at table c).syntax)

  -- ---- attempts, and forms

  inner_widens : (room : ℕ) → WidensInner (inner few room) (inner many room)
  unfolding inner
  inner_widens zero = tt
  inner_widens (suc room) = attempt_widens (limits.nesting - room) (inner few room) (inner many room) (inner_widens room)

  attempts_widen : (room : ℕ) → Widens (attempt few room) (attempt many room)
  attempts_widen room = attempt_widens (limits.nesting - room) (inner few room) (inner many room) (inner_widens room)

  form_too : (x : Object) (from «end» next n start : ℕ) (text : List ℕ) → reads_in few n start text ≡ form x from «end» next
      → reads_in many n start text ≡ form x from «end» next
  unfolding reads_in
  form_too x from «end» next zero start text e = cc
  form_too x from «end» next (suc n) start text e =
      outcome_too table x from «end» next (λ at cs. reads_in few n at cs) (λ at cs. reads_in many n at cs) start
      (run table limits (attempt few limits.nesting) 0 text) (run table limits (attempt many limits.nesting) 0 text)
      (λ at cs f. form_too x from «end» next n at cs f) (attempts_widen limits.nesting 0 text) e

  pub reading_widens : (text : List ℕ) (x : Object) (start «end» next : ℕ) → reads few text ≡ form x start «end» next → reads many text ≡ form x start «end» next
  unfolding reads
  reading_widens text x start «end» next e = form_too x start «end» next (length text + 1) 0 text e
