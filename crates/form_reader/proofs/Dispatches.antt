-- How a call begins, in any open calls; what a macro character brings, and the byte after the number of a dispatch call.
use Rattle.std.proofs.Common.{◌≡◌, ℕ, suc, ◌+◌, ◌-◌, ◌<◌, ◌≤◌, true, false, List, [], ◌∷◌, length, Option, Some, None, Result, Ok, Err, IfOk, refl, sym, ap, subst, ◌∙◌, arith, Bool}
use Rattle.std.specs.declared.alloc.AllocError.{AllocError}
use Rattle.lisp_object.specs.declared.refusal.TheConstants.{TOO_DEEP, OUT_OF_PROFILE, FORM_TOO_LONG, INVALID_CHARACTER, NO_DISPATCH}
use Rattle.token_scan.specs.declared.mark.Mark.{Mark}
use Rattle.token_scan.specs.Tokens.{Scanned, ScannedBytes, with_front, typed_text, in_bytes, token, escaped_token}
use Rattle.token_scan.specs.ByteByByte.{Scan, first_scan, begun_escaped}
use Rattle.std_macros.specs.Values.{marked, nothing as no_material}
use Rattle.form_reader.specs.declared.call.CallValue.{CallValue}
use Rattle.form_reader.specs.declared.call.CallValue.TheVariants.{Refused}
use Rattle.lisp_reading.specs.declared.attempt.Found.{Found}
use Rattle.form_reader.specs.declared.stack.Frame.{Frame}
use Rattle.form_reader.specs.declared.stack.Part.{Part}
use Rattle.form_reader.specs.declared.stack.Part.TheVariants.{Next as InNext, List as InList, Until as InUntil, Dotted as InDotted, Tailed as InTailed}
use Rattle.form_reader.specs.declared.state.Event.{Event}
use Rattle.lisp_reading.specs.declared.way.Way.{Way}
use Rattle.lisp_reading.specs.declared.way.Way.TheVariants.{Nothing, Next, List as AList, Until, Token, EscapedToken}
use Rattle.lisp_reading.specs.Plans.{Plan, refuses, scans, Read, fault, limited_token, token_at_front, run}
use Rattle.lisp_reading.specs.InvokedCalls.{InvokedCall}
use Rattle.lisp_reading.specs.Setting.{Setting, way_in, function_of}
use Rattle.lisp_reading.specs.Reading.{completed_call, gathering_plan, gathered_by, call_plan, attempt, inner, dispatch_plan, macro_called, sub_called, sub_there, number_after}
use Rattle.form_reader.specs.Call.{plan_of}
use Rattle.form_reader.specs.Token.{token_read, TokenFeeds}
use Rattle.form_reader.specs.Stack.{outer_plan, between_objects, plan_gives, token_goes_on}
use Rattle.form_reader.specs.State.{inner_at, Brings}
use Rattle.form_reader.specs.Dispatch.{CallBegins, CallGathers, has_no_object, way_of_part}
use Rattle.form_reader.proofs.Stacks.{given_moves, given_fault, list_is, until_is, gathering_ends}
use Rattle.readtable_core.specs.Names.{is_dispatch_name}
use Rattle.form_reader.specs.declared.gather.LineByte.{LineByte}
use Rattle.form_reader.specs.declared.gather.LineByte.TheVariants.{Ended as LineEnded}
use Rattle.lisp_reading.specs.declared.way.Function.{Function}
use Rattle.readtable_core.specs.Characters.{upper_case}
use Rattle.readtable_core.specs.Tables.{dispatch_at}
use Rattle.lisp_reading.proofs.Fed.{byte_taken, byte_over, byte_invalid}

-- one more call may be open, or none
inner_opens : (setting : Setting) (n : ℕ) → n < setting.limits.nesting → inner_at setting n ≡ Some (attempt setting (setting.limits.nesting - (n + 1)))
unfolding inner
inner_opens setting n lt =
    let e : setting.limits.nesting - n ≡ suc (setting.limits.nesting - (n + 1)) = omega arith in
    ap (inner setting) e

inner_shut : (setting : Setting) (n : ℕ) → setting.limits.nesting ≤ n → inner_at setting n ≡ None
unfolding inner
inner_shut setting n le =
    let e : setting.limits.nesting - n ≡ 0 = omega arith in
    ap (inner setting) e

pub given_refused : (setting : Setting) (stack : List Frame) (at : ℕ) (cs : List ℕ) (code back : ℕ)
    → run setting.table setting.limits (outer_plan setting stack (refuses code back)) at cs ≡ fault code (at - back)
unfolding run
given_refused setting stack at cs code back = given_fault setting stack (refuses code back) at cs (record { number = code; at = at - back }) refl

abbrev pub OpensWith : Setting → List Frame → InvokedCall → Way → Option (Plan Found) → ℕ → List ℕ → Read Found
OpensWith setting stack call way may at cs = run setting.table setting.limits (outer_plan setting stack (gathering_plan setting (length stack) may call way)) at cs

module _ (setting : Setting) (stack : List Frame) (call : InvokedCall) (at : ℕ) (cs : List ℕ) where
  -- one that has read no object
  pub opens : (part : Part) → has_no_object part ≡ true → length stack < setting.limits.nesting → at ≤ setting.limits.text
      → OpensWith setting stack call (way_of_part part) (inner_at setting (length stack)) at cs
      ≡ run setting.table setting.limits (between_objects setting (record { call = call; part = part } ∷ stack)) at cs
  opens InNext e lt h = ap (λ may. OpensWith setting stack call Next may at cs) (inner_opens setting (length stack) lt)
  opens (InList []) e lt h =
      ap (λ may. OpensWith setting stack call AList may at cs) (inner_opens setting (length stack) lt) ∙ list_is setting stack call [] at cs h
  opens (InList (x ∷ xs)) e lt h = cc
  opens (InUntil close []) e lt h =
      ap (λ may. OpensWith setting stack call (Until close) may at cs) (inner_opens setting (length stack) lt) ∙ until_is setting stack call close [] at cs h
  opens (InUntil close (x ∷ xs)) e lt h = cc
  opens (InDotted xs) e lt h = cc
  opens (InTailed xs tail) e lt h = cc

  refused_given : (code back : ℕ) → run setting.table setting.limits (outer_plan setting stack (refuses code back)) at cs ≡ fault code (at - back)
  unfolding run
  refused_given code back = given_fault setting stack (refuses code back) at cs (record { number = code; at = at - back }) refl

  pub is_too_deep : (part : Part) → has_no_object part ≡ true → setting.limits.nesting ≤ length stack
      → OpensWith setting stack call (way_of_part part) (inner_at setting (length stack)) at cs ≡ fault TOO_DEEP (at - 1)
  is_too_deep InNext e le = ap (λ may. OpensWith setting stack call Next may at cs) (inner_shut setting (length stack) le) ∙ refused_given TOO_DEEP 1
  is_too_deep (InList []) e le = ap (λ may. OpensWith setting stack call AList may at cs) (inner_shut setting (length stack) le) ∙ refused_given TOO_DEEP 1
  is_too_deep (InList (x ∷ xs)) e le = cc
  is_too_deep (InUntil close []) e le = ap (λ may. OpensWith setting stack call (Until close) may at cs) (inner_shut setting (length stack) le) ∙ refused_given TOO_DEEP 1
  is_too_deep (InUntil close (x ∷ xs)) e le = cc
  is_too_deep (InDotted xs) e le = cc
  is_too_deep (InTailed xs tail) e le = cc

  -- what a call comes to
  pub refused_is : (code back : ℕ) → run setting.table setting.limits (outer_plan setting stack (refuses code back)) at cs ≡ fault code (at - back)
  refused_is code back = refused_given code back

-- ---- tokens

front_nothing : (r : Scanned) → in_bytes (with_front [] r) ≡ in_bytes r
front_nothing (Ok (marks, at, rest)) = refl
front_nothing (Err e) = refl

scanned_is : (setting : Setting) (stack : List Frame) (plan : Plan Found) (on : List Mark → Plan Found) (at : ℕ) (cs : List ℕ) (r : Read (List Mark))
    → run setting.table setting.limits plan at cs ≡ elim r [ Ok p ↦ run setting.table setting.limits (on p.0) p.1 p.2 | Err e ↦ Err e ]
    → run setting.table setting.limits (outer_plan setting stack plan) at cs ≡ token_goes_on setting stack on r
scanned_is setting stack plan on at cs (Ok (marks, next, ds)) e = given_moves setting stack plan (on marks) at next cs ds e
scanned_is setting stack plan on at cs (Err f) e = given_fault setting stack plan at cs f e

pub token_begins : (setting : Setting) (stack : List Frame) (limit : ℕ) (on : List Mark → Plan Found) (at : ℕ) (cs : List ℕ)
    → run setting.table setting.limits (outer_plan setting stack (scans false limit on)) at cs
    ≡ token_goes_on setting stack on (token_read setting.table setting.limits (first_scan limit) at cs)
unfolding run
token_begins setting stack limit on at cs =
    scanned_is setting stack (scans false limit on) on at cs (limited_token setting.limits.text (token_at_front false setting.table limit at cs) (λ p. p.1)) refl
    ∙ ap (λ (r : ScannedBytes). token_goes_on setting stack on (limited_token setting.limits.text r (λ p. p.1)))
    (sym (front_nothing (token limit at (typed_text setting.table cs))))

pub escaped_begins : (setting : Setting) (stack : List Frame) (limit : ℕ) (on : List Mark → Plan Found) (at : ℕ) (cs : List ℕ)
    → run setting.table setting.limits (outer_plan setting stack (scans true limit on)) at cs
    ≡ token_goes_on setting stack on (token_read setting.table setting.limits (begun_escaped limit) at cs)
unfolding run
escaped_begins setting stack limit on at cs =
    scanned_is setting stack (scans true limit on) on at cs (limited_token setting.limits.text (token_at_front true setting.table limit at cs) (λ p. p.1)) refl
    ∙ ap (λ (r : ScannedBytes). token_goes_on setting stack on (limited_token setting.limits.text r (λ p. p.1)))
    (sym (front_nothing (escaped_token limit at (typed_text setting.table cs))))

-- ---- what a call brings where it begins

module _ (setting : Setting) (stack : List Frame) (call : InvokedCall) (way : Way) (at : ℕ) (cs : List ℕ) where
  abbrev opened_so : Way → Read Found
  opened_so w = OpensWith setting stack call w (inner_at setting (length stack)) at cs

  pub opened_at : (after : List Frame) (known : Way) (result : Result Event AllocError) → way ≡ known → IfOk result (λ event. CallGathers setting after stack call known at cs event)
      → IfOk result (λ event. CallGathers setting after stack call way at cs event)
  opened_at after known result e gathers = subst (λ (w : Way). IfOk result (λ event. CallGathers setting after stack call w at cs event)) (sym e) gathers

  abbrev call_token : Scan → Read Found
  call_token scan =
      token_goes_on setting stack (λ marks. completed_call setting (length stack) call true false (marked marks)) (token_read setting.table setting.limits scan at cs)

  pub token_at : (scan : Scan) → way ≡ Token → scan ≡ first_scan setting.limits.token → opened_so way ≡ call_token scan
  token_at scan e p =
      ap opened_so e ∙ token_begins setting stack setting.limits.token (λ marks. completed_call setting (length stack) call true false (marked marks)) at cs
      ∙ ap call_token (sym p)

  pub escaped_at : (scan : Scan) → way ≡ EscapedToken → scan ≡ begun_escaped setting.limits.token → opened_so way ≡ call_token scan
  escaped_at scan e p =
      ap opened_so e ∙ escaped_begins setting stack setting.limits.token (λ marks. completed_call setting (length stack) call true false (marked marks)) at cs
      ∙ ap call_token (sym p)

  pub nothing_at : (result : Result Event AllocError) → way ≡ Nothing
      → IfOk result (λ event. Brings setting stack at cs event (plan_gives setting stack (completed_call setting (length stack) call false false no_material) at cs))
      → IfOk result (λ event. CallGathers setting stack stack call way at cs event)
  nothing_at result e brings = subst (λ (r : Read Found). IfOk result (λ event. Brings setting stack at cs event r)) (sym (ap opened_so e)) brings

pub none_begins : (setting : Setting) (stack : List Frame) (call : InvokedCall) (at offset : ℕ) (cs : List ℕ) → way_in setting call ≡ None → offset ≡ at - 1
    → run setting.table setting.limits (outer_plan setting stack (call_plan setting (length stack) (inner_at setting (length stack)) call)) at cs ≡ fault OUT_OF_PROFILE offset
none_begins setting stack call at offset cs e p =
    ap (λ (o : Option Way). run setting.table setting.limits (outer_plan setting stack (gathered_by setting (length stack) (inner_at setting (length stack)) call o)) at cs) e
    ∙ refused_is setting stack call at cs OUT_OF_PROFILE 1 ∙ ap (λ (n : ℕ). fault OUT_OF_PROFILE n) (sym p)

pub refusal_comes : (setting : Setting) (stack : List Frame) (completed : CallValue) (code back at offset : ℕ) (cs : List ℕ) → completed ≡ Refused code back → offset ≡ at - back
    → run setting.table setting.limits (outer_plan setting stack (plan_of completed)) at cs ≡ fault code offset
refusal_comes setting stack completed code back at offset cs e p =
    ap (λ (r : CallValue). run setting.table setting.limits (outer_plan setting stack (plan_of r)) at cs) e
    ∙ given_refused setting stack at cs code back ∙ ap (λ (n : ℕ). fault code n) (sym p)

module _ (setting : Setting) (stack : List Frame) (c at : ℕ) (cs : List ℕ) where
  abbrev macro_gives : Option (List ℕ) → Read Found
  macro_gives o = run setting.table setting.limits (outer_plan setting stack (macro_called setting (length stack) (inner_at setting (length stack)) c o)) at cs

  pub none_called : (function : Option (List ℕ)) (offset : ℕ) → function ≡ None → offset ≡ at - 1 → macro_gives function ≡ fault OUT_OF_PROFILE offset
  none_called function offset e p = ap macro_gives e ∙ given_refused setting stack at cs OUT_OF_PROFILE 1 ∙ ap (λ (n : ℕ). fault OUT_OF_PROFILE n) (sym p)

  abbrev of_character : Function → InvokedCall
  of_character f = record { function = f; character = c; sub = None; number = None }

  abbrev call_gives : InvokedCall → Read Found
  call_gives call = run setting.table setting.limits (outer_plan setting stack (call_plan setting (length stack) (inner_at setting (length stack)) call)) at cs

  named_gives : (name : List ℕ) → is_dispatch_name name ≡ false → macro_gives (Some name) ≡ call_gives (of_character (function_of name))
  named_gives name e =
      let by : Bool → Plan Found = λ b. elim b [
        | true ↦ dispatch_plan setting (length stack) (inner_at setting (length stack)) c None
        | false ↦ call_plan setting (length stack) (inner_at setting (length stack)) (of_character (function_of name))
      ] in
      ap (λ (b : Bool). run setting.table setting.limits (outer_plan setting stack (by b)) at cs) e

  pub character_called : (after : List Frame) (function : Option (List ℕ)) (name : List ℕ) (f : Function) (call : InvokedCall) (result : Result Event AllocError)
      → function ≡ Some name → is_dispatch_name name ≡ false → f ≡ function_of name → call ≡ of_character f
      → IfOk result (λ event. CallBegins setting after stack call at cs event) → IfOk result (λ event. Brings setting after at cs event (macro_gives function))
  character_called after function name f call result e dispatch same is begins =
      let whole : call_gives call ≡ macro_gives function =
      ap call_gives (is ∙ ap of_character same) ∙ sym (named_gives name dispatch) ∙ sym (ap macro_gives e) in
      subst (λ (r : Read Found). IfOk result (λ event. Brings setting after at cs event r)) whole begins

pub token_ends : (setting : Setting) (stack : List Frame) (on : List Mark → Plan Found) (old new : Scan) (marks : List Mark) (fed : LineByte) (at c : ℕ) (cs : List ℕ) (event : Event)
    → fed ≡ LineEnded → TokenFeeds setting.table setting.limits new at c cs fed (token_read setting.table setting.limits old at (c ∷ cs)) → marks ≡ new.marks
    → Brings setting stack at (c ∷ cs) event (plan_gives setting stack (on marks) at (c ∷ cs))
    → Brings setting stack at (c ∷ cs) event (token_goes_on setting stack on (token_read setting.table setting.limits old at (c ∷ cs)))
token_ends setting stack on old new marks fed at c cs event e feeds same brings =
    let told : token_read setting.table setting.limits old at (c ∷ cs) ≡ Ok (new.marks, at, c ∷ cs) =
    subst (λ (f : LineByte). TokenFeeds setting.table setting.limits new at c cs f (token_read setting.table setting.limits old at (c ∷ cs))) e feeds in
    let whole : token_goes_on setting stack on (token_read setting.table setting.limits old at (c ∷ cs)) ≡ plan_gives setting stack (on marks) at (c ∷ cs) =
    ap (token_goes_on setting stack on) told ∙ ap (λ (ms : List Mark). plan_gives setting stack (on ms) at (c ∷ cs)) (sym same) in
    subst (λ (r : Read Found). Brings setting stack at (c ∷ cs) event r) (sym whole) brings

module _ (setting : Setting) (stack : List Frame) (character at c : ℕ) (number : Option ℕ) (cs : List ℕ) where
  abbrev sub_on : ℕ → Plan Found
  sub_on sub = sub_called setting (length stack) (inner_at setting (length stack)) character sub number (dispatch_at setting.table character sub)

  abbrev pub sub_gives : Read Found
  sub_gives = run setting.table setting.limits (outer_plan setting stack (sub_there setting (length stack) (inner_at setting (length stack)) character number)) at (c ∷ cs)

  abbrev sub_found : Option (List ℕ) → Read Found
  sub_found o =
      run setting.table setting.limits (outer_plan setting stack (sub_called setting (length stack) (inner_at setting (length stack)) character c number o)) (at + 1) cs

  pub sub_over : setting.limits.text ≤ at → sub_gives ≡ fault FORM_TOO_LONG at
  sub_over g = given_fault setting stack _ at (c ∷ cs) (record { number = FORM_TOO_LONG; at = at }) (byte_over setting.table setting.limits sub_on at c cs g)

  pub sub_invalid : at < setting.limits.text → 128 ≤ c → sub_gives ≡ fault INVALID_CHARACTER at
  sub_invalid lt over = given_fault setting stack _ at (c ∷ cs) (record { number = INVALID_CHARACTER; at = at }) (byte_invalid setting.table setting.limits sub_on at c cs lt over)

  sub_taken : at < setting.limits.text → c < 128 → sub_gives ≡ sub_found (dispatch_at setting.table character c)
  sub_taken lt ascii = given_moves setting stack _ (sub_on c) at (at + 1) (c ∷ cs) cs (byte_taken setting.table setting.limits sub_on at c cs lt ascii)

  pub sub_none : at < setting.limits.text → c < 128 → dispatch_at setting.table character c ≡ None → sub_gives ≡ fault NO_DISPATCH at
  sub_none lt ascii e =
      let back : at + 1 - 1 ≡ at = omega arith in
      sub_taken lt ascii ∙ ap sub_found e ∙ given_refused setting stack (at + 1) cs NO_DISPATCH 1 ∙ ap (λ (n : ℕ). fault NO_DISPATCH n) back

  abbrev of_sub : Function → ℕ → Option ℕ → InvokedCall
  of_sub f sub n = record { function = f; character = character; sub = Some sub; number = n }

  abbrev sub_call_gives : InvokedCall → Read Found
  sub_call_gives call = run setting.table setting.limits (outer_plan setting stack (call_plan setting (length stack) (inner_at setting (length stack)) call)) (at + 1) cs

  pub sub_some : (after : List Frame) (name : List ℕ) (f : Function) (sub : ℕ) (n : Option ℕ) (call : InvokedCall) (result : Result Event AllocError)
      → at < setting.limits.text → c < 128 → dispatch_at setting.table character c ≡ Some name → f ≡ function_of name → sub ≡ upper_case c → n ≡ number
      → call ≡ of_sub f sub n → IfOk result (λ event. CallBegins setting after stack call (at + 1) cs event)
      → IfOk result (λ event. Brings setting after (at + 1) cs event sub_gives)
  sub_some after name f sub n call result lt ascii e same upper digits is begins =
      let whole : sub_call_gives call ≡ sub_gives =
      ap sub_call_gives (is ∙ (λ i. of_sub (same i) (upper i) (digits i))) ∙ sym (sub_taken lt ascii ∙ ap sub_found e) in
      subst (λ (r : Read Found). IfOk result (λ event. Brings setting after (at + 1) cs event r)) whole begins

-- the number has ended, and the byte is the sub-character
pub number_ended : (setting : Setting) (stack after : List Frame) (character at c : ℕ) (old new : Option ℕ) (cs : List ℕ) (result : Result Event AllocError)
    → run setting.table setting.limits (number_after setting old) at (c ∷ cs) ≡ Ok (new, at, c ∷ cs)
    → IfOk result (λ event. Brings setting after (at + 1) cs event (sub_gives setting stack character at c new cs))
    → IfOk result (λ event. Brings setting after (at + 1) cs event
    (run setting.table setting.limits (outer_plan setting stack (dispatch_plan setting (length stack) (inner_at setting (length stack)) character old)) at (c ∷ cs)))
number_ended setting stack after character at c old new cs result e brings =
    let whole : run setting.table setting.limits (outer_plan setting stack (dispatch_plan setting (length stack) (inner_at setting (length stack)) character old)) at (c ∷ cs)
    ≡ sub_gives setting stack character at c new cs =
    gathering_ends setting stack (number_after setting old) (sub_there setting (length stack) (inner_at setting (length stack)) character) new at at (c ∷ cs) (c ∷ cs) e in
    subst (λ (r : Read Found). IfOk result (λ event. Brings setting after (at + 1) cs event r)) (sym whole) brings

-- the same of a character that is held
pub number_of : (setting : Setting) (stack after : List Frame) (held character at c : ℕ) (number : Option ℕ) (cs : List ℕ) (result : Result Event AllocError) → held ≡ character
    → IfOk result (λ event. Brings setting after (at + 1) cs event (sub_gives setting stack held at c number cs))
    → IfOk result (λ event. Brings setting after (at + 1) cs event (sub_gives setting stack character at c number cs))
number_of setting stack after held character at c number cs result e brings =
    subst (λ (n : ℕ). IfOk result (λ event. Brings setting after (at + 1) cs event (sub_gives setting stack n at c number cs))) e brings
