-- What an open call makes of what is found in it, and what a byte is that ended a token.
use Rattle.std.proofs.Common.{◌≡◌, ℕ, ◌-◌, ◌<◌, ◌≤◌, Bool, true, false, List, [], ◌∷◌, ◌++◌, length, Option, Some, None, Ok, refl, sym, ap, subst, ◌∙◌, arith, ◌+◌, Result, IfOk}
use Rattle.std.specs.Prelude.{option_map}
use Rattle.lisp_object.specs.Object.{Object}
use Rattle.lisp_object.specs.declared.refusal.TheConstants.{DOT_CONTEXT, END_OF_FILE}
use Rattle.std_macros.specs.Values.{one as one_object}
use Rattle.form_reader.specs.declared.call.CallValue.{CallValue}
use Rattle.form_reader.specs.declared.value.Return.{Return}
use Rattle.form_reader.specs.declared.value.Return.TheVariants.{Gives as ReturnGives, Waits}
use Rattle.lisp_reading.specs.declared.attempt.Found.{Found}
use Rattle.lisp_reading.specs.declared.attempt.Found.TheVariants.{Nothing as nothing, One as one, LoneDot as lone_dot, TheEnd as the_end}
use Rattle.form_reader.specs.declared.stack.Frame.{Frame}
use Rattle.form_reader.specs.declared.stack.Part.{Part}
use Rattle.form_reader.specs.declared.stack.Part.TheVariants.{Next as InNext, List as InList, Until as InUntil, Dotted as InDotted, Tailed as InTailed}
use Rattle.lisp_reading.specs.Plans.{Plan, gives, refuses, then_plan, Read, fault, run}
use Rattle.lisp_reading.specs.InvokedCalls.{InvokedCall}
use Rattle.lisp_reading.specs.Setting.{Setting}
use Rattle.lisp_reading.specs.Reading.{next_item, without_space, items_after, undotted_plan, after_tail, list_end, completed_call}
use Rattle.form_reader.specs.Call.{plan_of}
use Rattle.form_reader.specs.Value.{AttemptTakes, ShortensOpenCalls, Returns}
use Rattle.form_reader.specs.Stack.{attempt_in, next_item_in, call_in, outer_plan, between_objects, next_item_gives, with_object, with_dot, with_found, calls_with, is_next, is_waiting, plan_gives}
use Rattle.form_reader.proofs.Stacks.{space_given, list_is, until_is}
use Rattle.lisp_reading.proofs.Turns.{space_same}
use Rattle.form_reader.proofs.Dispatches.{given_refused}
use Rattle.std.specs.declared.alloc.AllocError.{AllocError}
use Rattle.form_reader.specs.declared.state.Moved.{Moved}
use Rattle.form_reader.specs.declared.state.Moved.TheVariants.{Before as IsBefore}
use Rattle.form_reader.specs.declared.step.object.Passed.{Passed}
use Rattle.form_reader.specs.declared.step.object.Passed.TheVariants.{Brings as PassedBrings}
use Rattle.form_reader.specs.declared.state.Event.{Event}
use Rattle.form_reader.specs.declared.state.Event.TheVariants.{Gives as IsGiven}
use Rattle.form_reader.specs.Step.{Passes}
use Rattle.form_reader.specs.State.{Brings, Moves}

abbrev pub framed_by : InvokedCall → Part → Frame
framed_by call part = record { call = call; part = part }

-- two plans that give the same give the same after a whitespace character that may be discarded
space_moves : (setting : Setting) (token : Bool) (p q : Plan Found) (at : ℕ) (cs : List ℕ) → at ≤ setting.limits.text
    → ((at : ℕ) (cs : List ℕ) → at ≤ setting.limits.text → run setting.table setting.limits p at cs ≡ run setting.table setting.limits q at cs)
    → run setting.table setting.limits (without_space setting.table token p) at cs ≡ run setting.table setting.limits (without_space setting.table token q) at cs
space_moves setting token p q at cs h same =
    space_same setting.table setting.limits token p q at cs h (λ at2 cs2 from le. same at2 cs2 le)

module _ (setting : Setting) (stack : List Frame) (call : InvokedCall) (at : ℕ) (cs : List ℕ) where
  abbrev pub returned : Part → Found → Read Found
  returned part found = run setting.table setting.limits (outer_plan setting (framed_by call part ∷ stack) (gives found)) at cs

  abbrev waiting : Bool → Part → Read Found
  waiting token part = run setting.table setting.limits (without_space setting.table token (between_objects setting (framed_by call part ∷ stack))) at cs

  -- only discarded text
  pub nothing_stays : (token : Bool) (part : Part) → returned part (nothing token) ≡ waiting token part
  unfolding outer_plan then_plan
  nothing_stays token part =
      space_given setting stack token (next_item_in setting (framed_by call part) stack) (λ p. call_in setting (framed_by call part) stack p) at cs

  -- the end of the input
  pub end_fails : (part : Part) → returned part the_end ≡ fault END_OF_FILE at
  unfolding outer_plan then_plan
  end_fails part =
      given_refused setting stack at cs END_OF_FILE 0 ∙ (let e : at - 0 ≡ at = omega arith in ap (λ (n : ℕ). fault END_OF_FILE n) e)

  dot_fails : (part : Part) → outer_plan setting (framed_by call part ∷ stack) (gives lone_dot) ≡ outer_plan setting stack (refuses DOT_CONTEXT 0) → returned part lone_dot ≡ fault DOT_CONTEXT at
  dot_fails part e =
      ap (λ (p : Plan Found). run setting.table setting.limits p at cs) e ∙ given_refused setting stack at cs DOT_CONTEXT 0
      ∙ (let e : at - 0 ≡ at = omega arith in ap (λ (n : ℕ). fault DOT_CONTEXT n) e)

  pub dot_in_next : returned InNext lone_dot ≡ fault DOT_CONTEXT at
  unfolding outer_plan then_plan
  dot_in_next = dot_fails InNext refl

  pub dot_in_until : (close : ℕ) (xs : List Object) → returned (InUntil close xs) lone_dot ≡ fault DOT_CONTEXT at
  unfolding outer_plan then_plan
  dot_in_until close xs = dot_fails (InUntil close xs) refl

  pub dot_in_dotted : (xs : List Object) → returned (InDotted xs) lone_dot ≡ fault DOT_CONTEXT at
  unfolding outer_plan then_plan
  dot_in_dotted xs = dot_fails (InDotted xs) refl

  pub dot_in_tailed : (xs : List Object) (tail : Object) → returned (InTailed xs tail) lone_dot ≡ fault DOT_CONTEXT at
  unfolding outer_plan then_plan
  dot_in_tailed xs tail = dot_fails (InTailed xs tail) refl

  pub dot_in_empty : returned (InList []) lone_dot ≡ fault DOT_CONTEXT at
  unfolding outer_plan then_plan
  dot_in_empty = dot_fails (InList []) refl

  pub dot_in_list : (xs : List Object) → 0 < length xs → returned (InList xs) lone_dot ≡ waiting false (InDotted xs)
  unfolding outer_plan then_plan
  dot_in_list [] some = absurd (omega (arith, some))
  dot_in_list (x ∷ xs) some = refl

  -- an object
  pub one_in_next : (token : Bool) (x : Object)
      → returned InNext (one token x) ≡ run setting.table setting.limits (outer_plan setting stack (completed_call setting (length stack) call token token (one_object x))) at cs
  unfolding outer_plan then_plan
  one_in_next token x = refl

  pub one_in_tailed : (token : Bool) (xs : List Object) (tail x : Object) → returned (InTailed xs tail) (one token x) ≡ fault DOT_CONTEXT at
  unfolding outer_plan then_plan
  one_in_tailed token xs tail x =
      given_refused setting stack at cs DOT_CONTEXT 0 ∙ (let e : at - 0 ≡ at = omega arith in ap (λ (n : ℕ). fault DOT_CONTEXT n) e)

  pub one_in_dotted : (token : Bool) (xs : List Object) (x : Object) → returned (InDotted xs) (one token x) ≡ waiting token (InTailed xs x)
  unfolding outer_plan then_plan
  one_in_dotted true xs x =
      space_given setting stack true (next_item setting (Some 41) (attempt_in setting stack))
      (after_tail (λ m. completed_call setting (length stack) call false false m) xs x) at cs
  one_in_dotted false xs x =
      space_given setting stack false (next_item setting (Some 41) (attempt_in setting stack))
      (after_tail (λ m. completed_call setting (length stack) call false false m) xs x) at cs

  pub one_in_list : (token : Bool) (xs ys : List Object) (x : Object) → at ≤ setting.limits.text → ys ≡ xs ++ x ∷ []
      → returned (InList xs) (one token x) ≡ waiting token (InList ys)
  unfolding outer_plan then_plan
  one_in_list token xs ys x h e =
      space_given setting stack token (items_after setting 41 (attempt_in setting stack) (xs ++ x ∷ []))
      (list_end setting (attempt_in setting stack) (λ m. completed_call setting (length stack) call false false m)) at cs
      ∙ space_moves setting token _ (between_objects setting (framed_by call (InList (xs ++ x ∷ [])) ∷ stack)) at cs h
      (λ at2 cs2 le. list_is setting stack call (xs ++ x ∷ []) at2 cs2 le)
      ∙ ap (λ (ys : List Object). waiting token (InList ys)) (sym e)

  pub one_in_until : (token : Bool) (close : ℕ) (xs ys : List Object) (x : Object) → at ≤ setting.limits.text → ys ≡ xs ++ x ∷ []
      → returned (InUntil close xs) (one token x) ≡ waiting token (InUntil close ys)
  unfolding outer_plan then_plan
  one_in_until token close xs ys x h e =
      space_given setting stack token (items_after setting close (attempt_in setting stack) (xs ++ x ∷ []))
      (undotted_plan (λ m. completed_call setting (length stack) call false false m)) at cs
      ∙ space_moves setting token _ (between_objects setting (framed_by call (InUntil close (xs ++ x ∷ [])) ∷ stack)) at cs h
      (λ at2 cs2 le. until_is setting stack call close (xs ++ x ∷ []) at2 cs2 le)
      ∙ ap (λ (ys : List Object). waiting token (InUntil close ys)) (sym e)

  -- ---- what the call makes of it

  pub object_taken : (token : Bool) (x : Object) (part new : Part) → at ≤ setting.limits.text → with_object part x ≡ Some new → returned part (one token x) ≡ waiting token new
  object_taken token x InNext new h e = cc
  object_taken token x (InList xs) new h e =
      one_in_list token xs (xs ++ x ∷ []) x h refl ∙ (let same : InList (xs ++ x ∷ []) ≡ new = cc in ap (waiting token) same)
  object_taken token x (InUntil close xs) new h e =
      one_in_until token close xs (xs ++ x ∷ []) x h refl ∙ (let same : InUntil close (xs ++ x ∷ []) ≡ new = cc in ap (waiting token) same)
  object_taken token x (InDotted xs) new h e = one_in_dotted token xs x ∙ (let same : InTailed xs x ≡ new = cc in ap (waiting token) same)
  object_taken token x (InTailed xs tail) new h e = cc

  pub object_refused : (token : Bool) (x : Object) (part : Part) → with_object part x ≡ None → is_next part ≡ false → returned part (one token x) ≡ fault DOT_CONTEXT at
  object_refused token x InNext e other = cc
  object_refused token x (InList xs) e other = cc
  object_refused token x (InUntil close xs) e other = cc
  object_refused token x (InDotted xs) e other = cc
  object_refused token x (InTailed xs tail) e other = one_in_tailed token xs tail x

  pub dot_taken : (part new : Part) → with_dot part ≡ Some new → returned part lone_dot ≡ waiting false new
  dot_taken InNext new e = cc
  dot_taken (InList []) new e = cc
  dot_taken (InList (x ∷ xs)) new e = dot_in_list (x ∷ xs) (omega arith) ∙ (let same : InDotted (x ∷ xs) ≡ new = cc in ap (waiting false) same)
  dot_taken (InUntil close xs) new e = cc
  dot_taken (InDotted xs) new e = cc
  dot_taken (InTailed xs tail) new e = cc

  pub dot_refused : (part : Part) → with_dot part ≡ None → returned part lone_dot ≡ fault DOT_CONTEXT at
  dot_refused InNext e = dot_in_next
  dot_refused (InList []) e = dot_in_empty
  dot_refused (InList (x ∷ xs)) e = cc
  dot_refused (InUntil close xs) e = dot_in_until close xs
  dot_refused (InDotted xs) e = dot_in_dotted xs
  dot_refused (InTailed xs tail) e = dot_in_tailed xs tail

-- ---- the innermost of the open calls

some_same : {A : Type 0} (x y : A) → Some x ≡ Some y → x ≡ y
some_same x y e = cc

module _ (setting : Setting) (at : ℕ) (cs : List ℕ) where
  abbrev found_in : List Frame → Found → Read Found
  found_in stack found = run setting.table setting.limits (outer_plan setting stack (gives found)) at cs

  -- discarded text changes nothing
  pub nothing_there : (stack : List Frame) (token : Bool) (found : Found) → found ≡ nothing token → 0 < length stack → found_in stack found ≡ next_item_gives setting token stack at cs
  nothing_there [] token found e some = absurd (omega (arith, some))
  nothing_there (f ∷ fs) token found e some = ap (found_in (f ∷ fs)) e ∙ nothing_stays setting fs f.call at cs token f.part

  pub end_there : (stack : List Frame) (found : Found) → found ≡ the_end → 0 < length stack → found_in stack found ≡ fault END_OF_FILE at
  end_there [] found e some = absurd (omega (arith, some))
  end_there (f ∷ fs) found e some = ap (found_in (f ∷ fs)) e ∙ end_fails setting fs f.call at cs f.part

  pub object_goes_on : (stack after : List Frame) (token : Bool) (x : Object) → at ≤ setting.limits.text → calls_with stack (one token x) ≡ Some after
      → found_in stack (one token x) ≡ next_item_gives setting token after at cs
  object_goes_on [] after token x h e = cc
  object_goes_on (f ∷ fs) after token x h e = by (with_object f.part x) refl
    where
      calls : Part → List Frame
      calls part = record { call = f.call; part = part } ∷ fs

      by : (o : Option Part) → with_object f.part x ≡ o → found_in (f ∷ fs) (one token x) ≡ next_item_gives setting token after at cs
      by None n = let never : None ≡ Some after = sym (ap (option_map calls) n) ∙ e in cc
      by (Some new) n =
          object_taken setting fs f.call at cs token x f.part new h n
          ∙ ap (λ (gs : List Frame). next_item_gives setting token gs at cs) (some_same (calls new) after (sym (ap (option_map calls) n) ∙ e))

  pub object_stops : (stack : List Frame) (token : Bool) (x : Object) → 0 < length stack → calls_with stack (one token x) ≡ None → is_waiting stack ≡ false
      → found_in stack (one token x) ≡ fault DOT_CONTEXT at
  object_stops [] token x some e other = absurd (omega (arith, some))
  object_stops (f ∷ fs) token x some e other = by (with_object f.part x) refl
    where
      calls : Part → List Frame
      calls part = record { call = f.call; part = part } ∷ fs

      by : (o : Option Part) → with_object f.part x ≡ o → found_in (f ∷ fs) (one token x) ≡ fault DOT_CONTEXT at
      by None n = object_refused setting fs f.call at cs token x f.part n other
      by (Some new) n = let never : Some (calls new) ≡ None = sym (ap (option_map calls) n) ∙ e in cc

  pub dot_goes_on : (stack after : List Frame) → calls_with stack lone_dot ≡ Some after → found_in stack lone_dot ≡ next_item_gives setting false after at cs
  dot_goes_on [] after e = cc
  dot_goes_on (f ∷ fs) after e = by (with_dot f.part) refl
    where
      calls : Part → List Frame
      calls part = record { call = f.call; part = part } ∷ fs

      by : (o : Option Part) → with_dot f.part ≡ o → found_in (f ∷ fs) lone_dot ≡ next_item_gives setting false after at cs
      by None n = let never : None ≡ Some after = sym (ap (option_map calls) n) ∙ e in cc
      by (Some new) n =
          dot_taken setting fs f.call at cs f.part new n
          ∙ ap (λ (gs : List Frame). next_item_gives setting false gs at cs) (some_same (calls new) after (sym (ap (option_map calls) n) ∙ e))

  pub dot_stops : (stack : List Frame) → 0 < length stack → calls_with stack lone_dot ≡ None → found_in stack lone_dot ≡ fault DOT_CONTEXT at
  dot_stops [] some e = absurd (omega (arith, some))
  dot_stops (f ∷ fs) some e = by (with_dot f.part) refl
    where
      calls : Part → List Frame
      calls part = record { call = f.call; part = part } ∷ fs

      by : (o : Option Part) → with_dot f.part ≡ o → found_in (f ∷ fs) lone_dot ≡ fault DOT_CONTEXT at
      by None n = dot_refused setting fs f.call at cs f.part n
      by (Some new) n = let never : Some (calls new) ≡ None = sym (ap (option_map calls) n) ∙ e in cc

  -- it waited for its one object
  pub next_comes : (old stack : List Frame) (call : InvokedCall) (token : Bool) (x y : Object) (depth : ℕ) (done : CallValue) (received : Return) → old ≡ record { call = call; part = InNext } ∷ stack
      → depth ≡ length stack → y ≡ x → completed_call setting depth call token token (one_object y) ≡ plan_of done
      → AttemptTakes setting stack at cs received (run setting.table setting.limits (outer_plan setting stack (plan_of done)) at cs)
      → AttemptTakes setting stack at cs received (found_in old (one token x))
  next_comes old stack call token x y depth done received is open_calls same comes takes =
      let whole : found_in old (one token x) ≡ run setting.table setting.limits (outer_plan setting stack (plan_of done)) at cs =
      ap (λ (fs : List Frame). found_in fs (one token x)) is ∙ one_in_next setting stack call at cs token x
      ∙ ap (λ (plan : Plan Found). run setting.table setting.limits (outer_plan setting stack plan) at cs)
      ((λ i. completed_call setting (sym open_calls i) call token token (one_object (sym same i))) ∙ comes) in
      subst (λ (r : Read Found). AttemptTakes setting stack at cs received r) (sym whole) takes

  pub found_dot : (stack after : List Frame) (found : Found) (received : Return) → found ≡ lone_dot → AttemptTakes setting after at cs received (found_in stack lone_dot)
      → AttemptTakes setting after at cs received (found_in stack found)
  found_dot stack after found received e takes = subst (λ (f : Found). AttemptTakes setting after at cs received (found_in stack f)) (sym e) takes

-- as many calls are open
pub as_many : (stack after : List Frame) (found : Found) → calls_with stack found ≡ Some after → length after ≡ length stack
as_many [] after found e = cc
as_many (f ∷ fs) after found e = by (with_found f.part found) refl
  where
    calls : Part → List Frame
    calls part = record { call = f.call; part = part } ∷ fs

    by : (o : Option Part) → with_found f.part found ≡ o → length after ≡ length (f ∷ fs)
    by None n = let never : None ≡ Some after = sym (ap (option_map calls) n) ∙ e in cc
    by (Some new) n = ap length (sym (some_same (calls new) after (sym (ap (option_map calls) n) ∙ e)))

pub stays_open : (stack after : List Frame) (found : Found) (token : Bool) → calls_with stack found ≡ Some after → ShortensOpenCalls stack after (Waits token)
stays_open stack after found token e = let many : length after ≡ length stack = as_many stack after found e in omega (arith, many)

-- ---- call after call

pub none_left : (setting : Setting) (old stack : List Frame) (x found : Found) (at : ℕ) (cs : List ℕ)
    → ((cs : List ℕ) → run setting.table setting.limits (outer_plan setting old (gives x)) at cs ≡ run setting.table setting.limits (outer_plan setting stack (gives found)) at cs)
    → stack ≡ [] → run setting.table setting.limits (outer_plan setting old (gives x)) at cs ≡ Ok (found, at, cs)
unfolding outer_plan run
none_left setting old stack x found at cs before none =
    before cs ∙ ap (λ (fs : List Frame). run setting.table setting.limits (outer_plan setting fs (gives found)) at cs) none

-- the outermost attempt came to this
pub done_told : (setting : Setting) (stack : List Frame) (at : ℕ) (cs : List ℕ) (read : Read Found) (returned : Return) (found : Found) → returned ≡ ReturnGives found
    → Returns setting stack at cs returned read → (read ≡ Ok (found, at, cs)) × (stack ≡ [])
done_told setting stack at cs read returned found e h = subst (λ (d : Return). Returns setting stack at cs d read) e h

-- what was found before the byte is passed on
pub before_passes : (setting : Setting) (after last : List Frame) (at c : ℕ) (cs : List ℕ) (moved : Moved) (event : Event) (found : Found) (read : Read Found) (result : Result Passed AllocError)
    → moved ≡ IsBefore event → event ≡ IsGiven found → Moves setting after at c cs moved read
    → IfOk result (λ passed. Passes setting last at c cs passed (plan_gives setting after (gives found) at (c ∷ cs))) → IfOk result (λ passed. Passes setting last at c cs passed read)
before_passes setting after last at c cs moved event found read result e is moves passes =
    let told : read ≡ plan_gives setting after (gives found) at (c ∷ cs) =
    subst (λ (m : Moved). Moves setting after at c cs m read) (e ∙ ap (λ (ev : Event). IsBefore ev) is) moves in
    subst (λ (r : Read Found). IfOk result (λ passed. Passes setting last at c cs passed r)) (sym told) passes

-- a byte that was taken
pub taken_brings : (setting : Setting) (stack : List Frame) (at c : ℕ) (cs : List ℕ) (passed : Passed) (event : Event) (read : Read Found) → passed ≡ PassedBrings event
    → Passes setting stack at c cs passed read → Brings setting stack (at + 1) cs event read
taken_brings setting stack at c cs passed event read e passes = subst (λ (p : Passed). Passes setting stack at c cs p read) e passes
