-- What was gathered and what is answered, part by part; what keeps a reader going where calls and tokens end; what an open call gives
-- where its closing character comes.
use Rattle.std.proofs.Common.{◌≡◌, true, List, [], ◌∷◌, map, refl, sym, ap, ◌∙◌, All, ℕ, ◌≤◌, Bool, false, Result, Ok, Err, IfOk, subst, arith, ◌-◌, length}
use Rattle.std.specs.Prelude.{◌&&◌, ◌||◌}
use Rattle.std.specs.List.{list_all}
use Rattle.std.proofs.Math.Bool.{and_assoc}
use Rattle.lisp_object.specs.declared.datum.Datum.{Datum}
use Rattle.lisp_object.specs.Object.{Object, pairs}
use Rattle.lisp_object.specs.Datum.{object_of, is_proper}
use Rattle.package_table.specs.Table.{Table as Packages}
use Rattle.lisp_reading.specs.Answering.{are_known}
use Rattle.std.proofs.lemmas.Bool.{and_parts}
use Rattle.std.proofs.lemmas.List.Elements.{All-nil, All-cons}
use Rattle.std.specs.declared.alloc.AllocError.{AllocError}
use Rattle.lisp_reading.specs.declared.limits.Limits.{Limits}
use Rattle.form_reader.specs.declared.state.Event.{Event}
use Rattle.form_reader.specs.declared.state.Event.TheVariants.{Open as IsAt, Gives as IsGiven, Refused as IsRefused}
use Rattle.form_reader.specs.declared.value.Return.{Return}
use Rattle.form_reader.specs.declared.value.Return.TheVariants.{Refused as ReturnRefused}
use Rattle.lisp_reading.specs.declared.attempt.Found.{Found}
use Rattle.form_reader.specs.State.{discarded_space_length, IsReady, IsEnd, Brings}
use Rattle.form_reader.specs.Value.{IsReturnAt}
use Rattle.lisp_object.specs.declared.refusal.TheConstants.{DOT_CONTEXT}
use Rattle.std_macros.specs.Values.{Material, many, dotted}
use Rattle.form_reader.specs.declared.call.CallValue.{CallValue}
use Rattle.form_reader.specs.declared.stack.Frame.{Frame}
use Rattle.form_reader.specs.declared.stack.Part.{Part}
use Rattle.form_reader.specs.declared.stack.Part.TheVariants.{Next as InNext, List as InList, Until as InUntil, Dotted as InDotted, Tailed as InTailed}
use Rattle.lisp_reading.specs.Plans.{Plan, Read, then_plan, fault}
use Rattle.lisp_reading.specs.InvokedCalls.{InvokedCall}
use Rattle.lisp_reading.specs.Setting.{Setting}
use Rattle.lisp_reading.specs.Reading.{closed, completed_call}
use Rattle.form_reader.specs.Call.{plan_of, CallComesTo}
use Rattle.form_reader.specs.Stack.{call_in, plan_gives}
use Rattle.form_reader.proofs.Dispatches.{given_refused}

pub known_pairs : (packages : Packages) (items : List Datum) (end : Object)
    → are_known packages (pairs (map object_of items) end) ≡ (list_all (λ d. are_known packages (object_of d)) items && are_known packages end)
known_pairs packages [] end = refl
known_pairs packages (x ∷ xs) end =
    ap (λ b. are_known packages (object_of x) && b) (known_pairs packages xs end)
    ∙ sym (and_assoc (are_known packages (object_of x)) (list_all (λ d. are_known packages (object_of d)) xs) (are_known packages end))

pub all_proper : (items : List Datum) → list_all is_proper items ≡ true → All (λ datum. is_proper datum ≡ true) items
all_proper [] h = All-nil (λ datum. is_proper datum ≡ true)
all_proper (x ∷ xs) h =
    let parts = and_parts (is_proper x) (list_all is_proper xs) h in
    All-cons (λ datum. is_proper datum ≡ true) x xs parts.0 (all_proper xs parts.1)

-- a call that ends with a byte, and no token in it
pub ended_ready : (limits : Limits) (most at : ℕ) (event : Event) → IsEnd most at event → most ≤ 0 → at ≤ limits.text → IsReady limits at event
ended_ready limits most at (IsAt state) h none le = absurd h
ended_ready limits most at (IsGiven found) h none le = (le, omega (arith, h, none))
ended_ready limits most at (IsRefused code offset) h none le = h

-- the same, where it may run out of memory
pub all_ready : (limits : Limits) (at : ℕ) (result : Result Event AllocError) → IfOk result (IsEnd 0 at) → at ≤ limits.text → IfOk result (IsReady limits at)
all_ready limits at (Ok event) h le = ended_ready limits 0 at event h (omega arith) le
all_ready limits at (Err e) h le = tt

pub end_within : (less most at : ℕ) (event : Event) → IsEnd less at event → less ≤ most → IsEnd most at event
end_within less most at (IsAt state) h le = h
end_within less most at (IsGiven found) h le = omega (arith, h, le)
end_within less most at (IsRefused code offset) h le = h

pub or_none : (a : Bool) → discarded_space_length (a || false) ≡ discarded_space_length a
or_none true = refl
or_none false = refl

pub space_or : (a b : Bool) → discarded_space_length a ≤ discarded_space_length (a || b)
space_or true b = omega arith
space_or false true = omega arith
space_or false false = omega arith

pub or_space : (a b : Bool) → discarded_space_length b ≤ discarded_space_length (a || b)
or_space true true = omega arith
or_space true false = omega arith
or_space false true = omega arith
or_space false false = omega arith

-- ---- what one open call makes of it

module _ (less most at : ℕ) (received : Return) where
  pub refused_within : (code offset : ℕ) → received ≡ ReturnRefused code offset → IsReturnAt less at received → offset ≤ at
  refused_within code offset e h = subst (λ (t : Return). IsReturnAt less at t) e h

module _ (setting : Setting) (stack : List Frame) (call : InvokedCall) (at : ℕ) (cs : List ℕ) where
  abbrev pub closing : Part → Read Found
  closing part = plan_gives setting stack (call_in setting (record { call = call; part = part }) stack closed) at cs

  abbrev pub completing : Material → Read Found
  completing material = plan_gives setting stack (completed_call setting (length stack) call false false material) at cs

  pub next_closes : (part : Part) → part ≡ InNext → closing part ≡ fault DOT_CONTEXT at
  next_closes part e = ap closing e ∙ given_refused setting stack at cs DOT_CONTEXT 0 ∙ (let e : at - 0 ≡ at = omega arith in ap (λ (n : ℕ). fault DOT_CONTEXT n) e)

  pub dotted_closes : (part : Part) (xs : List Object) (offset : ℕ) → part ≡ InDotted xs → offset ≡ at - 1 → closing part ≡ fault DOT_CONTEXT offset
  dotted_closes part xs offset e p = ap closing e ∙ given_refused setting stack at cs DOT_CONTEXT 1 ∙ ap (λ (n : ℕ). fault DOT_CONTEXT n) (sym p)

  list_gives : (xs : List Object) → closing (InList xs) ≡ completing (many xs)
  unfolding then_plan
  list_gives xs = refl

  until_gives : (close : ℕ) (xs : List Object) → closing (InUntil close xs) ≡ completing (many xs)
  unfolding then_plan
  until_gives close xs = refl

  pub list_closes : (part : Part) (xs ys : List Object) (result : Result Event AllocError) → part ≡ InList xs → ys ≡ xs → IfOk result (λ event. Brings setting stack at cs event (completing (many ys)))
      → IfOk result (λ event. Brings setting stack at cs event (closing part))
  list_closes part xs ys result e same brings =
      subst (λ (r : Read Found). IfOk result (λ event. Brings setting stack at cs event r)) (ap (λ (xs : List Object). completing (many xs)) same ∙ sym (list_gives xs) ∙ sym (ap closing e)) brings

  pub until_closes : (part : Part) (close : ℕ) (xs ys : List Object) (result : Result Event AllocError) → part ≡ InUntil close xs → ys ≡ xs → IfOk result (λ event. Brings setting stack at cs event (completing (many ys)))
      → IfOk result (λ event. Brings setting stack at cs event (closing part))
  until_closes part close xs ys result e same brings =
      subst (λ (r : Read Found). IfOk result (λ event. Brings setting stack at cs event r)) (ap (λ (xs : List Object). completing (many xs)) same ∙ sym (until_gives close xs) ∙ sym (ap closing e)) brings

  pub tailed_closes : (part : Part) (xs ys : List Object) (tail last : Object) (result : Result Event AllocError) → part ≡ InTailed xs tail → ys ≡ xs → last ≡ tail
      → IfOk result (λ event. Brings setting stack at cs event (completing (dotted ys last))) → IfOk result (λ event. Brings setting stack at cs event (closing part))
  tailed_closes part xs ys tail last result e same ends brings =
      subst (λ (r : Read Found). IfOk result (λ event. Brings setting stack at cs event r)) ((λ i. completing (dotted (same i) (ends i))) ∙ sym (ap closing e)) brings

-- what the call gives, whether a token ends it or not
pub call_ends : (setting : Setting) (stack : List Frame) (call : InvokedCall) (at : ℕ) (cs : List ℕ) (token : Bool) (material : Material) (depth : ℕ) (done : CallValue) (event : Event)
    → depth ≡ length stack → completed_call setting depth call token false material ≡ plan_of done
    → CallComesTo setting stack done at cs event → Brings setting stack at cs event (plan_gives setting stack (completed_call setting (length stack) call token false material) at cs)
call_ends setting stack call at cs token material depth done event open_calls comes brings =
    let same : completed_call setting (length stack) call token false material ≡ plan_of done =
    ap (λ (n : ℕ). completed_call setting n call token false material) (sym open_calls) ∙ comes in
    subst (λ (plan : Plan Found). Brings setting stack at cs event (plan_gives setting stack plan at cs)) (sym same) brings
