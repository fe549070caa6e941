-- What open calls make of what is given in the innermost, and what the innermost takes.
use Rattle.std.proofs.Common.{◌≡◌, ℕ, ◌+◌, ◌≤◌, Bool, true, false, List, [], ◌∷◌, length, Some, Ok, Err, refl, sym, ap, ◌∙◌, Result, IfOk, ◌-◌, ◌<◌, ◌++◌, reverse, slice_index_or, slice_set, subst}
use Rattle.std.specs.Prelude.{nat_le, option_map}
use Rattle.lisp_object.specs.Object.{Object}
use Rattle.lisp_object.specs.declared.refusal.TheConstants.{FORM_TOO_LONG}
use Rattle.readtable_core.specs.Tables.{Table}
use Rattle.lisp_reading.specs.declared.limits.Limits.{Limits}
use Rattle.lisp_reading.specs.declared.attempt.Found.{Found}
use Rattle.form_reader.specs.declared.stack.Frame.{Frame}
use Rattle.form_reader.specs.declared.stack.Part.TheVariants.{List as InList, Until as InUntil}
use Rattle.lisp_reading.specs.Plans.{Plan, takes, then_plan, Fault, Read, within, run}
use Rattle.lisp_reading.specs.InvokedCalls.{InvokedCall}
use Rattle.lisp_reading.specs.Setting.{Setting}
use Rattle.lisp_reading.specs.Reading.{Piece, is_whitespace, without_space, piece_of, next_item, Items, items_step, items_turn, items_after, undotted_plan, list_end, completed_call}
use Rattle.form_reader.specs.Stack.{attempt_in, next_item_in, call_in, outer_plan, between_objects, with_found, calls_with}
use Rattle.lisp_reading.proofs.Steps.{and_then, run_then}
use Rattle.lisp_reading.proofs.Turns.{Ends, attempt_ends, loop_is, items_guarded}
use mathlib.Core.List.{reverse_aux}
use Rattle.std.specs.declared.alloc.AllocError.{AllocError}
use Rattle.package_table.proofs.Undoing.{IsLast, at_last}
use Rattle.form_reader.specs.declared.stack.Part.{Part}

-- where two plans give the same, each at its offset, so do these with the next plan after them
pub then_moves : {A B : Type 0} (table : Table) (limits : Limits) (p q : Plan A) (next : A → Plan B) (at to : ℕ) (cs ds : List ℕ)
    → run table limits p at cs ≡ run table limits q to ds → run table limits (then_plan p next) at cs ≡ run table limits (then_plan q next) to ds
then_moves table limits p q next at to cs ds e = run_then table limits p next at cs ∙ ap (and_then table limits next) e ∙ sym (run_then table limits q next to ds)

and_then_twice : {A B C : Type 0} (table : Table) (limits : Limits) (next : A → Plan B) (last : B → Plan C) (r : Read A)
    → and_then table limits last (and_then table limits next r) ≡ and_then table limits (λ x. then_plan (next x) last) r
and_then_twice table limits next last (Ok p) = sym (run_then table limits (next p.0) last p.1 p.2)
and_then_twice table limits next last (Err e) = refl

then_twice : {A B C : Type 0} (table : Table) (limits : Limits) (p : Plan A) (next : A → Plan B) (last : B → Plan C) (at : ℕ) (cs : List ℕ)
    → run table limits (then_plan (then_plan p next) last) at cs ≡ run table limits (then_plan p (λ x. then_plan (next x) last)) at cs
then_twice table limits p next last at cs =
    run_then table limits (then_plan p next) last at cs
    ∙ ap (and_then table limits last) (run_then table limits p next at cs)
    ∙ and_then_twice table limits next last (run table limits p at cs)
    ∙ sym (run_then table limits p (λ x. then_plan (next x) last) at cs)

-- What one call gives, all the calls that it is open in go on with. So each law of a plan is a law of a reader in any open calls.
pub given_moves : (setting : Setting) (stack : List Frame) (p q : Plan Found) (at to : ℕ) (cs ds : List ℕ)
    → run setting.table setting.limits p at cs ≡ run setting.table setting.limits q to ds
    → run setting.table setting.limits (outer_plan setting stack p) at cs ≡ run setting.table setting.limits (outer_plan setting stack q) to ds
unfolding outer_plan
given_moves setting [] p q at to cs ds e = e
given_moves setting (f ∷ fs) p q at to cs ds e =
    let found = λ (x : Found). piece_of setting.table (next_item_in setting f fs) x in
    let call = λ (x : Piece). call_in setting f fs x in
    given_moves setting fs (then_plan (then_plan p found) call) (then_plan (then_plan q found) call) at to cs ds
    (then_moves setting.table setting.limits (then_plan p found) (then_plan q found) call at to cs ds (then_moves setting.table setting.limits p q found at to cs ds e))

-- a fault in a call is the fault of the form
pub given_fault : (setting : Setting) (stack : List Frame) (p : Plan Found) (at : ℕ) (cs : List ℕ) (e : Fault)
    → run setting.table setting.limits p at cs ≡ Err e → run setting.table setting.limits (outer_plan setting stack p) at cs ≡ Err e
unfolding outer_plan
given_fault setting [] p at cs e h = h
given_fault setting (f ∷ fs) p at cs e h =
    let found = λ (x : Found). piece_of setting.table (next_item_in setting f fs) x in
    let call = λ (x : Piece). call_in setting f fs x in
    given_fault setting fs (then_plan (then_plan p found) call) at cs e
    (run_then setting.table setting.limits (then_plan p found) call at cs ∙ ap (and_then setting.table setting.limits call)
    (run_then setting.table setting.limits p found at cs ∙ ap (and_then setting.table setting.limits found) h))

-- ---- what is gathered in a call, and what the call makes of it

-- it goes on
pub gathering_moves : {A : Type 0} (setting : Setting) (stack : List Frame) (p q : Plan A) (on : A → Plan Found) (at to : ℕ) (cs ds : List ℕ)
    → run setting.table setting.limits p at cs ≡ run setting.table setting.limits q to ds
    → run setting.table setting.limits (outer_plan setting stack (then_plan p on)) at cs ≡ run setting.table setting.limits (outer_plan setting stack (then_plan q on)) to ds
gathering_moves setting stack p q on at to cs ds e =
    given_moves setting stack (then_plan p on) (then_plan q on) at to cs ds (then_moves setting.table setting.limits p q on at to cs ds e)

-- it ends
pub gathering_ends : {A : Type 0} (setting : Setting) (stack : List Frame) (p : Plan A) (on : A → Plan Found) (x : A) (at to : ℕ) (cs ds : List ℕ)
    → run setting.table setting.limits p at cs ≡ Ok (x, to, ds)
    → run setting.table setting.limits (outer_plan setting stack (then_plan p on)) at cs ≡ run setting.table setting.limits (outer_plan setting stack (on x)) to ds
gathering_ends setting stack p on x at to cs ds e =
    given_moves setting stack (then_plan p on) (on x) at to cs ds
    (run_then setting.table setting.limits p on at cs ∙ ap (and_then setting.table setting.limits on) e)

-- it is refused
pub gathering_fails : {A : Type 0} (setting : Setting) (stack : List Frame) (p : Plan A) (on : A → Plan Found) (e : Fault) (at : ℕ) (cs : List ℕ)
    → run setting.table setting.limits p at cs ≡ Err e
    → run setting.table setting.limits (outer_plan setting stack (then_plan p on)) at cs ≡ Err e
gathering_fails setting stack p on f at cs e =
    given_fault setting stack (then_plan p on) at cs f
    (run_then setting.table setting.limits p on at cs ∙ ap (and_then setting.table setting.limits on) e)

-- ---- objects up to a closing character are an open call

items_are : (setting : Setting) (close : ℕ) (may : Plan Found) (last : Items → Plan Found) (xs : List Object) (at : ℕ) (cs : List ℕ)
    → Ends setting.table setting.limits may → at ≤ setting.limits.text
    → run setting.table setting.limits (then_plan (items_after setting close may xs) last) at cs
    ≡ run setting.table setting.limits (then_plan (next_item setting (Some close) may)
    (λ p. then_plan (items_step setting.table (items_after setting close may) xs p) last)) at cs
items_are setting close may last xs at cs ends h =
    then_moves setting.table setting.limits (items_after setting close may xs) (items_turn setting close may (items_after setting close may) xs) last at at cs cs
    (loop_is setting.table setting.limits (items_turn setting close may) (items_guarded setting close may ends) xs at cs h)
    ∙ then_twice setting.table setting.limits (next_item setting (Some close) may) (λ p. items_step setting.table (items_after setting close may) xs p) last at cs

pub ends_in : (setting : Setting) (stack : List Frame) → Ends setting.table setting.limits (attempt_in setting stack)
ends_in setting stack = attempt_ends setting _ _

pub list_is : (setting : Setting) (stack : List Frame) (call : InvokedCall) (xs : List Object) (at : ℕ) (cs : List ℕ) → at ≤ setting.limits.text
    → run setting.table setting.limits (outer_plan setting stack (then_plan (items_after setting 41 (attempt_in setting stack) xs)
    (list_end setting (attempt_in setting stack) (λ m. completed_call setting (length stack) call false false m)))) at cs
    ≡ run setting.table setting.limits (between_objects setting (record { call = call; part = InList xs } ∷ stack)) at cs
list_is setting stack call xs at cs h =
    given_moves setting stack _ _ at at cs cs (items_are setting 41 (attempt_in setting stack)
    (list_end setting (attempt_in setting stack) (λ m. completed_call setting (length stack) call false false m)) xs at cs (ends_in setting stack) h)

pub until_is : (setting : Setting) (stack : List Frame) (call : InvokedCall) (close : ℕ) (xs : List Object) (at : ℕ) (cs : List ℕ) → at ≤ setting.limits.text
    → run setting.table setting.limits (outer_plan setting stack (then_plan (items_after setting close (attempt_in setting stack) xs)
    (undotted_plan (λ m. completed_call setting (length stack) call false false m)))) at cs
    ≡ run setting.table setting.limits (between_objects setting (record { call = call; part = InUntil close xs } ∷ stack)) at cs
until_is setting stack call close xs at cs h =
    given_moves setting stack _ _ at at cs cs (items_are setting close (attempt_in setting stack)
    (undotted_plan (λ m. completed_call setting (length stack) call false false m)) xs at cs (ends_in setting stack) h)

-- ---- a whitespace character that may be discarded

takes_given_at : {A : Type 0} (setting : Setting) (stack : List Frame) (p : Plan A) (test : ℕ → Bool) (on : A → Plan Found) (at c : ℕ) (cs : List ℕ) (b full : Bool)
    → test c ≡ b → nat_le setting.limits.text at ≡ full
    → run setting.table setting.limits (outer_plan setting stack (then_plan (takes p test (λ d. p)) on)) at (c ∷ cs)
    ≡ elim b [
      | true ↦ within full at (run setting.table setting.limits (outer_plan setting stack (then_plan p on)) (at + 1) cs)
      | false ↦ run setting.table setting.limits (outer_plan setting stack (then_plan p on)) at (c ∷ cs)
    ]
unfolding run then_plan
takes_given_at {A = A} setting stack p test on at c cs b full e f =
    let first : Bool → Bool → Read Found = λ b full. elim b [
      | true ↦ within full at (run setting.table setting.limits (then_plan p on) (at + 1) cs)
      | false ↦ run setting.table setting.limits (then_plan p on) at (c ∷ cs)
    ] in
    let last : Bool → Bool → Read Found = λ b full. elim b [
      | true ↦ within full at (run setting.table setting.limits (outer_plan setting stack (then_plan p on)) (at + 1) cs)
      | false ↦ run setting.table setting.limits (outer_plan setting stack (then_plan p on)) at (c ∷ cs)
    ] in
    let begins : run setting.table setting.limits (then_plan (takes p test (λ d. p)) on) at (c ∷ cs) ≡ first b full = (λ i. first (e i) (f i)) in
    let by : (b full : Bool) → run setting.table setting.limits (then_plan (takes p test (λ d. p)) on) at (c ∷ cs) ≡ first b full
    → run setting.table setting.limits (outer_plan setting stack (then_plan (takes p test (λ d. p)) on)) at (c ∷ cs) ≡ last b full =
    λ b full. elim b as (λ b. run setting.table setting.limits (then_plan (takes p test (λ d. p)) on) at (c ∷ cs) ≡ first b full
    → run setting.table setting.limits (outer_plan setting stack (then_plan (takes p test (λ d. p)) on)) at (c ∷ cs) ≡ last b full) [
      | true ↦ elim full as (λ full. run setting.table setting.limits (then_plan (takes p test (λ d. p)) on) at (c ∷ cs) ≡ first true full
          → run setting.table setting.limits (outer_plan setting stack (then_plan (takes p test (λ d. p)) on)) at (c ∷ cs) ≡ last true full) [
            | true ↦ λ e. given_fault setting stack (then_plan (takes p test (λ d. p)) on) at (c ∷ cs) (record { number = FORM_TOO_LONG; at = at }) e
            | false ↦ λ e. given_moves setting stack (then_plan (takes p test (λ d. p)) on) (then_plan p on) at (at + 1) (c ∷ cs) cs e
          ]
      | false ↦ λ e. given_moves setting stack (then_plan (takes p test (λ d. p)) on) (then_plan p on) at at (c ∷ cs) (c ∷ cs) e
    ] in
    by b full begins

-- the whitespace that may be discarded in a call may be discarded before what all open calls go on with
pub space_given : {A : Type 0} (setting : Setting) (stack : List Frame) (token : Bool) (p : Plan A) (on : A → Plan Found) (at : ℕ) (cs : List ℕ)
    → run setting.table setting.limits (outer_plan setting stack (then_plan (without_space setting.table token p) on)) at cs
    ≡ run setting.table setting.limits (without_space setting.table token (outer_plan setting stack (then_plan p on))) at cs
unfolding run then_plan
space_given setting stack false p on at cs = refl
space_given setting stack true p on at [] =
    given_moves setting stack (then_plan (takes p (is_whitespace setting.table) (λ d. p)) on) (then_plan p on) at at [] [] refl
space_given setting stack true p on at (c ∷ cs) =
    takes_given_at setting stack p (is_whitespace setting.table) on at c cs (is_whitespace setting.table c) (nat_le setting.limits.text at) refl refl

reverse_onto : (xs onto : List Frame) (x : Frame) → reverse_aux (xs ++ x ∷ []) onto ≡ x ∷ reverse_aux xs onto
reverse_onto [] onto x = refl
reverse_onto (y ∷ ys) onto x = reverse_onto ys (y ∷ onto) x

reverse_push : (xs : List Frame) (x : Frame) → reverse (xs ++ x ∷ []) ≡ x ∷ reverse xs
reverse_push xs x = reverse_onto xs [] x

pub last_takes : (items : List Frame) (n : ℕ) (frame : Frame) (part : Part) (found : Found) (now : List Frame) → length items ≡ n → 0 < n → frame ≡ slice_index_or items (n - 1) frame
    → reverse items ≡ now → with_found frame.part found ≡ Some part
    → calls_with now found ≡ Some (reverse (slice_set items (n - 1) (record { call = frame.call; part = part })))
last_takes items n frame part found now is_length some newest view given =
    let new : Frame = record { call = frame.call; part = part } in
    let last : IsLast items (n - 1) frame =
    subst (λ (k : ℕ). IsLast items (k - 1) frame) is_length
    (at_last items frame (subst (λ (k : ℕ). 0 < k) (sym is_length) some) (newest ∙ ap (λ (k : ℕ). slice_index_or items (k - 1) frame) (sym is_length))) in
    ap (λ (fs : List Frame). calls_with fs found) (sym view ∙ ap reverse last.1 ∙ reverse_push last.0 frame)
    ∙ ap (option_map (λ (p : Part). record { call = frame.call; part = p } ∷ reverse last.0)) given
    ∙ ap (λ (fs : List Frame). Some fs) (sym (ap reverse (last.2 new) ∙ reverse_push last.0 new))

-- the same where it may run out of memory
pub taken_so : (result : Result Bool AllocError) (P Q : Type 0) → (P → Q) → IfOk result (λ taken. taken ≡ true → P) → IfOk result (λ taken. taken ≡ true → Q)
taken_so (Ok taken) P Q on h = λ e. on (h e)
taken_so (Err x) P Q on h = tt
