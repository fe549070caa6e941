-- What a reader that takes one byte at a time stands for: its open calls, innermost first, and where it is in the innermost.
-- By recursion on the open calls alone, over the definition of reading.
use Rattle.std.specs.Prelude.{ℕ, ◌≡◌, ◌+◌, ◌-◌, ◌==◌, Bool, true, false, List, [], ◌∷◌, ◌++◌, length, Option, Some, None, option_map, Ok, Err}
use Rattle.lisp_object.specs.Object.{Object}
use Rattle.token_scan.specs.declared.mark.Mark.{Mark}
use Rattle.std_macros.specs.Values.{one as one_object}
use Rattle.lisp_reading.specs.declared.attempt.Found.{Found}
use Rattle.lisp_reading.specs.declared.attempt.Found.TheVariants.{Nothing as nothing, One as one, LoneDot as lone_dot, TheEnd as the_end}
use Rattle.form_reader.specs.declared.stack.Frame.{Frame}
use Rattle.form_reader.specs.declared.stack.Part.{Part}
use Rattle.form_reader.specs.declared.stack.Part.TheVariants.{Next as InNext, List as InList, Until as InUntil, Dotted as InDotted, Tailed as InTailed}
use Rattle.lisp_reading.specs.Plans.{Plan, then_plan, Read, run}
use Rattle.lisp_reading.specs.InvokedCalls.{InvokedCall}
use Rattle.lisp_reading.specs.Setting.{Setting}
use Rattle.lisp_reading.specs.Reading.{Piece, piece_of, next_item, items_step, items_after, undotted_plan, after_tail, after_dot, list_end, one_piece, completed_call, attempt, without_space}

-- the closing character that is looked for
abbrev pub close_of : Part → Option ℕ
close_of InNext = None
close_of (InList xs) = Some 41
close_of (InUntil close xs) = Some close
close_of (InDotted xs) = Some 41
close_of (InTailed xs tail) = Some 41

-- the character that closes the innermost call
abbrev pub close_of_stack : List Frame → Option ℕ
close_of_stack [] = None
close_of_stack (f ∷ fs) = close_of f.part

-- this character is the one
abbrev pub is_closed_by : Option ℕ → ℕ → Bool
is_closed_by None c = false
is_closed_by (Some close) c = c == close

-- this character is not the closing one of the innermost call, if that looks for one
abbrev pub IsNoClose : ℕ → List Frame → Type 0
IsNoClose c stack = (close : ℕ) → close_of_stack stack ≡ Some close → (c == close) ≡ false

-- ---- what the innermost call takes, where it goes on as the same call

-- what it has gathered after it takes an object; None where it ends with the object, or refuses it
abbrev pub with_object : Part → Object → Option Part
with_object InNext x = None
with_object (InList xs) x = Some (InList (xs ++ x ∷ []))
with_object (InUntil close xs) x = Some (InUntil close (xs ++ x ∷ []))
with_object (InDotted xs) x = Some (InTailed xs x)
with_object (InTailed xs tail) x = None

-- after it takes a dot; None where it refuses it
abbrev pub with_dot : Part → Option Part
with_dot InNext = None
with_dot (InList []) = None
with_dot (InList (x ∷ xs)) = Some (InDotted (x ∷ xs))
with_dot (InUntil close xs) = None
with_dot (InDotted xs) = None
with_dot (InTailed xs tail) = None

-- what a call has gathered, after it takes what was found; none where it cannot
abbrev pub with_found : Part → Found → Option Part
with_found part (nothing token) = Some part
with_found part (one token x) = with_object part x
with_found part lone_dot = with_dot part
with_found part the_end = None

-- the open calls after the innermost takes what was found; none where no call is open, or it cannot take it
abbrev pub calls_with : List Frame → Found → Option (List Frame)
calls_with [] found = None
calls_with (f ∷ fs) found = option_map (λ part. record { call = f.call; part = part } ∷ fs) (with_found f.part found)

-- it waits for its one object, with which it ends
abbrev pub is_next : Part → Bool
is_next InNext = true
is_next (InList xs) = false
is_next (InUntil close xs) = false
is_next (InDotted xs) = false
is_next (InTailed xs tail) = false

-- whether the innermost call waits for its one object
abbrev pub is_waiting : List Frame → Bool
is_waiting [] = false
is_waiting (f ∷ fs) = is_next f.part

-- What the call gives if this piece comes next, at this depth, and attempts inside it are these.
abbrev pub part_gives : Setting → ℕ → Plan Found → InvokedCall → Part → Piece → Plan Found
part_gives setting depth attempt call InNext p = one_piece (λ token x. completed_call setting depth call token token (one_object x)) p
part_gives setting depth attempt call (InList xs) p =
    then_plan (items_step setting.table (items_after setting 41 attempt) xs p) (list_end setting attempt (λ m. completed_call setting depth call false false m))
part_gives setting depth attempt call (InUntil close xs) p =
    then_plan (items_step setting.table (items_after setting close attempt) xs p) (undotted_plan (λ m. completed_call setting depth call false false m))
part_gives setting depth attempt call (InDotted xs) p = after_dot setting attempt (λ m. completed_call setting depth call false false m) xs p
part_gives setting depth attempt call (InTailed xs tail) p = after_tail (λ m. completed_call setting depth call false false m) xs tail p

-- the attempts in a call that is open in these
abbrev pub attempt_in : Setting → List Frame → Plan Found
attempt_in setting stack = attempt setting (setting.limits.nesting - (length stack + 1))

-- what comes next in an open call
abbrev pub next_item_in : Setting → Frame → List Frame → Plan Piece
next_item_in setting f stack = next_item setting (close_of f.part) (attempt_in setting stack)

-- what an open call gives if this piece comes next
abbrev pub call_in : Setting → Frame → List Frame → Piece → Plan Found
call_in setting f stack p = part_gives setting (length stack) (attempt_in setting stack) f.call f.part p

-- what the outermost attempt comes to, if the attempt in the innermost call comes to this
unfoldable pub outer_plan : Setting → List Frame → Plan Found → Plan Found
outer_plan setting [] plan = plan
outer_plan setting (f ∷ fs) plan =
    outer_plan setting fs (then_plan (then_plan plan (λ found. piece_of setting.table (next_item_in setting f fs) found)) (λ p. call_in setting f fs p))

-- what the outermost attempt comes to, if in the innermost call an object may begin next
abbrev pub between_objects : Setting → List Frame → Plan Found
between_objects setting [] = attempt setting setting.limits.nesting
between_objects setting (f ∷ fs) = outer_plan setting fs (then_plan (next_item_in setting f fs) (λ p. call_in setting f fs p))

-- ---- what is given on a text

-- if the attempt in the innermost call comes to this
abbrev pub plan_gives : Setting → List Frame → Plan Found → ℕ → List ℕ → Read Found
plan_gives setting stack plan at cs = run setting.table setting.limits (outer_plan setting stack plan) at cs

-- where an object may begin: where a token ended before it, one whitespace character is discarded first
abbrev pub next_item_gives : Setting → Bool → List Frame → ℕ → List ℕ → Read Found
next_item_gives setting token stack at cs = run setting.table setting.limits (without_space setting.table token (between_objects setting stack)) at cs

-- ---- a token, whose bytes are not kept: what is given where it has come to this

-- what is given once the token is read, or its refusal
abbrev pub token_goes_on : Setting → List Frame → (List Mark → Plan Found) → Read (List Mark) → Read Found
token_goes_on setting stack on (Ok p) = plan_gives setting stack (on p.0) p.1 p.2
token_goes_on setting stack on (Err e) = Err e
