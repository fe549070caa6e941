-- What evaluation gives: a value, the state of the world after it and whether anything was written; or the number of the
-- refusal.
use Rattle.std.specs.Prelude.{ℕ, Bool, true, false, ◌||◌, Option, Some, None, Result, Ok, Err}
use Rattle.lisp_object.specs.declared.refusal.TheConstants.{ARGUMENT_KIND}
use Rattle.plist_state.specs.State.{WorldState}

-- what was evaluated: its value, the state after it, and whether anything was written
pub record Done (A : Type 0) : Type 0 where
  pub value : A
  pub state : WorldState
  pub wrote : Bool

-- that, or the number of the refusal
abbrev pub Evaluation : Type 0 → Type 0
Evaluation A = Result (Done A) ℕ

-- the value, in a state that stays as it is
abbrev pub gives : {A : Type 0} → A → WorldState → Evaluation A
gives x s = Ok (record { value = x; state = s; wrote = false })

-- the value, in the state that was written
abbrev pub writes : {A : Type 0} → A → WorldState → Evaluation A
writes x s = Ok (record { value = x; state = s; wrote = true })

-- what was written before counts too
abbrev pub also : {A : Type 0} → Bool → Evaluation A → Evaluation A
also wrote (Ok d) = Ok (record d { wrote = wrote || d.wrote })
also wrote (Err code) = Err code

-- one evaluation, and then another in the state that the first one leaves
abbrev pub and_then : {A B : Type 0} → Evaluation A → (A → WorldState → Evaluation B) → Evaluation B
and_then (Ok d) next = also d.wrote (next d.value d.state)
and_then (Err code) next = Err code

-- what goes on with an argument of the kind that is asked for; any other is refused
abbrev pub of_kind : {A B : Type 0} → Option A → (A → Evaluation B) → Evaluation B
of_kind (Some x) on = on x
of_kind None on = Err ARGUMENT_KIND
