-- Evaluations that count their steps. A step is about what it costs to copy one object.
use Rattle.std.specs.Prelude.{ℕ, ◌+◌, ◌-◌, nat_le, Bool, false, ◌||◌, if◌then◌else◌, List, length, Result, Ok, Err}
use Rattle.lisp_object.specs.Object.{Object, text, symbol, uninterned, pair, vector, is_nil}
use Rattle.kept_functions.specs.declared.bounds.TheConstants.{TOO_MANY_STEPS}
use Rattle.plist_state.specs.State.{WorldState}
use Rattle.lisp_operators.specs.Evaluation.{Evaluation, Done}

-- How far an evaluation has come: the state of the world, and how many steps are left.
pub record Point : Type 0 where
  pub state : WorldState
  pub left : ℕ

-- a value, the point after it and whether anything was written; or the number of the refusal
pub record Reached (A : Type 0) : Type 0 where
  pub value : A
  pub point : Point
  pub wrote : Bool

-- what is evaluated in a counted number of steps, or the number of its refusal
abbrev pub Counting : Type 0 → Type 0
Counting A = Result (Reached A) ℕ

-- the value, at a point that stays as it is
abbrev pub here : {A : Type 0} → A → Point → Counting A
here x p = Ok (record { value = x; point = p; wrote = false })

-- what was written before counts too
abbrev pub wrote_too : {A : Type 0} → Bool → Counting A → Counting A
wrote_too wrote (Ok r) = Ok (record r { wrote = wrote || r.wrote })
wrote_too wrote (Err code) = Err code

-- one evaluation, and then another at the point that the first one reaches
abbrev pub then_on : {A B : Type 0} → Counting A → (A → Point → Counting B) → Counting B
then_on (Ok r) next = wrote_too r.wrote (next r.value r.point)
then_on (Err code) next = Err code

-- so many steps, where they are left
abbrev pub spending : {A : Type 0} → ℕ → Point → (Point → Counting A) → Counting A
spending n p on = if nat_le n p.left then on (record p { left = p.left - n }) else Err TOO_MANY_STEPS

-- how many steps an object is: one for each atom, list and vector in it, as its size, and one for each character of a text and of a name
abbrev mutual
  pub weight : Object → ℕ
  weight (pair a b) = weight a + weight_along b + 1
  weight (vector xs) = weight_along xs + 1
  weight (text characters) = length characters + 1
  weight (symbol home name) = length name + 1
  weight (uninterned name) = length name + 1
  weight _ = 1

  pub weight_along : Object → ℕ
  weight_along (pair a b) = weight a + weight_along b
  weight_along (vector xs) = weight_along xs + 1
  weight_along (text characters) = length characters + 1
  weight_along (symbol home name) = if is_nil home name then 0 else length name + 1
  weight_along (uninterned name) = length name + 1
  weight_along _ = 1

-- a value that was made takes its weight
abbrev pub weighing : Object → Point → Bool → Counting Object
weighing x p wrote = spending (weight x) p (λ later. Ok (record { value = x; point = later; wrote = wrote }))

-- what an operator gives, at this point
abbrev pub at_point : Point → Evaluation Object → Counting Object
at_point p (Ok d) = weighing d.value (record p { state = d.state }) d.wrote
at_point p (Err code) = Err code

-- an evaluation that counts its steps, as one that does not: what is left is dropped
abbrev pub without_count : {A : Type 0} → Counting A → Evaluation A
without_count (Ok r) = Ok (record { value = r.value; state = r.point.state; wrote = r.wrote })
without_count (Err code) = Err code
