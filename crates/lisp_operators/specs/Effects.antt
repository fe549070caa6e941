-- What a form does, where its value is not asked for.
use Rattle.std.specs.Prelude.{◌≡◌, ℕ, Bool, Result, Ok, Err}
use Rattle.lisp_object.specs.Object.{Object}
use Rattle.plist_state.specs.Properties.{Symbol}
use Rattle.plist_state.specs.State.{WorldState}
use Rattle.plist_state.specs.Changes.{property}
use Rattle.plist_state.specs.PushedLists.{pushed_list, with_pushed}
use Rattle.lisp_operators.specs.declared.error.EvaluationError.{EvaluationError}
use Rattle.lisp_operators.specs.declared.error.EvaluationError.TheVariants.{Refused, OutOfMemory}
use Rattle.lisp_operators.specs.Evaluation.{Evaluation, gives, writes}
use Rattle.lisp_operators.specs.ArgumentKinds.{is_true}
use Rattle.lisp_operators.specs.Properties.{if_within_limits}

-- the state that an evaluation leaves, and whether it wrote
abbrev pub effect : {A : Type 0} → Evaluation A → Result (WorldState × Bool) ℕ
effect (Ok d) = Ok (d.state, d.wrote)
effect (Err code) = Err code

-- A call leaves the state that the definition says, and tells whether anything was written; or it tells the number of the
-- refusal. Where memory ran out it says nothing.
abbrev pub Leaves : {A : Type 0} → Result Bool EvaluationError → WorldState → Evaluation A → Type 0
Leaves (Ok wrote) s said = effect said ≡ Ok (s, wrote)
Leaves (Err (Refused code)) s said = said ≡ Err code
Leaves (Err OutOfMemory) s said = Unit {0}

-- A call that leaves the state as it is tells whether the value is true that the definition says; or it tells the number of the
-- refusal. Where memory ran out it says nothing.
abbrev pub IsTruth : Result Bool EvaluationError → WorldState → Evaluation Object → Type 0
IsTruth (Ok b) s said = (x : Object) × (said ≡ gives x s) × (is_true x ≡ b)
IsTruth (Err (Refused code)) s said = said ≡ Err code
IsTruth (Err OutOfMemory) s said = Unit {0}

-- PUSH of a value to the property of a symbol
abbrev pub pushes : WorldState → Symbol → Symbol → Object → Evaluation Object
pushes s x i v = if_within_limits (pushed_list v (property s x i)) (writes (pushed_list v (property s x i)) (with_pushed s x i v))
