-- What a byte brings in any open calls, from what it is to what a call gathers.
use Rattle.std.proofs.Common.{◌≡◌, ℕ, ◌+◌, List, ◌∷◌, Result, Ok, IfOk, sym, ap, subst, ◌∙◌}
use Rattle.std.specs.declared.alloc.AllocError.{AllocError}
use Rattle.lisp_reading.specs.declared.attempt.Found.{Found}
use Rattle.form_reader.specs.declared.stack.Frame.{Frame}
use Rattle.form_reader.specs.declared.state.Event.{Event}
use Rattle.lisp_reading.specs.Plans.{Plan, then_plan, Read, fault, run}
use Rattle.lisp_reading.specs.Setting.{Setting}
use Rattle.form_reader.specs.Stack.{plan_gives}
use Rattle.form_reader.specs.State.{Brings}
use Rattle.form_reader.proofs.Stacks.{gathering_moves, gathering_ends, gathering_fails}

module _ {A : Type 0} (setting : Setting) (stack : List Frame) (p : Plan A) (on : A → Plan Found) (at c : ℕ) (cs : List ℕ) where
  -- it goes on
  pub goes_on : (q : Plan A) → run setting.table setting.limits p at (c ∷ cs) ≡ run setting.table setting.limits q (at + 1) cs
      → plan_gives setting stack (then_plan p on) at (c ∷ cs) ≡ plan_gives setting stack (then_plan q on) (at + 1) cs
  goes_on q e = gathering_moves setting stack p q on at (at + 1) (c ∷ cs) cs e

  -- it is refused
  pub fails : (code : ℕ) → run setting.table setting.limits p at (c ∷ cs) ≡ fault code at
      → plan_gives setting stack (then_plan p on) at (c ∷ cs) ≡ fault code at
  fails code e = gathering_fails setting stack p on (record { number = code; at = at }) at (c ∷ cs) e

-- it ends, and what is given goes on from what was gathered
pub ends : {A : Type 0} (setting : Setting) (stack : List Frame) (p : Plan A) (on : A → Plan Found) (x y : A) (at to : ℕ) (cs ds : List ℕ) (result : Result Event AllocError)
    → run setting.table setting.limits p at cs ≡ Ok (x, to, ds) → y ≡ x
    → IfOk result (λ event. Brings setting stack to ds event (plan_gives setting stack (on y) to ds))
    → IfOk result (λ event. Brings setting stack to ds event (plan_gives setting stack (then_plan p on) at cs))
ends {A} setting stack p on x y at to cs ds result e same brings =
    let whole : plan_gives setting stack (then_plan p on) at cs ≡ plan_gives setting stack (on y) to ds =
    gathering_ends setting stack p on x at to cs ds e ∙ ap (λ (z : A). plan_gives setting stack (on z) to ds) (sym same) in
    subst (λ (r : Read Found). IfOk result (λ event. Brings setting stack to ds event r)) (sym whole) brings
