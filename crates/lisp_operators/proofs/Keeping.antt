-- That a relation holds between the state before an outcome and the state after it.
--     Keeps      what is said of an outcome
--     keeps_also, keeps_then, keeps_kind, keeps_if, keeps_option      how outcomes are put together
use Rattle.std.proofs.Common.{Bool, true, false, cond, Option, Some, None, Ok, Err}
use Rattle.std.specs.Option.{option_map_or}
use Rattle.plist_state.specs.State.{WorldState}
use Rattle.lisp_operators.specs.Evaluation.{Evaluation, also, and_then, of_kind}

module _ (Kept : WorldState → WorldState → Type 0) where
  abbrev pub KeptAfter : {A : Type 0} → WorldState → Evaluation A → Type 0
  KeptAfter s (Ok d) = Kept s d.state
  KeptAfter s (Err code) = Unit {0}

  pub record Keeps {A : Type 0} (s : WorldState) (o : Evaluation A) : Type 0 where
    pub kept : KeptAfter s o

  module _ {A : Type 0} (s : WorldState) where
    pub keeps_if : (b : Bool) (x y : Evaluation A) → Keeps s x → Keeps s y → Keeps s (cond b x y)
    keeps_if true x y first second = first
    keeps_if false x y first second = second

    pub keeps_kind : {X : Type 0} (o : Option X) (on : X → Evaluation A) → ((x : X) → Keeps s (on x)) → Keeps s (of_kind o on)
    keeps_kind (Some x) on each = each x
    keeps_kind None on each = record { kept = tt }

    pub keeps_option : {X : Type 0} (o : Option X) (on : X → Evaluation A) (other : Evaluation A) → ((x : X) → Keeps s (on x)) → Keeps s other → Keeps s (option_map_or on o other)
    keeps_option (Some x) on other each none = each x
    keeps_option None on other each none = none

  -- of a relation that goes on from one state to the next
  module _ (both : (s t u : WorldState) → Kept s t → Kept t u → Kept s u) where
    pub keeps_also : {A : Type 0} (s : WorldState) (wrote : Bool) (t : WorldState) (o : Evaluation A) → Kept s t → Keeps t o → Keeps s (also wrote o)
    keeps_also s wrote t (Ok d) before after = record { kept = both s t d.state before after.kept }
    keeps_also s wrote t (Err code) before after = record { kept = tt }

    pub keeps_then : {A B : Type 0} (s : WorldState) (o : Evaluation A) (next : A → WorldState → Evaluation B) → Keeps s o → ((x : A) (t : WorldState) → Keeps t (next x t)) → Keeps s (and_then o next)
    keeps_then s (Ok d) next before after = keeps_also s d.wrote d.state (next d.value d.state) before.kept (after d.value d.state)
    keeps_then s (Err code) next before after = record { kept = tt }
