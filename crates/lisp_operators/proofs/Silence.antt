-- That an outcome in which nothing was written leaves the state as it was.
--     Keeps      what is said of an outcome
--     written, keeps_also, keeps_then, keeps_kind, keeps_if, keeps_option      how outcomes are put together
use Rattle.std.proofs.Common.{◌≡◌, Bool, true, false, cond, ◌||◌, Option, Some, None, Ok, Err, refl, sym, ◌∙◌}
use Rattle.std.specs.Option.{option_map_or}
use Rattle.std.proofs.lemmas.Bool.{false≢true}
use Rattle.plist_state.specs.State.{WorldState}
use Rattle.lisp_operators.specs.Evaluation.{Evaluation, also, and_then, of_kind}

abbrev pub Same : {A : Type 0} → WorldState → Evaluation A → Type 0
Same s (Ok d) = d.wrote ≡ false → d.state ≡ s
Same s (Err code) = Unit {0}

pub record Keeps {A : Type 0} (s : WorldState) (o : Evaluation A) : Type 0 where
  pub same : Same s o

pub written : {P : Type 0} → true ≡ false → P
written none = absurd (false≢true (sym none))

pub neither : (a b : Bool) → (a || b) ≡ false → (a ≡ false) × (b ≡ false)
neither true b e = absurd (false≢true (sym e))
neither false b e = (refl, e)

module _ {A : Type 0} (s : WorldState) where
  pub keeps_also : (wrote : Bool) (t : WorldState) (o : Evaluation A) → (wrote ≡ false → t ≡ s) → Keeps t o → Keeps s (also wrote o)
  keeps_also wrote t (Ok d) before after = record { same = λ none. let both = neither wrote d.wrote none in after.same both.1 ∙ before both.0 }
  keeps_also wrote t (Err code) before after = record { same = tt }

  pub keeps_if : (b : Bool) (x y : Evaluation A) → Keeps s x → Keeps s y → Keeps s (cond b x y)
  keeps_if true x y first second = first
  keeps_if false x y first second = second

  pub keeps_kind : {X : Type 0} (o : Option X) (on : X → Evaluation A) → ((x : X) → Keeps s (on x)) → Keeps s (of_kind o on)
  keeps_kind (Some x) on each = each x
  keeps_kind None on each = record { same = tt }

  pub keeps_option : {X : Type 0} (o : Option X) (on : X → Evaluation A) (other : Evaluation A) → ((x : X) → Keeps s (on x)) → Keeps s other → Keeps s (option_map_or on o other)
  keeps_option (Some x) on other each none = each x
  keeps_option None on other each none = none

pub keeps_then : {A B : Type 0} (s : WorldState) (o : Evaluation A) (next : A → WorldState → Evaluation B) → Keeps s o → ((x : A) (t : WorldState) → Keeps t (next x t)) → Keeps s (and_then o next)
keeps_then s (Ok d) next before after = keeps_also s d.wrote d.state (next d.value d.state) before.same (after d.value d.state)
keeps_then s (Err code) next before after = record { same = tt }
