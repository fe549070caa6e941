-- Variables that are seen for a time.
--     scoped      more of them, until a value
--     entered      others, until the value of a function
--     bound_around      the variables of a function and those around
use Rattle.std.proofs.Common.{◌≡◌, ℕ, List, [], ◌∷◌, ◌++◌, reverse, take, length, refl, sym, ap, ◌∙◌}
use Rattle.std.proofs.Math.Seq.{take-append_seam}
use Rattle.std.specs.Global.{Vec}
use Rattle.lisp_object.specs.Object.{Object}
use Rattle.plist_state.specs.Properties.{Symbol}
use Rattle.kept_functions.specs.declared.environment.Binding.{Binding}
use Rattle.kept_functions.specs.Environments.{Environment, binding}
use Rattle.kept_functions.specs.Counting.{Counting, here, then_on}
use Rattle.lexical_evaluation.specs.declared.frame.Awaiting.{Awaiting}
use Rattle.lexical_evaluation.specs.declared.frame.Awaiting.TheVariants.{Scope, Call}
use Rattle.lexical_evaluation.specs.Machine.{Ways, continued}
use Rattle.lexical_evaluation.proofs.Thens.{then_here}
use Rattle.lexical_evaluation.proofs.Continuing.{waits}

pub scoped : (w : Ways) (n : ℕ) (frames later : List Awaiting) (count : ℕ) (bindings made more : List Binding) (o : Counting Object)
    → later ≡ frames ++ Scope count ∷ [] → count ≡ length bindings → more ≡ bindings ++ made
    → continued w n (reverse frames) bindings o ≡ continued w n (reverse later) more o
scoped w n frames later count bindings made more o same counted grown =
    sym (waits w n frames later (Scope count) more o same
    ∙ ap (λ b. continued w n (reverse frames) b (then_on o (λ y p. here y p))) (ap (take count) grown ∙ ap (λ k. take k (bindings ++ made)) counted ∙ take-append_seam bindings made)
    ∙ ap (continued w n (reverse frames) bindings) (then_here o))

pub entered : (w : Ways) (n m : ℕ) (frames later : List Awaiting) (before : Vec Binding) (made : List Binding) (o : Counting Object)
    → later ≡ frames ++ Call before n ∷ []
    → continued w n (reverse frames) before.items o ≡ continued w m (reverse later) made o
entered w n m frames later before made o same =
    sym (waits w m frames later (Call before n) made o same ∙ ap (continued w n (reverse frames) before.items) (then_here o))

-- ---- the variables of a function
bound_on : (xs : List Symbol) (vs : List Object) (inner around : Environment) → binding xs vs (inner ++ around) ≡ binding xs vs inner ++ around
bound_on [] vs inner around = refl
bound_on (x ∷ xs) [] inner around = refl
bound_on (x ∷ xs) (v ∷ vs) inner around = bound_on xs vs ((x, v) ∷ inner) around

pub bound_around : (xs : List Symbol) (vs : List Object) (around : Environment) → binding xs vs around ≡ binding xs vs [] ++ around
bound_around xs vs around = bound_on xs vs [] around
