-- All that waits.
--     refused_all, refused      a refusal goes through it
--     waits      what waits innermost comes first
use Rattle.std.proofs.Common.{◌≡◌, ℕ, List, [], ◌∷◌, ◌++◌, reverse, Err, refl, ap, ◌∙◌}
use Rattle.std.proofs.lemmas.List.{reverse-append}
use Rattle.lisp_object.specs.Object.{Object}
use Rattle.kept_functions.specs.declared.environment.Binding.{Binding}
use Rattle.kept_functions.specs.Counting.{Counting, wrote_too}
use Rattle.lexical_evaluation.specs.declared.frame.Awaiting.{Awaiting}
use Rattle.lexical_evaluation.specs.declared.machine.Machine.{Machine}
use Rattle.lexical_evaluation.specs.Machine.{Ways, continued, comes_to, bindings_after, deeper_after}

pub refused_all : (w : Ways) (n : ℕ) (frames : List Awaiting) (bindings : List Binding) (code : ℕ) → continued w n frames bindings (Err code) ≡ Err code
refused_all w n [] bindings code = refl
refused_all w n (frame ∷ frames) bindings code = refused_all w (deeper_after frame n) frames (bindings_after frame bindings) code

pub refused : (w : Ways) (m : Machine) (code : ℕ) → comes_to w m (Err code) ≡ Err code
refused w m code = ap (wrote_too m.wrote) (refused_all w m.deeper (reverse m.frames.items) m.bindings.items code)

pub waits : (w : Ways) (n : ℕ) (frames later : List Awaiting) (frame : Awaiting) (bindings : List Binding) (o : Counting Object)
    → later ≡ frames ++ frame ∷ [] → continued w n (reverse later) bindings o ≡ continued w n (frame ∷ reverse frames) bindings o
waits w n frames later frame bindings o same =
    ap (λ fs. continued w n fs bindings o) (ap reverse same ∙ reverse-append frames (frame ∷ []))
