-- What is told of a fault.
use Rattle.std.specs.Prelude.{◌≡◌, ◌≢◌, ◌⊎◌, ℕ, List, [], ◌∷◌, ◌++◌, All}
use Rattle.lisp_object.specs.declared.refusal.TheConstants.{DEVICE}
use Rattle.sessions.specs.FormAnswers.{refusal_line}

-- What is told of a fault: its line, and after that of the device perhaps one more, with the cause.
abbrev pub IsFaultText : ℕ → List ℕ → Type 0
IsFaultText number text =
    (text ≡ refusal_line number)
    ⊎ ((number ≡ DEVICE) × (cause : List ℕ) × All (λ byte. byte ≢ 10) cause × (text ≡ refusal_line number ++ (cause ++ 10 ∷ [])))
