-- What a command that only looks writes, and how it ends.
use Rattle.std.specs.Prelude.{◌≡◌, ◌⊎◌, ℕ, List, Option}
use Rattle.lisp_object.specs.declared.refusal.TheConstants.{OUTPUT}
use Rattle.store_commands.specs.StatusAfterText.{TellsText}
use Rattle.store_commands.specs.declared.status.Status.{Status}
use Rattle.store_commands.specs.declared.status.Status.TheVariants.{Done, Helped, FormRefused, Unanswered, WordsRefused, LeftOut, Fault}

-- some text was written whole; or a part of it and the output failed; or nothing, as memory was refused
abbrev pub PrintsText : Option (List ℕ) → Option (List ℕ) → Status → Type 0
PrintsText held written status = (text : List ℕ) × TellsText status held written text

-- a fault, or words that ask for what is not there
abbrev pub EndsUnlooked : Status → Type 0
EndsUnlooked (Fault number) = Unit {0}
EndsUnlooked WordsRefused = Unit {0}
EndsUnlooked Done = ⊥
EndsUnlooked Helped = ⊥
EndsUnlooked FormRefused = ⊥
EndsUnlooked Unanswered = ⊥
EndsUnlooked LeftOut = ⊥

-- A text was written, or help. After words that are refused nothing is, and after a fault but of the output.
abbrev pub Prints : {O : Type 0} → (O → Option (List ℕ)) → O → O → Status → Type 0
Prints contents held written Done = PrintsText (contents held) (contents written) Done
Prints contents held written Helped = Unit {0}
Prints contents held written WordsRefused = written ≡ held
Prints contents held written (Fault number) = (written ≡ held) ⊎ ((number ≡ OUTPUT) ⊎ PrintsText (contents held) (contents written) (Fault number))
Prints contents held written FormRefused = ⊥
Prints contents held written Unanswered = ⊥
Prints contents held written LeftOut = ⊥
