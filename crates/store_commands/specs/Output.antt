-- The output of the program.
use Rattle.std.specs.Prelude.{ℕ, List, Option}
use Rattle.store_commands.specs.declared.output.SessionOutput.{SessionOutput}

-- what the output of sessions holds, where this is told of the stream of the answers
abbrev pub held_by : {O T : Type 0} → (O → Option (List ℕ)) → SessionOutput O T → Option (List ℕ)
held_by contents it = contents it.output
