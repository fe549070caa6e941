use Rattle.std.proofs.Common.{◌≡◌, rules}
use Rattle.readtable_core.proofs.Sound.{standard_entry_sound}
use Rattle.readtable_core.specs.Tables.{standard_dispatch}
use Rattle.readtable_core.proofs.entry.standard_character.Goals as goal
use Rattle.readtable_core.proofs.entry.standard_character.Goals.{then-c-eq35+in_ok-dispatch, else-c-eq35}

pub invariant_of-result : goal.invariant_of-result
invariant_of-result c =
    let places : c.if-c-eq35.dispatch.items ≡ standard_dispatch c.args.c
    = elim c.if-c-eq35.branch [ then-c-eq35+in_ok-dispatch w ↦ search rules | else-c-eq35 w ↦ search rules ] in
    rw (c.standard_syntax_of.ensures, c.standard_function_of.ensures, places) (standard_entry_sound c.args.c)
