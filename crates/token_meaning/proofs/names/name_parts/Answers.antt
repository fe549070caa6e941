use Rattle.std.proofs.Common.{sym, ap, ◌∙◌}
use Rattle.token_meaning.specs.Meanings.{pattern}
use Rattle.token_meaning.proofs.Patterns.{unmarked, marked}
use Rattle.token_meaning.proofs.names.name_parts.Goals as goal

pub returns-in-None : goal.returns-in-None
returns-in-None c = unmarked c.args.marks.now (sym c.in-None.ensures)

pub returns-in-Some : goal.returns-in-Some
returns-in-Some c = ap pattern (marked c.args.marks.now _ _ (sym c.in-Some.ensures)) ∙ c.parts_after_marker.ensures
