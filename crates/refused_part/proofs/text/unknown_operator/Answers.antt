use Rattle.std.proofs.Common.{sym}
use Rattle.refused_part.proofs.Parts.{may_try_item}
use Rattle.refused_part.proofs.text.unknown_operator.Goals as goal

pub is_unknown-requires : goal.is_unknown-requires
is_unknown-requires g c = record { head = may_try_item c.args.world.now.0.packages c.args.part.now 0 c.in-Some.operator.now c.requires.part (sym c.in-Some.ensures) }

pub returns-then-branch-clause-may : goal.returns-then-branch-clause-may
returns-then-branch-clause-may g c = may_try_item c.args.world.now.0.packages c.args.part.now 0 c.in-Some.operator.now c.requires.part (sym c.in-Some.ensures)
