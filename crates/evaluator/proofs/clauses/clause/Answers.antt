use Rattle.std.proofs.Common.{sym, ◌∙◌}
use Rattle.evaluator.proofs.ClauseShapes.{dotted_clause, list_clause}
use Rattle.evaluator.proofs.clauses.clause.Goals as goal

pub returns-then-is_some : goal.returns-then-is_some
returns-then-is_some c = dotted_clause c.args.form.now c.in-List.items c.in-List.tail c.in-List.is c.requires (sym c.is_some.ensures ∙ c.if-is_some.true)

pub returns-else-is_some : goal.returns-else-is_some
returns-else-is_some c = list_clause c.args.form.now c.in-List.items c.as_slice.result.now c.in-List.tail c.in-List.is c.requires (sym c.is_some.ensures ∙ c.if-is_some.false) c.as_slice.ensures
