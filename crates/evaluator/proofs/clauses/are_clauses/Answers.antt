use Rattle.std.proofs.Common.{not, ap, ◌∙◌}
use Rattle.evaluator.proofs.ClauseShapes.{clauses_after}
use Rattle.evaluator.proofs.clauses.are_clauses.Goals as goal

pub loop-i-preserved : goal.loop-i-preserved
loop-i-preserved c = record {
  same = c.loop-i.invariant.same ∙ clauses_after c.args.items.now c.loop-i.i c.index-items-i.result c.clause.result c.loop-i-test.true c.index-items-i.is c.clause.ensures (c.is_none.ensures ∙ ap not c.if-is_none.false);
}
