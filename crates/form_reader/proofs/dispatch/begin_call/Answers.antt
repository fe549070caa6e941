use Rattle.std.proofs.Common.{arith, sym, ◌∙◌}
use Rattle.form_reader.proofs.Dispatches.{none_begins}
use Rattle.form_reader.proofs.dispatch.begin_call.Goals as goal

pub returns-in-None-clause-begins : goal.returns-in-None-clause-begins
returns-in-None-clause-begins g c = λ cs.
    none_begins _ c.args.stack.now c.args.call c.args.at c.saturating_sub.result cs (sym c.way_of.ensures ∙ c.in-None.is) (omega (arith, c.saturating_sub.ensures))
