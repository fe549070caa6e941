use Rattle.std.proofs.Common.{Some, ap, ◌∙◌}
use Rattle.pazturrok_c.specs.EngineCalls.{ExecutesForms}
use Rattle.pazturrok_c.proofs.OnEngines.{engine_there}
use Rattle.pazturrok_c.proofs.exports.pzt_execute_all.Goals as goal

pub returns-clause-asks : goal.returns-clause-asks
returns-clause-asks c =
    engine_there c.deref_mut.result.now c.execute_all_for.new.self c.args.slot.now.handle.engine c.put.new.self.handle.engine c.execute_all_for.result.number
    (λ old new. ExecutesForms old new c.args.rescue c.args.texts.now c.args.ends.now c.execute_all_for.result)
    (ap Some c.deref_mut.ensures.value ∙ c.in-Some.ensures.taken) c.put.ensures c.execute_all_for.ensures
