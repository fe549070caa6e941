use Rattle.std.proofs.Common.{Some, ap, ◌∙◌}
use Rattle.pazturrok_c.specs.EngineCalls.{BeginsWithMessages}
use Rattle.pazturrok_c.proofs.OnEngines.{engine_there}
use Rattle.pazturrok_c.proofs.exports.pzt_begin_messages.Goals as goal

pub returns-clause-asks : goal.returns-clause-asks
returns-clause-asks c =
    engine_there c.deref_mut.result.now c.begin_messages_for.new.self c.args.slot.now.handle.engine c.put.new.self.handle.engine c.begin_messages_for.result.number
    (λ old new. BeginsWithMessages old new c.begin_messages_for.new.position c.begin_messages_for.result)
    (ap Some c.deref_mut.ensures.value ∙ c.in-Some.ensures.taken) c.put.ensures c.begin_messages_for.ensures
