use Rattle.std.proofs.Common.{Some, ap, ◌∙◌}
use Rattle.pazturrok_c.specs.EngineCalls.{AnswersEach}
use Rattle.pazturrok_c.proofs.OnEngines.{engine_there}
use Rattle.pazturrok_c.proofs.exports.pzt_answer_requests.Goals as goal

pub returns-clause-asks : goal.returns-clause-asks
returns-clause-asks c =
    engine_there c.deref_mut.result.now c.answer_requests_for.new.self c.args.slot.now.handle.engine c.put.new.self.handle.engine c.answer_requests_for.result.number
    (λ old new. AnswersEach old new c.args.last c.args.texts.now c.args.heads.now c.answer_requests_for.result)
    (ap Some c.deref_mut.ensures.value ∙ c.in-Some.ensures.taken) c.put.ensures c.answer_requests_for.ensures
