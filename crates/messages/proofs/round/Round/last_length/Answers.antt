use Rattle.std.proofs.Common.{◌-◌, List, length, slice_get, ap, ◌∙◌}
use Rattle.messages.specs.declared.request.RequestAnswer.{RequestAnswer}
use Rattle.messages.proofs.Fronts.{last_there}
use Rattle.messages.proofs.round.Round.last_length.Goals as goal

pub returns-in-Some : goal.returns-in-Some
returns-in-Some c = λ told answer is.
    ap length c.as_slice-in-Some.ensures.value
    ∙ last_there c.args.self.now.answers.items told answer is c.in-Some.answer.now
    (c.in-Some.ensures.value ∙ ap (λ (items : List RequestAnswer). slice_get items (length items - 1)) c.as_slice.ensures.value)
