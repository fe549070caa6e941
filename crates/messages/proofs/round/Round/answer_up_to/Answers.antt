use Rattle.messages.specs.Fronts.{first_of}
use Rattle.messages.specs.Rounds.{round_in}
use Rattle.messages.proofs.Owned.{at_end}
use Rattle.messages.proofs.round.Round.answer_up_to.Goals as goal

pub returns-in-Ok-clause-refused : goal.returns-in-Ok-clause-refused
returns-in-Ok-clause-refused g c =
    let functions = g.R.Meaning.Meaning.functions in
    let first = round_in c.args.self.now c.args.world.now.0 in
    at_end functions first (round_in c.answer_each.new.self c.answer_each.new.world.0) (first_of functions c.args.most first c.args.requests.now) c.close.result c.in-Ok.ensures.answered c.close.ensures.refused
