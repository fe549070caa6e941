use Rattle.std.proofs.Common.{Some}
use Rattle.client_table.specs.Turn.{first_asked}
use Rattle.client_table.proofs.Fronts.{at_end}
use Rattle.client_table.proofs.turn.FirstAsked.answer_up_to.Goals as goal
use Rattle.messages.specs.Rounds.{round_in}
use Rattle.messages.specs.declared.request.TheConstants.{ANSWER_BYTES}

pub returns-in-Ok-clause-refused : goal.returns-in-Ok-clause-refused
returns-in-Ok-clause-refused g c =
    let functions = g.R.Meaning.Meaning.functions in
    let turn = c.args.self.now in
    let first = round_in c.args.round.now c.args.world.now.0 in
    at_end functions turn.most first (round_in c.answer_each.new.round c.answer_each.new.world.0) (first_asked functions turn.most (Some ANSWER_BYTES) first turn.asked.now) c.close.result c.in-Ok.ensures.answered c.close.ensures.refused
