use Rattle.std.proofs.Common.{subst, sym, ◌∙◌}
use Rattle.messages.specs.Rounds.{MayBeLogged, round_in}
use Rattle.messages.proofs.Making.{old_request}
use Rattle.messages.proofs.round.Round.answer_one.Goals as goal

pub returns-in-Ok-clause-answered : goal.returns-in-Ok-clause-answered
returns-in-Ok-clause-answered g c =
    c.in-Ok.ensures.answered c.args.world.now.0
    ∙ sym (old_request g.R.Meaning.Meaning.functions (round_in c.args.self.now c.args.world.now.0) c.args.request.now c.in-Some.number c.in-Some.is c.if-number-self.true)

pub returns-in-Ok-clause-made : goal.returns-in-Ok-clause-made
returns-in-Ok-clause-made g c = λ first made.
    subst (MayBeLogged g.R.Meaning.Meaning.functions first) (sym (c.in-Ok.ensures.answered c.args.world.now.0)) (record { again = made.again; fit = made.fit })
