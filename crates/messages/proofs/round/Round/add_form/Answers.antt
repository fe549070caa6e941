use Rattle.std.proofs.Common.{subst, sym}
use Rattle.session_words.specs.declared.mode.Mode.TheVariants as mode
use Rattle.prevalence_store.specs.meaning.Acceptance.{accepts}
use Rattle.messages.specs.Rounds.{MayBeLogged, round_in}
use Rattle.messages.proofs.Making.{form_made, form_round}
use Rattle.messages.proofs.round.Round.add_form.Goals as goal

pub returns-clause-added : goal.returns-clause-added
returns-clause-added g c =
    form_round c.args.self.now c.add_text.new.self c.in-Ok.outcome c.args.world.now.0 c.add_text.new.world.0 (accepts g.R.Meaning.Meaning.functions c.args.world.now.0 mode.Rescue c.args.text.now)
    c.record_count-kept.result c.record_count.result c.either-self.result c.record_count-kept.ensures c.record_count.ensures c.either-self.ensures c.in-Ok.ensures.turn

pub returns-clause-made : goal.returns-clause-made
returns-clause-made g c = λ first made.
    let functions = g.R.Meaning.Meaning.functions in
    subst (MayBeLogged functions first) (sym (form_round c.args.self.now c.add_text.new.self c.in-Ok.outcome c.args.world.now.0 c.add_text.new.world.0 (accepts functions c.args.world.now.0 mode.Rescue c.args.text.now)
    c.record_count-kept.result c.record_count.result c.either-self.result c.record_count-kept.ensures c.record_count.ensures c.either-self.ensures c.in-Ok.ensures.turn))
    (form_made functions first (round_in c.args.self.now c.args.world.now.0) made c.args.text.now)
