use Rattle.std.proofs.Common.{IsSome, sym, ap, subst, ◌∙◌, arith}
use Rattle.client_table.specs.CallsByName.{HasAnswer}
use Rattle.client_table.specs.Entries.{HasEntrySymbols}
use Rattle.client_table.proofs.Answering.{kept_answer, kept_round}
use Rattle.client_table.proofs.StayingForms.{entry_has, given_has}
use Rattle.client_table.proofs.table.keep_answer.Given.{Over}
use Rattle.client_table.proofs.table.keep_answer.Goals as goal
use Rattle.messages.specs.MessageAnswers.{Round}
use Rattle.messages.specs.Rounds.{round_in}
use Rattle.plist_state.specs.State.{WorldState}
use Rattle.session_words.specs.declared.mode.Mode.TheVariants.{Current}

pub put_entry-requires-clause-there : goal.put_entry-requires-clause-there
put_entry-requires-clause-there g c =
    let w = c.args.world.now.0 in
    let name = c.args.name.now in
    subst (λ (v : WorldState). HasEntrySymbols v name) (sym (ap (λ (r : Round). r.left) c.in-Ok.ensures.answered))
    (given_has w name (entry_has w name c.soundness.ensures.present c.requires.there) c.requires.there g.R.Meaning.Meaning.functions Current c.args.form.now)

pub returns-in-Ok-put_entry-clause-answered : goal.returns-in-Ok-put_entry-clause-answered
returns-in-Ok-put_entry-clause-answered g c =
    let w = c.args.world.now.0 in
    kept_round g.R.Meaning.Meaning.functions c.args.number c.args.name.now c.args.form.now (round_in c.args.round.now w) c.last_number-last.result
    (round_in c.carry_out_cleared.new.self c.carry_out_cleared.new.world.0) (round_in c.put_entry.new.round c.put_entry.new.world.0) (c.last_number-last.ensures w) c.in-Ok.ensures.answered c.in-Ok-put_entry.ensures.put

pub returns-in-Ok-put_entry-clause-kept : goal.returns-in-Ok-put_entry-clause-kept
returns-in-Ok-put_entry-clause-kept g c =
    let w = c.args.world.now.0 in
    let functions = g.R.Meaning.Meaning.functions in
    let last = round_in c.put_entry.new.round c.put_entry.new.world.0 in
    kept_answer functions c.args.number c.args.name.now c.args.form.now (round_in c.args.round.now w) last (omega arith) (omega arith)
    (kept_round functions c.args.number c.args.name.now c.args.form.now (round_in c.args.round.now w) c.last_number-last.result
    (round_in c.carry_out_cleared.new.self c.carry_out_cleared.new.world.0) last (c.last_number-last.ensures w) c.in-Ok.ensures.answered c.in-Ok-put_entry.ensures.put)

pub returns-in-Ok-put_entry-clause-made : goal.returns-in-Ok-put_entry-clause-made
returns-in-Ok-put_entry-clause-made g c = λ first made. c.in-Ok-put_entry.ensures.made g.R.Meaning.Meaning.functions first (c.in-Ok.ensures.made first made)
