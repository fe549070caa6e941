use Rattle.sessions.specs.Account.{first_account}
use Rattle.session_words.specs.declared.mode.Mode.TheVariants.{Current}
use Rattle.program_tests.proofs.ledgers.there_by_then.Goals as goal

pub returns : goal.returns
returns g c = λ world known honest.
    let functions = g.M.Meaning.Meaning.functions in
    let first = first_account world Current (g.I.Read.remaining c.args.reader.now) c.args.store.now.disk in
    let went = c.serve_recorded.ensures.went world known in (
      went,
      λ k fits image might. c.what_went_out_is_there.ensures functions first c.serve_recorded.new.store (g.O.Write.contents c.args.output.now) (g.O.Write.contents c.serve_recorded.new.output)
          honest (c.keeps_its_world.ensures world known honest) went k fits image might,
    )
