use Rattle.std.specs.Option.{option_map}
use Rattle.sessions.specs.Account.{first_account}
use Rattle.session_ledger.proofs.ledger.serve_recorded.Given as goal

-- the session begins over this store and input, and with this output
abbrev pub ghosts-serve_from : goal.ghosts-serve_from
ghosts-serve_from g a = record {
  first = option_map (λ world. first_account world a.wanted.mode (g.I.Read.remaining a.input.now) a.store.now.disk) a.store.now.world;
  held = g.O.Recipient.contents a.output.now;
  theirs = g.O.Recipient.first a.output.now;
}
