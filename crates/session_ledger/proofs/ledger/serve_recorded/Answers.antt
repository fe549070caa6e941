use Rattle.std.proofs.Common.{◌∙◌, Some, ap, sym}
use Rattle.std.specs.Option.{option_map}
use Rattle.plist_state.specs.State.{WorldState}
use Rattle.sessions.specs.Account.{first_account}
use Rattle.session_ledger.proofs.Sending.{known_world}
use Rattle.session_ledger.proofs.ledger.serve_recorded.Goals as goal

pub serve_from-requires-clause-begins : goal.serve_from-requires-clause-begins
serve_from-requires-clause-begins g c = λ world known.
    ap (option_map (λ (w : WorldState). first_account w c.args.wanted.mode (g.I.Read.remaining c.args.input.now) c.args.store.now.disk)) known

pub serve_from-requires-clause-agrees : goal.serve_from-requires-clause-agrees
serve_from-requires-clause-agrees g c = λ kept is.
    let w = known_world c.args.store.now.world c.requires.is_open in
    ap (option_map (λ (w : WorldState). first_account w c.args.wanted.mode (g.I.Read.remaining c.args.input.now) c.args.store.now.disk)) w.1
    ∙ ap (λ a. Some a) (sym (c.requires.begins w.0 w.1 kept is))
