use Rattle.sessions.specs.Account.{first_account}
use Rattle.session_ledger.specs.OutgoingLines.{handings_of}
use Rattle.store_laws.specs.SessionLines.{account_after}
use Rattle.machine_tests.proofs.InARow.{honest_after}
use Rattle.machine_tests.proofs.in_a_row.serve_before_another.Goals as goal

pub returns : goal.returns
returns g c = λ world known honest.
    let functions = g.M.Meaning.Meaning.functions in
    let state = g.D.Disk.state in
    let first = first_account world c.args.wanted.mode (g.I.Read.remaining c.args.reader.now) c.args.store.now.disk in
    let went = c.serve_recorded.ensures.went world known in
    let handings = handings_of went.out.sent in (
      went,
      λ now mode had left. c.sessions_go_on.ensures functions (account_after first handings) c.serve_recorded.new.store now mode had
          (honest_after functions state handings first went.out.handed honest) went.since left,
    )
