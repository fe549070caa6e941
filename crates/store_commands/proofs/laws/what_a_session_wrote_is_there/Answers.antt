use Rattle.std.proofs.Common.{IsTrue, subst, sym}
use Rattle.sessions.specs.Account.{first_account}
use Rattle.session_ledger.specs.OutgoingLines.{disk_after_lines}
use Rattle.store_laws.proofs.Handings.{are_calls}
use Rattle.store_commands.proofs.RowCalls.{rows_in_turn}
use Rattle.store_commands.proofs.laws.what_a_session_wrote_is_there.Goals as goal

pub returns-clause-one : goal.returns-clause-one
returns-clause-one g c = λ functions wanted disk back macros had has held written ended honest session k fits image might.
    let opened = session.is_opened in
    let first = first_account opened.world wanted.mode had session.opened.disk in
    c.what_went_out_is_there.ensures functions first session.closed held written (subst IsTrue (sym opened.honest) honest) (opened.reopens honest).kept session.went k fits image
    (subst (λ d. (g.D.Disk.state d).left_since (g.D.Disk.state (disk_after_lines first session.went.out.sent k)).moment image) session.disk_is might)

pub returns-clause-in_turn : goal.returns-clause-in_turn
returns-clause-in_turn g c = λ functions wanted disk back macros had has held written ended honest row.
    let state = g.D.Disk.state in
    let opened = row.is_opened in
    let first = first_account opened.world wanted.mode had row.opened.disk in
    let is_honest = subst IsTrue (sym opened.honest) honest in
    let keeps = (opened.reopens honest).kept in
    let joins = rows_in_turn functions wanted state (λ start world earlier later there means run. c.headline.ensures.holds functions start world earlier later there means run)
    (λ account handings closed handed since there means. c.sessions.ensures.ended functions account handings closed handed since there means)
    row.opened row.closed opened.world had has held written ended is_honest keeps row.serves in
    are_calls functions state first _ (joins.run, joins.together)
    (λ earlier later run. c.headline.ensures.holds functions first.disk first.now earlier later is_honest keeps run)
    (λ earlier later run together. c.batches.ensures functions first.disk first.now earlier later is_honest keeps run together)
