use Rattle.session_ledger.proofs.Sending.{there_by_then}
use Rattle.session_ledger.specs.OutgoingLines.{handings_of}
use Rattle.session_ledger.proofs.law.what_went_out_is_there.Goals as goal

pub returns : goal.returns
returns g c = λ functions first closed held written honest keeps went k fits image might.
    there_by_then functions _ g.D.Disk.state first closed held written went
    (c.sessions.ensures.ended functions first (handings_of went.out.sent) closed went.out.handed went.since honest keeps) k fits image might
