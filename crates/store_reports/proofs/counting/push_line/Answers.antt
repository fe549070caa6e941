use Rattle.store_reports.proofs.Joined.{five_added}
use Rattle.store_reports.proofs.counting.push_line.Goals as goal

pub returns : goal.returns
returns c =
    five_added _ _ _ _ _ _ _ _ _ _ _ c.in_ok-extend_from_slice.ensures.items c.in_ok-push_number.ensures c.in_ok-extend_from_slice-2.ensures.items c.in_ok-push_number-2.ensures
    c.in_ok-push.ensures.items
