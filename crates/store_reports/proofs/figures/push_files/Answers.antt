use Rattle.store_reports.proofs.Joined.{after_four}
use Rattle.store_reports.proofs.figures.push_files.Goals as goal

pub returns : goal.returns
returns c = after_four c.push_known-2.result _ _ _ _ _ _ _ _ _ c.in_ok-push_figure.ensures c.in_ok-push_figure-2.ensures c.in_ok-push_known.ensures c.push_known-2.ensures
