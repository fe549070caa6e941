use Rattle.store_reports.proofs.Joined.{after_three}
use Rattle.store_reports.proofs.figures.push_sizes.Goals as goal

pub returns : goal.returns
returns c = after_three c.push_figure-3.result _ _ _ _ _ _ _ c.in_ok-push_figure.ensures c.in_ok-push_figure-2.ensures c.push_figure-3.ensures
