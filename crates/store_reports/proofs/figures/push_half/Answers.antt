use Rattle.store_reports.proofs.Joined.{after_four}
use Rattle.store_reports.proofs.figures.push_half.Goals as goal

pub returns : goal.returns
returns c =
    after_four c.push_sizes.result _ _ _ _ _ _ _ _ _ c.in_ok-push_letter.ensures c.in_ok-push_version.ensures c.in_ok-push_figure.ensures c.push_sizes.ensures
