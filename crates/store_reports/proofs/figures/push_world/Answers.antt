use Rattle.std.proofs.Common.{◌≡◌, ◌++◌, subst}
use Rattle.std.specs.Prelude.{OnOk}
use Rattle.store_reports.specs.Figures.{counts_text}
use Rattle.store_reports.specs.declared.figures.FigureCounts.{FigureCounts}
use Rattle.store_reports.proofs.Joined.{after_four}
use Rattle.store_reports.proofs.figures.push_world.Goals as goal

pub returns : goal.returns
returns c =
    subst (λ (counts : FigureCounts). OnOk c.push_figure-4.result (c.push_figure-4.new.text.items ≡ c.args.text.now.items ++ counts_text c.args.notation counts)) c.in_ok-counts.ensures
    (after_four c.push_figure-4.result _ _ _ _ _ _ _ _ _ c.in_ok-push_figure.ensures c.in_ok-push_figure-2.ensures c.in_ok-push_figure-3.ensures c.push_figure-4.ensures)
