use Rattle.std.proofs.Common.{sym, ap, ◌∙◌}
use Rattle.plist_state.specs.State.{Worlds}
use Rattle.prevalence_store.proofs.meaning.Transactions.{none_left}
use Rattle.prevalence_store.proofs.forgetting.leave_out.Goals as goal

pub returns-then-count-eq0-clause-left : goal.returns-then-count-eq0-clause-left
returns-then-count-eq0-clause-left g c =
    ap (λ (s : Worlds). s.0) c.in_ok-mark.ensures.ok.1 ∙ sym (none_left c.args.world.now.0 (sym c.requires.count ∙ c.if-count-eq0.true))
