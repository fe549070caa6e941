use Rattle.std.proofs.Common.{refl}
use Rattle.command_words.specs.declared.words.Task.TheVariants.{Run}
use Rattle.store_commands.proofs.Statuses.{status_so}
use Rattle.store_commands.proofs.Tasks.{does_not, does_run}
use Rattle.store_commands.proofs.on_disk.run_on.Goals as goal

pub returns-in-Ok : goal.returns-in-Ok
returns-in-Ok g c =
    does_run _ _ _ _ g.I.Read.remaining g.O.Recipient.contents _ _ _ _ _ _ _ (Run c.args.wanted) c.after_session.result c.args.wanted c.in-Ok.ended refl
    (status_so c.args.wanted c.in-Ok.ended c.is_unanswered.result c.after_session.result c.after_session.ensures) c.of_session.ensures c.in-Ok.ensures.served.0

pub returns-in-Err : goal.returns-in-Err
returns-in-Err g c =
    does_not _ _ _ _ g.I.Read.remaining g.O.Recipient.contents _ _ _ _ _ _ _ c.in-Err.unopened.disk (Run c.args.wanted) _ c.in-Err.unopened.number
    c.without_store.ensures.status c.without_store.ensures.disk c.in-Err.ensures.refused.0 c.in-Err.ensures.refused.1
