use Rattle.std.proofs.Common.{inl, inr, refl}
use Rattle.message_session.specs.Account.{records_of_frames}
use Rattle.prevalence_store.specs.calls.Zeros.{TriesToCutZeros}
use Rattle.prevalence_store.proofs.calls.CuttingZeros.{cut_after}
use Rattle.store_commands.specs.Session.{half_limit}
use Rattle.store_commands.proofs.Accounts.{opened_still}
use Rattle.message_command.proofs.command.serve_on.Goals as goal

pub returns-after-snapshot_every-eq0 : goal.returns-after-snapshot_every-eq0
returns-after-snapshot_every-eq0 g c =
    let functions = g.M.Meaning.Meaning.functions in
    let state = g.D.Disk.state in
    let store = c.write_zeros_ahead.new.self in
    let opened = opened_still functions state c.args.opening.disk c.args.opening.macros half_limit c.in-Ok.store store
    c.write_zeros_ahead.ensures c.in-Ok.ensures.opened in
    let served = c.serve_messages-ended.new.store in
    let closed = c.cut_zeros-cut.new.self in
    let tries : TriesToCutZeros functions state served closed =
    record { wrote = _; result = c.cut_zeros-cut.result; closed = c.cut_zeros-cut.ensures.reopen; cuts = c.cut_zeros-cut.ensures.answer } in
    inl (record {
      opened = store;
      is_opened = opened;
      served = served;
      served_ended = c.serve_messages-ended.result;
      serves = c.serve_messages-ended.ensures.serves opened.world opened.known;
      closed = closed;
      cuts = tries;
      ended_is = c.after_cut.ensures;
      under_way = λ account kept.
          let way = c.serve_messages-ended.ensures.under_way account kept in
          let both = cut_after functions state (state account.disk) served closed tries account.now (records_of_frames functions state account served way.frames)
          way.logged.survives way.logged.all_or_none in
          record {
            frames = way.frames;
            next = way.next;
            logged = record { survives = both.0; all_or_none = both.1 };
            made = way.made;
          };
      disk_is = c.close-disk.ensures.disk;
    })

pub returns-in-Err : goal.returns-in-Err
returns-in-Err g c = inr (c.in-Err.unopened.number, refl, c.in-Err.ensures.refused, (refl, refl))
