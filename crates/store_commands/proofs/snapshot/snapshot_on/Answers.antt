use Rattle.store_commands.proofs.Snapshots.{no_value}
use Rattle.store_commands.proofs.snapshot.snapshot_on.Goals as goal

pub write_outcome-status-requires : goal.write_outcome-status-requires
write_outcome-status-requires g c =
    let opened = c.in_ok-store.ensures.opened in
    record {
      no_value = no_value g.M.Meaning.Meaning.functions g.D.Disk.state c.in_ok-store.store c.snapshot-outcome.new.self opened.world c.snapshot-outcome.result
          (c.snapshot-outcome.ensures.answer opened.world opened.known);
    }

pub returns-clause-snapshots : goal.returns-clause-snapshots
returns-clause-snapshots g c =
    let opened = c.in_ok-store.ensures.opened in
    record {
      opened = c.in_ok-store.store;
      is_opened = opened;
      closed = c.snapshot-outcome.new.self;
      outcome = c.snapshot-outcome.result;
      snapshots = c.snapshot-outcome.ensures.answer opened.world opened.known;
      tells = c.write_outcome-status.ensures;
      disk_is = c.close-disk.ensures.disk;
    }
