use Rattle.store_commands.proofs.Upgrades.{upgrade_has_no_value}
use Rattle.store_commands.proofs.upgrade.upgrade_on.Goals as goal

pub write_upgrade-status-requires : goal.write_upgrade-status-requires
write_upgrade-status-requires g c =
    let opened = c.in_ok-store.ensures.opened in
    record {
      no_value = upgrade_has_no_value g.M.Meaning.Meaning.functions g.D.Disk.state c.in_ok-store.store c.upgraded-outcome.new.store opened.world c.upgraded-outcome.result
          (c.upgraded-outcome.ensures.upgrades opened.world opened.known);
    }

pub returns-clause-upgrades : goal.returns-clause-upgrades
returns-clause-upgrades g c =
    let opened = c.in_ok-store.ensures.opened in
    record {
      opened = c.in_ok-store.store;
      is_opened = opened;
      closed = c.upgraded-outcome.new.store;
      outcome = c.upgraded-outcome.result;
      upgrades = c.upgraded-outcome.ensures.upgrades opened.world opened.known;
      tells = c.write_upgrade-status.ensures;
      disk_is = c.close-disk.ensures.disk;
    }
