use Rattle.std.proofs.Common.{◌≡◌, ◌≢◌, ◌∙◌, sym, true, false, rules, tests, refl}
use Rattle.store_commands.proofs.Upgrades.{next_after_3, next_else, next_on_mixing}
use Rattle.store_commands.proofs.upgrade.upgraded.Goals as goal

pub returns-then-version-eq3-clause-upgrades : goal.returns-then-version-eq3-clause-upgrades
returns-then-version-eq3-clause-upgrades g c = λ world known.
    let store = c.args.store.now in
    let is : store.version ≡ 3 = search rules in
    record {
      earlier = λ other. absurd (other (next_after_3 (g.D.Disk.state store.disk).mixes store.version is));
      latest = λ same. (refl, refl);
    }

pub returns-then-mixes-clause-upgrades : goal.returns-then-mixes-clause-upgrades
returns-then-mixes-clause-upgrades g c = λ world known.
    let store = c.args.store.now in
    let other : store.version ≢ 3 = search rules in
    let mixing : (g.D.Disk.state store.disk).mixes ≡ true = search (rules, tests) in
    record {
      earlier = λ differs. c.snapshot.ensures.answer world known;
      latest = λ same. absurd (other (same ∙ next_on_mixing (g.D.Disk.state store.disk).mixes store.version mixing));
    }

pub returns-then-version-eq2-clause-upgrades : goal.returns-then-version-eq2-clause-upgrades
returns-then-version-eq2-clause-upgrades g c = λ world known.
    let store = c.args.store.now in
    let is : store.version ≡ 2 = search rules in
    let other : store.version ≢ 3 = search rules in
    let tearing : (g.D.Disk.state store.disk).mixes ≡ false = search (rules, tests) in
    record {
      earlier = λ differs. absurd (differs (is ∙ sym (next_else (g.D.Disk.state store.disk).mixes store.version tearing other)));
      latest = λ same. (refl, refl);
    }

pub returns-else-version-eq2-clause-upgrades : goal.returns-else-version-eq2-clause-upgrades
returns-else-version-eq2-clause-upgrades g c = λ world known.
    let store = c.args.store.now in
    let no_2 : store.version ≢ 2 = search rules in
    let other : store.version ≢ 3 = search rules in
    let tearing : (g.D.Disk.state store.disk).mixes ≡ false = search (rules, tests) in
    record {
      earlier = λ differs. c.snapshot-else-version-eq2.ensures.answer world known;
      latest = λ same. absurd (no_2 (same ∙ next_else (g.D.Disk.state store.disk).mixes store.version tearing other));
    }
