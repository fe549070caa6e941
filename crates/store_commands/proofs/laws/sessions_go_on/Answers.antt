use Rattle.std.proofs.Common.{IsTrue, refl, subst, sym}
use Rattle.store_commands.proofs.laws.sessions_go_on.Goals as goal

pub returns : goal.returns
returns g c = λ functions account store world mode had honest since known.
    let survives = since.survives honest in
    record {
      call = record { disk = store.disk; taken = since.taken; acknowledged = 0; left = store.world };
      run = (survives, tt);
      acknowledges = refl;
      disk = refl;
      left = known;
      honest = subst IsTrue (sym survives.honest) honest;
    }
