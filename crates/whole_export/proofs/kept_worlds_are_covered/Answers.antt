use Rattle.std.proofs.Common.{◌≡◌, true, Option, None, Some, sym, subst}
use Rattle.gate_log.specs.Layout.{Contents}
use Rattle.plist_state.specs.State.{WorldState}
use Rattle.snapshot_text.specs.NamedFunctions.{are_covered}
use Rattle.user_macros.specs.Functions.{Functions}
use Rattle.prevalence_store.specs.meaning.Files.{IsWorldOf}
use Rattle.prevalence_store.proofs.meaning.Covering.{held_covered, initial_covered}
use Rattle.whole_export.proofs.kept_worlds_are_covered.Goals as goal

-- the world of what a log holds, or of none
meant_covered : (functions : Functions) (k : Option Contents) (w : WorldState) → IsWorldOf functions k w → are_covered functions.names w ≡ true
meant_covered functions None w is = subst (λ (v : WorldState). are_covered functions.names v ≡ true) (sym is) (initial_covered functions.names)
meant_covered functions (Some k) w means = held_covered functions k w means

pub returns : goal.returns
returns g c = λ functions disk world honest keeps.
    let means = keeps (g.D.Disk.state disk).reads (g.met.D.Disk.sound disk honest).reads_stay in
    meant_covered functions means.0 world means.2
