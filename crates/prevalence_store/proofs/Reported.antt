-- A call that takes no form, and leaves a disk that holds what it held.
use Rattle.std.proofs.Common.{◌≡◌, [], Some, None, refl, subst, arith}
use Rattle.disk_trait.specs.Disk.{State}
use Rattle.disk_trait.specs.Moments.{weaker}
use Rattle.gate_log.specs.Step.{WritesNothing}
use Rattle.plist_state.specs.State.{WorldState}
use Rattle.prevalence_store.specs.Theorem.{Keeps, MeansSome, Survives}
use Rattle.prevalence_store.specs.meaning.Files.{MeansWorld}
use Rattle.prevalence_store.proofs.Surviving.{no_forms}
use Rattle.user_macros.specs.Functions.{Functions}

pub still_keeps : (functions : Functions) (s t : State) (w : WorldState) → WritesNothing s t → Keeps functions s w → Keeps functions t w
still_keeps functions s t w rests keeps = λ image may. keeps image (rests.crash image may)

pub rested_survives : (functions : Functions) (s t : State) (w : WorldState) → WritesNothing s t → t.honest ≡ s.honest → t.failures ≡ s.failures → Keeps functions s w
    → Survives functions s t w [] 0 (Some w)
rested_survives functions s t w rests honest calm keeps = record {
  accepted = refl;
  at_most = omega arith;
  any_moment = weaker s t s.may_leave (MeansSome functions w [] 0) rests.any_moment (no_forms functions s w keeps);
  in_the_end = no_forms functions t w (still_keeps functions s t w rests keeps);
  honest = honest;
  after_all = λ now is. is;
  kept = λ now is i left. let same : w ≡ now = cc in subst (MeansWorld functions i) same (still_keeps functions s t w rests keeps i left);
  calm = λ _. calm;
  fault = λ none. let bad : Some w ≡ None = none in absurd (cc);
}
