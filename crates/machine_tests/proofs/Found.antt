-- What a store finds that is opened on what a crash left.
use Rattle.std.proofs.Common.{◌≡◌, ℕ, List, Some, Bool, sym, ap, subst, ◌∙◌}
use Rattle.disk_trait.specs.Disk.{Image, IsHonest, State}
use Rattle.plist_state.specs.State.{WorldState}
use Rattle.prevalence_store.specs.Theorem.{Call, Keeps, MeansAsBefore}
use Rattle.prevalence_store.specs.calls.Open.{IsNoWord, IsOpened, IsUnopened, limit_at_open}
use Rattle.prevalence_store.specs.calls.Store.{StoreView}
use Rattle.prevalence_store.specs.meaning.Files.{MeansWorld}
use Rattle.store_laws.specs.Batches.{IsAfterCalls, MeansCalls}
use Rattle.user_macros.specs.Functions.{Functions}

module _ (functions : Functions) {E : Type 0} (state : E → State) (image : Image) (crashed : E) (honest : IsHonest (state crashed)) (reads : (state crashed).reads ≡ image) where
  -- what it reads means what the image means
  read_so : (world : WorldState) → MeansWorld functions image world → MeansWorld functions (state crashed).reads world
  read_so world means = subst (λ (i : Image). MeansWorld functions i world) (sym reads) means

  -- a store that is opened has that world
  pub world_found : {S : Type 0} (macros : S) (limit : ℕ) (store : StoreView E S) (opened : IsOpened functions state crashed macros limit store) (world : WorldState)
      → MeansWorld functions image world → opened.world ≡ world
  world_found macros limit store opened world means = sym ((opened.reopens honest).only world (read_so world means))

  -- and none is refused for what is there
  pub never_for_files : (whole : Bool) (limit number : ℕ) (back : E) (refused : IsUnopened functions state crashed whole limit number back) (world : WorldState)
      → MeansWorld functions image world → IsNoWord (state crashed).mixes (limit_at_open limit) image refused.fault
  never_for_files whole limit number back refused world means =
      subst (λ (i : Image). IsNoWord (state crashed).mixes (limit_at_open limit) i refused.fault) reads (refused.meant world honest (read_so world means))

-- an opened store after calls of which the image means so many
pub after_found : (functions : Functions) {D : Type 0} (world now : WorldState) (calls : List (Call D)) (k : ℕ) (image : Image)
    (means : MeansCalls functions world calls k image) → now ≡ means.left → IsAfterCalls functions world calls k now
after_found functions world now calls k image means is = record {
  count = means.count;
  enough = means.enough;
  among = means.among;
  after_those = means.after_those ∙ ap (λ (w : WorldState). Some w) (sym is);
}

-- what an opening that was stopped left
pub as_before : (functions : Functions) (start : State) (world : WorldState) (image : Image) → Keeps functions start world → MeansAsBefore functions start image → MeansWorld functions image world
as_before functions start world image keeps means = means.same world (keeps means.before means.might)
