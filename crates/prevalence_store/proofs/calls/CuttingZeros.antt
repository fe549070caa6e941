-- Zeros behind the half in use are cut, in words of the store, and what that is after other calls.
use Rattle.std.proofs.Common.{◌≡◌, ◌≢◌, ℕ, ◌+◌, ◌-◌, ◌<◌, ◌^◌, Bool, true, false, List, [], Option, None, Some, IsSome, is_some, IsTrue, Result, Ok, Err, refl, sym, ap, subst, ◌∙◌, inl, inr}
use Rattle.disk_trait.specs.Half.{opposite_of}
use Rattle.disk_trait.specs.Disk.{Image, State, IsHonest, IsSoundDisk, Throughout, file_of}
use Rattle.disk_trait.specs.Moments.{weaker}
use Rattle.batched_half.specs.Version3.{mark_of_one_sync}
use Rattle.gate_log.specs.Layout.{Contents, LogRecord}
use Rattle.gate_log.specs.Log as gated
use Rattle.gate_log.specs.HalfInUse.{HalvesValue, IsAt, IsKeptWithOneSync, Shows, first_size_in_use, generation_in_use, half_of, mark_in_file, records_in_use, size_in_use, version_in_use}
use Rattle.gate_log.specs.Step.{LeavesOther}
use Rattle.gate_log.specs.Zeros.{LosesZeros}
use Rattle.gate_log.specs.declared.in_use.HalfInUse.{HalfInUse}
use Rattle.gate_log.proofs.Meanings.{one_meant}
use Rattle.lisp_object.specs.declared.refusal.TheConstants.{DEVICE, NO_MEMORY}
use Rattle.plist_state.specs.State.{WorldState}
use Rattle.prevalence_store.specs.Theorem.{Keeps, Survives}
use Rattle.prevalence_store.specs.calls.Execute.{SurvivesAs}
use Rattle.prevalence_store.specs.calls.ExecuteAll.{MeansAllOrNone}
use Rattle.prevalence_store.specs.calls.Store.{IsReady, StoreView, store_view_of}
use Rattle.prevalence_store.specs.calls.Zeros.{CutsZeros, HasNoZerosMemory, IsZerosFault, LosesItsZeros, TriesToCutZeros}
use Rattle.prevalence_store.specs.meaning.Files.{ContentsMean}
use Rattle.prevalence_store.proofs.Surviving.{all_or_none_further, further_survives, shows_means, unchanged_survives}
use Rattle.prevalence_store.proofs.calls.Executing.{not_failed, world_inside}
use Rattle.prevalence_store.proofs.calls.LeftAlone.{alone_beside, alone_still}
use Rattle.prevalence_store.proofs.calls.Snapshotting.{broken_survives, renewed_survives}
use Rattle.prevalence_store.proofs.steps.Committing.{kept_contents}
use Rattle.prevalence_store.proofs.steps.Loading.{describes}
use Rattle.user_macros.specs.Functions.{Functions}

-- what the file says of the mark is what is kept
not_of_one : (used : Option HalfInUse) (k : Contents) (image : Image) → Shows used (Some k) image → mark_in_file (version_in_use used) (file_of (half_of used) image) ≢ mark_of_one_sync
    → IsKeptWithOneSync used → ⊥
not_of_one None k image shown apart one = one
not_of_one (Some half_in_use) k image shown apart one = apart (sym shown.2.mark ∙ one)

module _ (functions : Functions) {D R : Type 0} (state : D → State) (sound : (d : D) → IsHonest (state d) → IsSoundDisk (state d)) (failed : Bool) (old new : HalvesValue D) (v w : WorldState) (macros : R)
    (now : StoreView D R) (view : store_view_of failed old v macros ≡ now) (known : now.world ≡ Some w) where
  is_open : failed ≡ false
  is_open = not_failed failed old v macros now view (subst (λ (o : Option WorldState). IsSome o) (sym known) refl)

  -- and this is the world in memory
  is_world : v ≡ w
  is_world = world_inside failed old v w macros now view known

  -- no zeros were written
  pub zeros_still : (wrote : Bool) → wrote ≡ false → LosesItsZeros functions state now now w wrote
  zeros_still wrote is = record {
    same = refl;
    described = λ k claims told. told;
    still = λ none. refl;
    file = λ some. absurd (cc);
    other = λ claims. alone_still (opposite_of now.half) (state now.disk) (sound now.disk claims);
    failures = refl;
    mixes = refl;
    survives = unchanged_survives functions state sound now now w refl;
  }

  -- memory ran out
  pub no_zeros_memory : new ≡ old → HasNoZerosMemory functions state now (store_view_of failed new v macros) w NO_MEMORY
  no_zeros_memory same =
      let unchanged = ap (λ l. store_view_of failed l v macros) same ∙ view in
      record { memory = refl; unchanged = unchanged; survives = unchanged_survives functions state sound now (store_view_of failed new v macros) w unchanged }

  module _ (ready : failed ≡ false → IsReady (state old.disk) old) (used : new.used ≡ old.used) (limit : new.limit ≡ old.limit) (honest : (state new.disk).honest ≡ (state old.disk).honest)
      (mixes : (state new.disk).mixes ≡ (state old.disk).mixes)
      (any_moment : (k : Contents) → IsHonest (state old.disk) → IsAt old.used (state old.disk) (Some k) → Throughout (state old.disk) (state new.disk) (gated.FilesMean (Some k)))
      (other : (k : Contents) → IsHonest (state old.disk) → IsAt old.used (state old.disk) (Some k) → LeavesOther (half_of old.used) (state old.disk) (state new.disk)) where
    abbrev before : StoreView D R
    before = store_view_of false old w macros

    -- the store as it was, in its own words
    now_is : before ≡ now
    now_is = ap (λ (b : Bool). store_view_of b old w macros) (sym is_open) ∙ ap (λ (u : WorldState). store_view_of failed old u macros) (sym is_world) ∙ view

    is_ready : IsReady (state old.disk) old
    is_ready = ready is_open

    means : (claims : IsHonest (state old.disk)) → Keeps functions (state old.disk) w → ContentsMean functions (is_ready.holds claims).0 w
    means claims keeps = kept_contents functions (state old.disk) old (is_ready.holds claims).0 w (sound old.disk claims) keeps (is_ready.holds claims).1

    run : (claims : IsHonest (state old.disk))
        → Throughout (state old.disk) (state new.disk) (gated.FilesMeanEither (Some (is_ready.holds claims).0) (Some (is_ready.holds claims).0))
    run claims =
        let holds = is_ready.holds claims in
        weaker (state old.disk) (state new.disk) (gated.FilesMean (Some holds.0)) (gated.FilesMeanEither (Some holds.0) (Some holds.0)) (any_moment holds.0 claims holds.1) (λ i held. inl held)

    -- the zeros are gone
    module _ (calm : (state new.disk).failures ≡ (state old.disk).failures)
        (done : (k : Contents) → IsHonest (state old.disk) → IsAt old.used (state old.disk) (Some k) → IsAt new.used (state new.disk) (Some k))
        (file : (k : Contents) → IsHonest (state old.disk) → IsAt old.used (state old.disk) (Some k) → (IsKeptWithOneSync old.used → ⊥)
        → LosesZeros (size_in_use old.used) (file_of (half_of old.used) (state old.disk).reads) (file_of (half_of old.used) (state new.disk).reads)) where
      abbrev later : StoreView D R
      later = store_view_of false new w macros

      abbrev view_by : Option HalfInUse → ℕ → StoreView D R
      view_by u l = store_view_of false (record { disk = new.disk; used = u; limit = l }) w macros

      gone : LosesItsZeros functions state before later w true
      gone = record {
        same = ap (λ (u : Option HalfInUse). view_by u new.limit) used ∙ ap (λ (l : ℕ). view_by old.used l) limit;
        described = λ k claims told.
            let holds = is_ready.holds claims in
            let one : Some holds.0 ≡ Some k =
            one_meant (Some holds.0) (Some k) (state old.disk).reads (shows_means old.used (Some holds.0) _ holds.1.shows) (half_of old.used, told.held) in
            let same : holds.0 ≡ k = cc in
            describes later new.used k (state new.disk).reads refl refl refl refl refl refl
            (subst (λ (c : Contents). Shows new.used (Some c) (state new.disk).reads) same (done holds.0 claims holds.1).shows);
        still = λ none. absurd (cc);
        file = λ some claims apart.
            let holds = is_ready.holds claims in
            file holds.0 claims holds.1 (not_of_one old.used holds.0 (state old.disk).reads holds.1.shows apart);
        other = λ claims.
            let holds = is_ready.holds claims in
            alone_beside (half_of old.used) (state old.disk) (state new.disk) (sound old.disk claims) (other holds.0 claims holds.1);
        failures = calm;
        mixes = mixes;
        survives = λ there claims keeps.
            let holds = is_ready.holds claims in
            renewed_survives functions holds.0 holds.0 w (means claims keeps) (means claims keeps) (state old.disk) (state new.disk) (run claims) honest new.used (done holds.0 claims holds.1) calm;
      }

      pub zeros_gone : (wrote : Bool) → wrote ≡ true → LosesItsZeros functions state now (store_view_of failed new v macros) w wrote
      zeros_gone wrote is =
          subst (λ (b : Bool). LosesItsZeros functions state now (store_view_of failed new v macros) w b) (sym is)
          (subst (λ (b : Bool). LosesItsZeros functions state now (store_view_of b new v macros) w true) (sym is_open)
          (subst (λ (u : WorldState). LosesItsZeros functions state now (store_view_of false new u macros) w true) (sym is_world)
          (subst (λ (s : StoreView D R). LosesItsZeros functions state s later w true) now_is gone)))

    -- the device failed
    module _ (risen : (state new.disk).failures ≡ (state old.disk).failures + 1) where
      broken : IsZerosFault functions state before (store_view_of true new v macros) w DEVICE
      broken = record {
        device = refl;
        failed = record {
          unknown = refl;
          half = ap half_of used;
          version = ap version_in_use used;
          generation = ap generation_in_use used;
          record_count = ap records_in_use used;
          size = ap size_in_use used;
          first_size = ap first_size_in_use used;
          limit = limit;
          macros = refl;
          other = λ claims.
              let holds = is_ready.holds claims in
              alone_beside (half_of old.used) (state old.disk) (state new.disk) (sound old.disk claims) (other holds.0 claims holds.1);
          failures = risen;
          mixes = mixes;
        };
        survives = λ there claims keeps.
            let holds = is_ready.holds claims in
            broken_survives functions holds.0 holds.0 w (means claims keeps) (means claims keeps) (state old.disk) (state new.disk) (run claims) honest
            (sound new.disk (subst IsTrue (sym honest) claims)) risen;
      }

      pub zeros_fault : IsZerosFault functions state now (store_view_of true new v macros) w DEVICE
      zeros_fault = subst (λ (s : StoreView D R). IsZerosFault functions state s (store_view_of true new v macros) w DEVICE) now_is broken

-- the log is ready for the next call
pub ready_still : {D : Type 0} (state : D → State) (old new : HalvesValue D) → IsReady (state old.disk) old → new.used ≡ old.used
    → (state new.disk).honest ≡ (state old.disk).honest → (state new.disk).failures ≡ (state old.disk).failures
    → ((k : Contents) → IsHonest (state old.disk) → IsAt old.used (state old.disk) (Some k) → IsAt new.used (state new.disk) (Some k))
    → IsReady (state new.disk) new
ready_still state old new ready used honest calm done = record {
  in_use = ap is_some used ∙ ready.in_use;
  room = subst (λ n. n < 2 ^ 64 - 1) (sym calm) ready.room;
  holds = λ claims.
      let before = subst IsTrue honest claims in
      let holds = ready.holds before in
      (holds.0, done holds.0 before holds.1);
}

-- ---- after other calls

module _ (functions : Functions) {D R : Type 0} (state : D → State) where
  -- it takes no form, whatever it answers
  pub cut_survives : (old new : StoreView D R) (w : WorldState) (wrote : Bool) (result : Result Unit ℕ) → CutsZeros functions state old new w wrote result → SurvivesAs functions state old new w [] 0
  cut_survives old new w wrote (Ok done) gone = gone.survives
  cut_survives old new w wrote (Err number) (inl fault) = fault.survives
  cut_survives old new w wrote (Err number) (inr memory) = memory.survives

  -- so what was done before it is all that was done
  module _ (first : State) (old new : StoreView D R) (tries : TriesToCutZeros functions state old new) (w : WorldState) (taken : List LogRecord)
      (survives : IsHonest first → Survives functions first (state old.disk) w taken 0 old.world)
      (together : IsHonest first → Throughout first (state old.disk) (MeansAllOrNone functions w taken)) where
    abbrev SurvivesIn : StoreView D R → Type 0
    SurvivesIn store = (IsHonest first → Survives functions first (state store.disk) w taken 0 store.world) × (IsHonest first → Throughout first (state store.disk) (MeansAllOrNone functions w taken))

    module _ (v : WorldState) (known : old.world ≡ Some v) (honest : IsHonest first) where
      earlier : Survives functions first (state old.disk) w taken 0 (Some v)
      earlier = subst (λ (o : Option WorldState). Survives functions first (state old.disk) w taken 0 o) known (survives honest)

      since : Survives functions (state old.disk) (state new.disk) v [] 0 new.world
      since = cut_survives old new v tries.wrote tries.result (tries.cuts v known) known (subst IsTrue (sym earlier.honest) honest) (earlier.kept v refl)

    in_world : (left : Option WorldState) → old.world ≡ left → SurvivesIn new
    in_world None none = subst (λ (s : StoreView D R). SurvivesIn s) (sym (tries.closed none).1) (survives, together)
    in_world (Some v) known = (
      λ honest. further_survives functions first (state old.disk) (state new.disk) w v taken new.world (earlier v known honest) (since v known honest),
      λ honest.
          all_or_none_further functions first (state old.disk) (state new.disk) w v taken ((earlier v known honest).after_all v refl) (together honest)
          (since v known honest).any_moment,
    )

    pub cut_after : SurvivesIn new
    cut_after = in_world old.world refl
