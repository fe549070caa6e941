-- What a crash leaves of calls each of which logs its forms together.
--     in_whole_calls      the forms of so many of them
use Rattle.std.proofs.Common.{◌≡◌, ℕ, suc, List, [], ◌∷◌, ◌++◌, length, take, Option, None, Some, IsTrue, inl, inr, refl, sym, ap, subst, ◌∙◌, append-nil, arith}
use Rattle.disk_trait.specs.Disk.{Image, State, IsHonest, IsSoundDisk, Throughout}
use Rattle.disk_trait.specs.Moments.{joined, weaker}
use Rattle.plist_state.specs.State.{WorldState}
use Rattle.prevalence_store.specs.Theorem.{Call, Keeps, Run, Survives, disk_after, forms_of, world_after}
use Rattle.prevalence_store.specs.calls.ExecuteAll.{MeansAllOrNone}
use Rattle.prevalence_store.specs.meaning.Acceptance.{after}
use Rattle.prevalence_store.specs.meaning.Files.{MeansWorld}
use Rattle.prevalence_store.proofs.Surviving.{after-append, still}
use Rattle.store_laws.specs.Batches.{AreTogether, InWholeCalls, MeansCalls}
use Rattle.user_macros.specs.Functions.{Functions}

module _ (functions : Functions) {D : Type 0} (state : D → State) (sound : (d : D) → IsHonest (state d) → IsSoundDisk (state d)) where
  -- one call more before them
  one_before : (world now : WorldState) (call : Call D) (calls : List (Call D)) (least : ℕ) (image : Image) → after functions world call.taken ≡ Some now → MeansCalls functions now calls least image
      → MeansCalls functions world (call ∷ calls) (suc least) image
  one_before world now call calls least image here some = record {
    count = suc some.count;
    enough = omega (arith, some.enough);
    among = omega (arith, some.among);
    left = some.left;
    after_those = after-append functions world now call.taken (forms_of (take some.count calls)) here ∙ some.after_those;
    meant = some.meant;
  }

  fewer : (world : WorldState) (calls : List (Call D)) (least : ℕ) (image : Image) → MeansCalls functions world calls least image → MeansCalls functions world calls 0 image
  fewer world calls least image some = record { count = some.count; enough = omega arith; among = some.among; left = some.left; after_those = some.after_those; meant = some.meant }

  -- of one of them
  all_or_none : (world : WorldState) (call : Call D) (calls : List (Call D)) (image : Image) → MeansAllOrNone functions world call.taken image → MeansCalls functions world (call ∷ calls) 0 image
  all_or_none world call calls image (inl meant) = record { count = 0; enough = omega arith; among = omega arith; left = world; after_those = refl; meant = meant }
  all_or_none world call calls image (inr all) = record {
    count = 1;
    enough = omega arith;
    among = omega arith;
    left = all.0;
    after_those = ap (after functions world) (append-nil call.taken) ∙ all.1;
    meant = all.2;
  }

  -- at each moment of all of them
  throughout : (calls : List (Call D)) (disk : D) (world : WorldState) → IsHonest (state disk) → Keeps functions (state disk) world → Run functions state disk (Some world) calls
      → AreTogether functions state disk (Some world) calls → Throughout (state disk) (state (disk_after disk calls)) (MeansCalls functions world calls 0)
  throughout [] disk world honest keeps run together =
      still (state disk) (MeansCalls functions world [] 0) (sound disk honest)
      (λ image may. record { count = 0; enough = omega arith; among = omega arith; left = world; after_those = refl; meant = keeps image may })
  throughout (call ∷ calls) disk world honest keeps run together = by call.left refl run.1 together.1 (λ now is_honest kept ran rest. throughout calls call.disk now is_honest kept ran rest) where
    P : Image → Type 0
    P = MeansCalls functions world (call ∷ calls) 0

    survives : Survives functions (state disk) (state call.disk) world call.taken call.acknowledged call.left
    survives = run.0

    first : Throughout (state disk) (state call.disk) P
    first = weaker (state disk) (state call.disk) (MeansAllOrNone functions world call.taken) P together.0 (all_or_none world call calls)

    none_more : (more : List (Call D)) → Run functions state call.disk None more → Throughout (state disk) (state (disk_after call.disk more)) P
    none_more [] ran = first
    none_more (next ∷ more) ran = absurd ran

    by : (left : Option WorldState) → call.left ≡ left → Run functions state call.disk left calls → AreTogether functions state call.disk left calls
        → ((now : WorldState) → IsHonest (state call.disk) → Keeps functions (state call.disk) now → Run functions state call.disk (Some now) calls → AreTogether functions state call.disk (Some now) calls
        → Throughout (state call.disk) (state (disk_after call.disk calls)) (MeansCalls functions now calls 0))
        → Throughout (state disk) (state (disk_after call.disk calls)) P
    by None is ran rest more = none_more calls ran
    by (Some now) is ran rest more =
        joined (state disk) (state call.disk) (state (disk_after call.disk calls)) P (MeansCalls functions now calls 0) first
        (more now (subst IsTrue (sym survives.honest) honest) (survives.kept now is) ran rest)
        (λ image some. fewer world (call ∷ calls) 1 image (one_before world now call calls 0 image (survives.after_all now is) some))

  -- a store that is not open has no more calls, and is not opened by them
  none_open : (calls : List (Call D)) (disk : D) (later : List (Call D)) (now : WorldState) → Run functions state disk None (calls ++ later) → world_after None calls ≡ Some now → ⊥
  none_open [] disk later now run is = absurd (cc)
  none_open (call ∷ calls) disk later now run is = run

  -- what a crash leaves
  at_any_moment : (earlier later : List (Call D)) (disk : D) (world : WorldState) → IsHonest (state disk) → Keeps functions (state disk) world → Run functions state disk (Some world) (earlier ++ later)
      → AreTogether functions state disk (Some world) (earlier ++ later) → (now : WorldState) → world_after (Some world) earlier ≡ Some now
      → (image : Image) → (state (disk_after disk (earlier ++ later))).left_since (state (disk_after disk earlier)).moment image → MeansCalls functions world (earlier ++ later) (length earlier) image
  at_any_moment [] later disk world honest keeps run together now is image might = (throughout later disk world honest keeps run together).each image might
  at_any_moment (call ∷ earlier) later disk world honest keeps run together now is image might =
      by call.left refl run.1 together.1 is (λ mid is_honest kept ran rest ends. at_any_moment earlier later call.disk mid is_honest kept ran rest now ends image might) where
        survives : Survives functions (state disk) (state call.disk) world call.taken call.acknowledged call.left
        survives = run.0

        by : (left : Option WorldState) → call.left ≡ left → Run functions state call.disk left (earlier ++ later) → AreTogether functions state call.disk left (earlier ++ later) → world_after left earlier ≡ Some now
            → ((mid : WorldState) → IsHonest (state call.disk) → Keeps functions (state call.disk) mid → Run functions state call.disk (Some mid) (earlier ++ later) → AreTogether functions state call.disk (Some mid) (earlier ++ later)
            → world_after (Some mid) earlier ≡ Some now → MeansCalls functions mid (earlier ++ later) (length earlier) image)
            → MeansCalls functions world (call ∷ (earlier ++ later)) (suc (length earlier)) image
        by None left_is ran rest ends more = absurd (none_open earlier call.disk later now ran ends)
        by (Some mid) left_is ran rest ends more =
            one_before world mid call (earlier ++ later) (length earlier) image (survives.after_all mid left_is)
            (more mid (subst IsTrue (sym survives.honest) honest) (survives.kept mid left_is) ran rest ends)

  pub in_whole_calls : (earlier later : List (Call D)) (disk : D) (world : WorldState) → IsHonest (state disk) → Keeps functions (state disk) world → Run functions state disk (Some world) (earlier ++ later)
      → AreTogether functions state disk (Some world) (earlier ++ later) → InWholeCalls functions state disk world earlier later
  in_whole_calls earlier later disk world honest keeps run together = record {
    any_moment = at_any_moment earlier later disk world honest keeps run together;
    reopened = λ now is image crashed opened found might reads reopens.
        let some = at_any_moment earlier later disk world honest keeps run together now is image might in
        let same : some.left ≡ found = reopens.only some.left (subst (λ i. MeansWorld functions i some.left) (sym reads) some.meant) in
        record { count = some.count; enough = some.enough; among = some.among; after_those = some.after_those ∙ ap Some same };
  }
