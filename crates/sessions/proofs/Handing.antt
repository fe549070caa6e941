-- Where a session stands to the recipient of its lines, and that they may be handed to it.
use Rattle.std.proofs.Common.{◌≡◌, ◌⊎◌, ℕ, ◌+◌, Bool, List, [], ◌∷◌, ◌++◌, length, take, unwrap_or, Option, None, Some, IsTrue, Ok, Err, inl, inr, refl, sym, ap, subst, ◌∙◌, append-nil, arith}
use Rattle.std.specs.Option.{option_map}
use Rattle.disk_trait.specs.Disk.{Image, State, IsHonest, IsSoundDisk, Throughout}
use Rattle.disk_trait.specs.Moments.{joined, weaker}
use Rattle.gate_log.specs.Layout.{LogRecord}
use Rattle.lisp_object.specs.Object.{Object}
use Rattle.plist_state.specs.State.{WorldState}
use Rattle.lisp_reading.specs.Reading.{ReadingResult as Reading, refused}
use Rattle.sessions.specs.steps.Forms.{Failure, TakesForm}
use Rattle.sessions.specs.steps.Forms as failures
use Rattle.session_words.specs.declared.mode.Mode.{Mode}
use Rattle.session_words.specs.declared.wanted.SessionOptions.{SessionOptions}
use Rattle.sessions.specs.declared.answer.Answered.{Answered}
use Rattle.sessions.specs.declared.gather.GatheredForms.{GatheredForms}
use Rattle.sessions.specs.declared.input.Pending.{Pending}
use Rattle.prevalence_store.specs.Theorem.{Keeps, MeansSome, Survives}
use Rattle.sessions.specs.Account.{Account, AreStored, first_account, with_forms}
use Rattle.prevalence_store.specs.calls.Execute.{SurvivesAs}
use Rattle.prevalence_store.specs.calls.ExecuteAll.{AllOrNone, MeansAllOrNone}
use Rattle.sessions.specs.Pace.{Fill, Pace, fill_of}
use Rattle.prevalence_store.specs.calls.Store.{StoreView}
use Rattle.sessions.specs.Streams.{Writes}
use Rattle.prevalence_store.specs.meaning.Acceptance.{after, accepted_record, read_in}
use Rattle.prevalence_store.specs.meaning.Files.{MeansWorld}
use Rattle.sessions.specs.FormAnswers.{Progress, after_forms, first_progress, last_line, progress_onward, refusal_line}
use Rattle.sessions.specs.steps.Answer.{LeavesRecord, TriesForm, was_logged}
use Rattle.sessions.specs.steps.Course.{Course}
use Rattle.sessions.specs.steps.Gather.{FailsForms, TakesForms}
use Rattle.sessions.specs.steps.Schedule.{RenewsOrIsRefused, RenewsAfterForm, RenewsIfDue}
use Rattle.sessions.specs.steps.Serve.{SessionGoesOn}
use Rattle.sessions.specs.steps.Standing.{AcknowledgesNone, IsLaterAccount, HandsOn, IsAtRest, StandsAfterLines, StandsBefore, StandsBeforeAll}
use Rattle.prevalence_store.proofs.Surviving.{all_or_none_of_one, both_survive, none_taken, unchanged_survives}
use Rattle.sessions.proofs.Progressing.{forms_onward}
use Rattle.sessions.proofs.Pieces.{longer, stays_longer}
use Rattle.sessions.proofs.Groups.{far_failed, far_stored}
use Rattle.user_macros.specs.Functions.{Functions}

-- a writer that held nothing and got this line
pub written_alone : (line : List ℕ) → Writes (Some []) (Some line) line
written_alone line held is = let none : [] ≡ held = cc in ap (λ h. Some (h ++ line)) none

-- what a recipient that keeps account kept before it got lines
kept_before : {D R : Type 0} (forms : ℕ) (store : StoreView D R) (told : Option (Account D)) (later : Account D) → option_map (with_forms forms store) told ≡ Some later
    → (account : Account D) × (told ≡ Some account) × (with_forms forms store account ≡ later)
kept_before forms store None later is = absurd (cc)
kept_before forms store (Some account) later is = (account, refl, cc)

module _ (functions : Functions) where
  -- ---- all of a batch, or none of it

  means_before : (w : WorldState) (taken : List LogRecord) (i : Image) → MeansSome functions w [] 0 i → MeansAllOrNone functions w taken i
  means_before w taken i some =
      let none : some.count ≡ 0 = omega (arith, some.among) in
      let left : after functions w (take 0 []) ≡ Some some.left = subst (λ n. after functions w (take n []) ≡ Some some.left) none some.after_those in
      let same : some.left ≡ w = cc in
      inl (subst (MeansWorld functions i) same some.meant)

  -- a form is a batch of one record, or of none
  one_batch : (s t : State) (w : WorldState) (taken : List LogRecord) {Logged : LogRecord → Type 0} (fill now : Fill) (wrote : Bool) → LeavesRecord Logged taken fill now wrote
      → Throughout s t (MeansSome functions w taken 0) → Throughout s t (MeansAllOrNone functions w taken)
  one_batch s t w taken fill now wrote (inl none) run =
      weaker s t (MeansSome functions w [] 0) (MeansAllOrNone functions w taken) (subst (λ es. Throughout s t (MeansSome functions w es 0)) none.1 run) (means_before w taken)
  one_batch s t w taken fill now wrote (inr one) run =
      subst (λ es. Throughout s t (MeansAllOrNone functions w es)) (sym one.1.1)
      (all_or_none_of_one functions s t w one.1.0 (subst (λ es. Throughout s t (MeansSome functions w es 0)) one.1.1 run))

module _ (functions : Functions) {D R : Type 0} (state : D → State) (sound : (d : D) → IsHonest (state d) → IsSoundDisk (state d)) where
  -- ---- at rest

  -- nothing was done yet
  rests_here : (kept : Account D) (store : StoreView D R) (w : WorldState) → kept.disk ≡ store.disk → kept.now ≡ w → (IsHonest (state store.disk) → Keeps functions (state store.disk) w) → IsAtRest functions state kept store w
  rests_here kept store w disk now keeps = record {
    now = now;
    honest = ap (λ d. (state d).honest) disk;
    since = λ honest.
        let here = subst (λ d. IsHonest (state d)) disk honest in
        subst (λ d. Survives functions (state d) (state store.disk) w [] 0 (Some w)) (sym disk) (none_taken functions (state store.disk) w (sound store.disk here) (keeps here));
  }

  -- something was done that took no form
  rests_further : (kept : Account D) (mid new : StoreView D R) (w : WorldState) → IsAtRest functions state kept mid w → (state new.disk).honest ≡ (state mid.disk).honest → mid.world ≡ Some w → new.world ≡ Some w
      → SurvivesAs functions state mid new w [] 0 → IsAtRest functions state kept new w
  rests_further kept mid new w rest same known left survives = record {
    now = rest.now;
    honest = rest.honest ∙ sym same;
    since = λ honest.
        let before = rest.since honest in
        both_survive functions (state kept.disk) (state mid.disk) (state new.disk) w w [] [] 0 (Some w) before
        (subst (λ o. Survives functions (state mid.disk) (state new.disk) w [] 0 o) left (survives known (subst IsTrue rest.honest honest) (before.kept w refl)));
  }

  -- a snapshot that came where it is due
  unchanged_leaves : (old new : StoreView D R) (w : WorldState) → old.world ≡ Some w → new ≡ old → SurvivesAs functions state old new w [] 0 × (new.world ≡ Some w)
  unchanged_leaves old new w known same = (unchanged_survives functions state sound old new w same, ap (λ (s : StoreView D R). s.world) same ∙ known)

  due_leaves : (old new : StoreView D R) (w : WorldState) (pace : Pace) → old.world ≡ Some w → RenewsIfDue functions state old new w pace → SurvivesAs functions state old new w [] 0 × (new.world ≡ Some w)
  due_leaves old new w pace known (inl none) = unchanged_leaves old new w known none.1
  due_leaves old new w pace known (inr (due, inl large)) = unchanged_leaves old new w known large.1
  due_leaves old new w pace known (inr (due, inr taken)) = (taken.survives, taken.renews.left)

  renewal_leaves : (old new : StoreView D R) (w : WorldState) (wrote : Bool) (pace later : Pace) → old.world ≡ Some w → RenewsAfterForm functions state old new w wrote pace later None → SurvivesAs functions state old new w [] 0 × (new.world ≡ Some w)
  renewal_leaves old new w wrote pace later known (inl still) = unchanged_leaves old new w known still.2
  renewal_leaves old new w wrote pace later known (inr due) = due_leaves old new w pace known due.2

  -- ---- where it stands

  -- as it begins
  module _ (told : Option (Account D)) (store : StoreView D R) (w : WorldState) (mode : Mode) (input : Option (List ℕ)) (text : List ℕ)
      (begins : (kept : Account D) → told ≡ Some kept → kept ≡ first_account w mode input store.disk) (keeps : IsHonest (state store.disk) → Keeps functions (state store.disk) w)
      (fits : (all : List ℕ) → input ≡ Some all → (left : List ℕ) × (all ≡ text ++ left)) where
    first_stands : (kept : Account D) → told ≡ Some kept → (s : StandsAfterLines functions state kept store w mode text) × (s.text ≡ text) × (kept.input ≡ input)
    first_stands kept is =
        subst (λ (a : Account D). (s : StandsAfterLines functions state a store w mode text) × (s.text ≡ text) × (a.input ≡ input)) (sym (begins kept is)) (
          record {
            text = text;
            of_input = fits;
            far = first_progress w text;
            stays = λ more. refl;
            mode_is = refl;
            world_is = refl;
            rest_is = refl;
            at_rest = rests_here (first_account w mode input store.disk) store w refl refl keeps;
          },
          refl,
          refl,
        )

    pub stands_first : StandsBefore functions state told store w mode text
    stands_first kept is = (first_stands kept is).0

    pub stands_first_all : ((all : List ℕ) → input ≡ Some all → all ≡ text) → StandsBeforeAll functions state told store w mode text
    stands_first_all whole kept is = let s = first_stands kept is in (s.0, λ all has. s.1 ∙ sym (whole all (sym s.2 ∙ has)))

  -- after forms that were answered, before what is left
  module _ (strict : Bool) (course later : Course) (old new : StoreView D R) (w : WorldState) (mode : Mode) (text : List ℕ) (a b : Option (List ℕ)) (pending : Pending) (left : List ℕ) (told now : Option (Account D))
      (goes : SessionGoesOn functions state strict course later old new w mode text a b pending left) (hands : HandsOn functions state course.forms later.forms told now new) where
    on_from : (before kept : Account D) → IsLaterAccount course.forms later.forms before kept → IsAtRest functions state kept new goes.far.world → (s : StandsAfterLines functions state before old w mode text)
        → (t : StandsAfterLines functions state kept new goes.far.world mode (goes.bytes ++ left)) × (t.text ≡ s.text)
    on_from before kept follows rest s =
        let count : kept.forms ≡ goes.forms + before.forms = omega (arith, follows.forms, goes.comes.forms_are) in (
          record {
            text = s.text;
            of_input = λ all has. s.of_input all (sym follows.input ∙ has);
            far = progress_onward s.far goes.far;
            stays = λ more. (λ i. after_forms functions kept.forms (follows.first i) (follows.mode i) (s.text ++ more))
                ∙ forms_onward functions goes.forms before.forms kept.forms before.first before.mode (s.text ++ more) (longer s.far more) (longer goes.far more) count (s.stays more)
                ((λ i. after_forms functions goes.forms (s.world_is i) (s.mode_is i) (s.rest_is i ++ more)) ∙ goes.stays more);
            mode_is = follows.mode ∙ s.mode_is;
            world_is = refl;
            rest_is = goes.rest;
            at_rest = rest;
          },
          refl,
        )

    pub stands_on : StandsBefore functions state told old w mode text → StandsBefore functions state now new goes.far.world mode (goes.bytes ++ left)
    stands_on stands kept is =
        let h = hands kept is goes.far.world goes.advances.after.left in
        (on_from h.0 kept h.2 h.3 (stands h.0 h.1)).0

    pub stands_on_all : StandsBeforeAll functions state told old w mode text → StandsBeforeAll functions state now new goes.far.world mode (goes.bytes ++ left)
    stands_on_all stands kept is =
        let h = hands kept is goes.far.world goes.advances.after.left in
        let s = stands h.0 h.1 in
        let t = on_from h.0 kept h.2 h.3 s.0 in
        (t.0, λ all has. t.1 ∙ s.1 all (sym h.2.input ∙ has))

  -- after a call that took no form
  pub stands_further : (told : Option (Account D)) (mid new : StoreView D R) (w : WorldState) (mode : Mode) (bytes : List ℕ) → StandsBeforeAll functions state told mid w mode bytes → (state new.disk).honest ≡ (state mid.disk).honest
      → mid.world ≡ Some w → new.world ≡ Some w → SurvivesAs functions state mid new w [] 0 → StandsBeforeAll functions state told new w mode bytes
  stands_further told mid new w mode bytes stands same known left survives kept is =
      let s = (stands kept is).0 in (
        record {
          text = s.text;
          of_input = s.of_input;
          far = s.far;
          stays = s.stays;
          mode_is = s.mode_is;
          world_is = s.world_is;
          rest_is = s.rest_is;
          at_rest = rests_further kept mid new w s.at_rest same known left survives;
        },
        (stands kept is).1,
      )

  -- ---- before all that is left of the input

  -- what was not read yet, if the input is told, and nothing if it is not
  to_the_end : (kept : Account D) (store : StoreView D R) (w : WorldState) (mode : Mode) (bytes more : List ℕ) → (s : StandsAfterLines functions state kept store w mode bytes) → ((all : List ℕ) → kept.input ≡ Some all → s.text ++ more ≡ all)
      → (t : StandsAfterLines functions state kept store w mode (bytes ++ more)) × ((all : List ℕ) → kept.input ≡ Some all → t.text ≡ all)
  to_the_end kept store w mode bytes more s whole = (
    record {
      text = s.text ++ more;
      of_input = λ all is. ([], sym (whole all is) ∙ sym (append-nil (s.text ++ more)));
      far = longer s.far more;
      stays = stays_longer functions kept.forms kept.first kept.mode s.text more s.far s.stays;
      mode_is = s.mode_is;
      world_is = s.world_is;
      rest_is = ap (λ t. t ++ more) s.rest_is;
      at_rest = s.at_rest;
    },
    whole,
  )

  pub rest_of_input : (told : Option (Account D)) (store : StoreView D R) (w : WorldState) (mode : Mode) (bytes : List ℕ) → StandsBefore functions state told store w mode bytes
      → (more : List ℕ) × StandsBeforeAll functions state told store w mode (bytes ++ more)
  rest_of_input None store w mode bytes stands = ([], λ kept is. absurd (cc))
  rest_of_input (Some kept) store w mode bytes stands = by kept.input refl where
    s : StandsAfterLines functions state kept store w mode bytes
    s = stands kept refl

    to_rest : (more : List ℕ) → ((all : List ℕ) → kept.input ≡ Some all → s.text ++ more ≡ all) → StandsBeforeAll functions state (Some kept) store w mode (bytes ++ more)
    to_rest more whole other is =
        let same : kept ≡ other = cc in
        subst (λ (a : Account D). (t : StandsAfterLines functions state a store w mode (bytes ++ more)) × ((all : List ℕ) → a.input ≡ Some all → t.text ≡ all)) same (to_the_end kept store w mode bytes more s whole)

    by : (o : Option (List ℕ)) → kept.input ≡ o → (more : List ℕ) × StandsBeforeAll functions state (Some kept) store w mode (bytes ++ more)
    by None none = ([], to_rest [] (λ all is. absurd (cc)))
    by (Some all) told_is =
        let left = s.of_input all told_is in
        (left.0, to_rest left.0 (λ other is. let same : all ≡ other = cc in sym left.1 ∙ same))

  -- ---- what was handed on

  -- nothing
  pub hands_nothing : (count : ℕ) (told : Option (Account D)) (store : StoreView D R) (mode : Mode) (bytes : (w : WorldState) → store.world ≡ Some w → List ℕ)
      → ((w : WorldState) (known : store.world ≡ Some w) → StandsBefore functions state told store w mode (bytes w known)) → HandsOn functions state count count told told store
  hands_nothing count told store mode bytes stands kept is w known =
      (kept, is, record { first = refl; mode = refl; input = refl; forms = refl }, (stands w known kept is).at_rest)

  -- lines of so many forms, on a store that keeps its world
  pub hands_lines : (forms from to : ℕ) (told now : Option (Account D)) (new : StoreView D R) → ((later : Account D) → now ≡ Some later → option_map (with_forms forms new) told ≡ Some later) → to ≡ from + forms
      → ((w : WorldState) → new.world ≡ Some w → IsHonest (state new.disk) → Keeps functions (state new.disk) w) → HandsOn functions state from to told now new
  hands_lines forms from to told now new given count keeps later is w known =
      let before = kept_before forms new told later (given later is) in (
        before.0,
        before.1,
        subst (λ (l : Account D). IsLaterAccount from to before.0 l) before.2 (record { first = refl; mode = refl; input = refl; forms = omega (arith, count) }),
        subst (λ (l : Account D). IsAtRest functions state l new w) before.2 (rests_here (with_forms forms new before.0) new w refl (ap (λ o. unwrap_or o before.0.now) known) (keeps w known)),
      )

  -- by other counts of forms
  pub hands_from : (a b from to : ℕ) (told now : Option (Account D)) (store : StoreView D R) → to + a ≡ from + b → HandsOn functions state a b told now store → HandsOn functions state from to told now store
  hands_from a b from to told now store apart hands later is w known =
      let h = hands later is w known in
      (h.0, h.1, record { first = h.2.first; mode = h.2.mode; input = h.2.input; forms = omega (arith, apart, h.2.forms) }, h.3)

  pub hands_both : (a b c : ℕ) (told between now : Option (Account D)) (mid new : StoreView D R) (w : WorldState) → mid.world ≡ Some w → HandsOn functions state a b told between mid → HandsOn functions state b c between now new
      → HandsOn functions state a c told now new
  hands_both a b c told between now mid new w known first second later is v left =
      let two = second later is v left in
      let one = first two.0 two.1 w known in (
        one.0,
        one.1,
        record { first = two.2.first ∙ one.2.first; mode = two.2.mode ∙ one.2.mode; input = two.2.input ∙ one.2.input; forms = omega (arith, one.2.forms, two.2.forms) },
        two.3,
      )

  -- and after a form what comes of a snapshot
  pub hands_renewed : (from to : ℕ) (told now : Option (Account D)) (mid new : StoreView D R) (w : WorldState) (wrote : Bool) (pace later : Pace) → (state new.disk).honest ≡ (state mid.disk).honest → mid.world ≡ Some w
      → RenewsAfterForm functions state mid new w wrote pace later None → HandsOn functions state from to told now mid → HandsOn functions state from to told now new
  hands_renewed from to told now mid new w wrote pace later same known renews hands kept is v left =
      let leaves = renewal_leaves mid new w wrote pace later known renews in
      let one : w ≡ v = let there = leaves.1 in cc in
      let h = hands kept is w known in
      (h.0, h.1, h.2, subst (λ u. IsAtRest functions state kept new u) one (rests_further kept mid new w h.3 same known leaves.1 leaves.0))

  -- ---- what was done since

  -- on a store that was at rest
  pub acknowledges_none : (told : Option (Account D)) (old new : StoreView D R) (w : WorldState) (taken : List LogRecord) → old.world ≡ Some w → ((kept : Account D) → told ≡ Some kept → IsAtRest functions state kept old w)
      → SurvivesAs functions state old new w taken 0 → AllOrNone functions state old new w taken → AcknowledgesNone functions state told new
  acknowledges_none told old new w taken known rests survives all_or_none kept is =
      let rest = rests kept is in
      let P = MeansAllOrNone functions w taken in
      record {
        taken = taken;
        survives = λ honest.
            let before = rest.since honest in
            subst (λ v. Survives functions (state kept.disk) (state new.disk) v taken 0 new.world) (sym rest.now)
            (both_survive functions (state kept.disk) (state old.disk) (state new.disk) w w [] taken 0 new.world before (survives known (subst IsTrue rest.honest honest) (before.kept w refl)));
        all_or_none = λ honest.
            let before = rest.since honest in
            subst (λ v. Throughout (state kept.disk) (state new.disk) (MeansAllOrNone functions v taken)) (sym rest.now)
            (joined (state kept.disk) (state old.disk) (state new.disk) P P
            (weaker (state kept.disk) (state old.disk) (MeansSome functions w [] 0) P before.any_moment (means_before functions w taken))
            (all_or_none known (subst IsTrue rest.honest honest) (before.kept w refl)) (λ i is. is));
      }

  none_of_none : (old new : StoreView D R) (w : WorldState) → SurvivesAs functions state old new w [] 0 → AllOrNone functions state old new w []
  none_of_none old new w survives known honest keeps =
      weaker (state old.disk) (state new.disk) (MeansSome functions w [] 0) (MeansAllOrNone functions w []) (survives known honest keeps).any_moment (means_before functions w [])

  -- something that took no form
  pub none_further : (told : Option (Account D)) (old new : StoreView D R) (w : WorldState) → old.world ≡ Some w → ((kept : Account D) → told ≡ Some kept → IsAtRest functions state kept old w)
      → SurvivesAs functions state old new w [] 0 → AcknowledgesNone functions state told new
  none_further told old new w known rests survives = acknowledges_none told old new w [] known rests survives (none_of_none old new w survives)

  -- nothing
  pub none_here : (told : Option (Account D)) (store : StoreView D R) (w : WorldState) → store.world ≡ Some w → ((kept : Account D) → told ≡ Some kept → IsAtRest functions state kept store w) → AcknowledgesNone functions state told store
  none_here told store w known rests = none_further told store store w known rests (unchanged_survives functions state sound store store w refl)

  pub none_standing : (told : Option (Account D)) (store : StoreView D R) (w : WorldState) (mode : Mode) (bytes : List ℕ) → store.world ≡ Some w → StandsBefore functions state told store w mode bytes → AcknowledgesNone functions state told store
  none_standing told store w mode bytes known stands = none_here told store w known (λ kept is. (stands kept is).at_rest)

  pub none_handed : (from to : ℕ) (told now : Option (Account D)) (store : StoreView D R) (w : WorldState) → store.world ≡ Some w → HandsOn functions state from to told now store → AcknowledgesNone functions state now store
  none_handed from to told now store w known hands = none_here now store w known (λ kept is. (hands kept is w known).3)

  pub none_standing_all : (told : Option (Account D)) (store : StoreView D R) (w : WorldState) (mode : Mode) (bytes : List ℕ) → store.world ≡ Some w → StandsBeforeAll functions state told store w mode bytes → AcknowledgesNone functions state told store
  none_standing_all told store w mode bytes known stands = none_here told store w known (λ kept is. (stands kept is).0.at_rest)

  -- a form that was not taken: its record may be in the file if the device failed
  pub none_of_form : (told : Option (Account D)) (old new : StoreView D R) (w : WorldState) (mode : Mode) (bytes own : List ℕ) (x : Object) (failure : Failure) → old.world ≡ Some w → StandsBeforeAll functions state told old w mode bytes
      → TakesForm functions state old new mode own x (Err failure) → AcknowledgesNone functions state told new
  none_of_form told old new w mode bytes own x (failures.Refused number) known stands of = none_further told old new w known (λ kept is. (stands kept is).0.at_rest) (of.survives w)
  none_of_form told old new w mode bytes own x failures.Full known stands of = none_further told old new w known (λ kept is. (stands kept is).0.at_rest) (of.survives w)
  none_of_form told old new w mode bytes own x failures.OutOfMemory known stands of = none_further told old new w known (λ kept is. (stands kept is).0.at_rest) (of.survives w)
  none_of_form told old new w mode bytes own x failures.DeviceFault known stands of =
      acknowledges_none told old new w (accepted_record mode own ∷ []) known (λ kept is. (stands kept is).0.at_rest) (of.survives w)
      (λ here honest keeps. all_or_none_of_one functions (state old.disk) (state new.disk) w (accepted_record mode own) (of.survives w here honest keeps).any_moment)

  -- the forms of a group
  pub none_of_group : (told : Option (Account D)) (old new : StoreView D R) (w : WorldState) (mode : Mode) (bytes text : List ℕ) (wanted : SessionOptions) → old.world ≡ Some w → StandsBefore functions state told old w mode bytes
      → FailsForms functions wanted state old new w text → AcknowledgesNone functions state told new
  none_of_group told old new w mode bytes text wanted known stands fault =
      acknowledges_none told old new w fault.makes.2.far.taken known (λ kept is. (stands kept is).at_rest) (far_failed functions wanted state old new w text fault).survives (far_failed functions wanted state old new w text fault).all_or_none

  -- a snapshot that was refused
  pub no_renewal : (old new : StoreView D R) (w : WorldState) (number : ℕ) → RenewsOrIsRefused functions state old new w (Err number) → SurvivesAs functions state old new w [] 0
  no_renewal old new w number (inl none) = none.survives
  no_renewal old new w number (inr (inl fault)) = fault.survives
  no_renewal old new w number (inr (inr memory)) = memory.survives

  pub no_renewal_after : (old new : StoreView D R) (w : WorldState) (wrote : Bool) (pace later : Pace) (number : ℕ) → RenewsAfterForm functions state old new w wrote pace later (Some number) → SurvivesAs functions state old new w [] 0
  no_renewal_after old new w wrote pace later number (is, due, inl fault) = fault.survives
  no_renewal_after old new w wrote pace later number (is, due, inr memory) = memory.survives

  -- ---- what may be handed on

  module _ (kept : Account D) (old new : StoreView D R) (w : WorldState) (mode : Mode) (bytes lines : List ℕ)
      (at : (stands : StandsAfterLines functions state kept old w mode bytes) × ((all : List ℕ) → kept.input ≡ Some all → stands.text ≡ all)) (known : old.world ≡ Some w) where
    abbrev s : StandsAfterLines functions state kept old w mode bytes
    s = at.0

    -- the lines of forms that were taken
    stored_after : (forms : ℕ) (far : Progress) → after_forms functions forms w mode bytes ≡ Some far
        → (lines ≡ far.lines) ⊎ (lines ≡ far.lines ++ last_line (read_in functions far.world mode far.rest))
        → new.world ≡ Some far.world → SurvivesAs functions state old new w far.taken (length far.taken) → AllOrNone functions state old new w far.taken
        → AreStored functions state kept new lines forms
    stored_after forms far far_is are left survives all_or_none = record {
      text = s.text;
      of_input = at.1;
      before = s.far;
      before_is = ap (after_forms functions kept.forms kept.first kept.mode) (sym (append-nil s.text)) ∙ s.stays [] ∙ ap (λ t. Some (record s.far { rest = t })) (append-nil s.far.rest);
      before_now = s.world_is ∙ sym s.at_rest.now;
      far = far;
      far_is = (λ i. after_forms functions forms (s.world_is i) (s.mode_is i) (s.rest_is i)) ∙ far_is;
      lines_are = subst (λ (m : Mode). (lines ≡ far.lines) ⊎ (lines ≡ far.lines ++ last_line (read_in functions far.world m far.rest))) (sym s.mode_is) are;
      left = left;
      survives = λ honest.
          let before = s.at_rest.since honest in
          let none_more : 0 + length far.taken ≡ length far.taken = omega arith in
          let more = subst (λ o. Survives functions (state old.disk) (state new.disk) w far.taken (length far.taken) o) left
          (survives known (subst IsTrue s.at_rest.honest honest) (before.kept w refl)) in
          subst (λ v. Survives functions (state kept.disk) (state new.disk) v far.taken (length far.taken) (Some far.world)) (sym s.at_rest.now)
          (subst (λ n. Survives functions (state kept.disk) (state new.disk) w far.taken n (Some far.world)) none_more
          (both_survive functions (state kept.disk) (state old.disk) (state new.disk) w w [] far.taken (length far.taken) (Some far.world) before more));
      all_or_none = λ honest.
          let before = s.at_rest.since honest in
          let P = MeansAllOrNone functions w far.taken in
          subst (λ v. Throughout (state kept.disk) (state new.disk) (MeansAllOrNone functions v far.taken)) (sym s.at_rest.now)
          (joined (state kept.disk) (state old.disk) (state new.disk) P P
          (weaker (state kept.disk) (state old.disk) (MeansSome functions w [] 0) P before.any_moment (means_before functions w far.taken))
          (all_or_none known (subst IsTrue s.at_rest.honest honest) (before.kept w refl)) (λ i is. is));
    }

    -- the line of a form
    pub line_stored : (line : List ℕ) (told : Answered) → TriesForm functions state old new w mode bytes (Some []) (Some line) (Ok told) → lines ≡ line → AreStored functions state kept new lines 1
    line_stored line told tries are =
        let advances = tries.1 in
        let written : Some line ≡ Some ([] ++ tries.0.lines) = advances.lines [] refl in
        stored_after 1 tries.0 advances.far_is (inl (cc)) advances.after.left advances.survives
        (λ here honest keeps. one_batch functions (state old.disk) (state new.disk) w tries.0.taken (fill_of state old) (fill_of state new) (was_logged told) tries.2 (advances.survives here honest keeps).any_moment)

    -- the lines of a group
    pub lines_stored : (text more : List ℕ) → bytes ≡ text ++ more → (wanted : SessionOptions) (gathered : GatheredForms) → wanted.mode ≡ mode → TakesForms functions wanted state old new w text gathered → lines ≡ gathered.lines.items
        → AreStored functions state kept new lines gathered.forms
    lines_stored text more parts wanted gathered in_mode took are =
        let stores = far_stored functions wanted state old new w text gathered took in
        stored_after gathered.forms (longer took.makes.far more) ((λ i. after_forms functions gathered.forms w (sym in_mode i) (parts i)) ∙ took.makes.stays more)
        (inl (are ∙ took.makes.lines)) stores.logs.left stores.survives stores.all_or_none

    -- the line of a refusal
    pub refusal_stored : (number at : ℕ) → read_in functions w mode bytes ≡ refused number at → lines ≡ refusal_line number → new ≡ old → AreStored functions state kept new lines 0
    refusal_stored number at reads are same =
        stored_after 0 (first_progress w bytes) refl (inr (are ∙ ap (λ (r : Reading). last_line r) (sym reads))) (ap (λ (n : StoreView D R). n.world) same ∙ known)
        (unchanged_survives functions state sound old new w same)
        (λ here honest keeps. weaker (state old.disk) (state new.disk) (MeansSome functions w [] 0) (MeansAllOrNone functions w []) (unchanged_survives functions state sound old new w same here honest keeps).any_moment (means_before functions w []))
