-- What follows from events, one after the other.
use Rattle.std.proofs.Common.{◌≡◌, ℕ, zero, suc, ◌+◌, ◌≤◌, Bool, List, [], ◌∷◌, ◌++◌, length, take, drop, Option, None, Some, Result, Ok, Err, IsTrue, refl, sym, ap, subst, ◌∙◌, arith, append_assoc, add-zero, length-append}
use Rattle.std.proofs.lemmas.List.{length-take-le, take-append-drop, take-append-le, take-take}
use Rattle.disk_trait.specs.Disk.{Image, State, IsHonest, IsSoundDisk}
use Rattle.gate_log.specs.Layout.{LogRecord}
use Rattle.plist_state.specs.State.{WorldState}
use Rattle.prevalence_store.specs.meaning.Acceptance.{Acceptance, accepts, after, mode_of}
use Rattle.prevalence_store.specs.calls.Open.{IsNoWord, IsUnopened, limit_at_open}
use Rattle.prevalence_store.specs.Theorem.{Call, IsAfterSome, Keeps, KeepsSome, MeansSome, Reopens, Survives}
use Rattle.store_laws.specs.Histories.{Event, StillStands, disk_by, last_disk, last_left, world_left_by, opened, refused, called, stopped, stopped_in_call, stopped_in_opening, FollowsFromEvents, EventsHappened, EventHappens, IsCallOfStore, IsOpenedOrNot, IsStop, StandsAfterEvents}
use Rattle.user_macros.specs.Functions.{Functions}

module _ (functions : Functions) where
  -- ---- forms after others

  by_first : (given : Result Acceptance ℕ) (rest : WorldState → Option WorldState) (left : WorldState) → elim given [ Ok a ↦ rest a.world | Err number ↦ None ] ≡ Some left
      → (a : Acceptance) × (given ≡ Ok a) × (rest a.world ≡ Some left)
  by_first (Ok a) rest left is = (a, refl, is)
  by_first (Err number) rest left is = absurd (cc)

  -- the world after forms, and after those that follow them
  after_both : (first left : WorldState) (line more : List LogRecord) → after functions first line ≡ Some left → after functions first (line ++ more) ≡ after functions left more
  after_both first left [] more is = let same : first ≡ left = cc in ap (λ w. after functions w more) same
  after_both first left (entry ∷ line) more is =
      let one = by_first (accepts functions first (mode_of entry.kind) entry.text) (λ w. after functions w line) left is in
      ap (λ given. elim given [ Ok a ↦ after functions a.world (line ++ more) | Err number ↦ None ]) one.1 ∙ after_both one.0.world left line more one.2

  -- ---- what a crash leaves

  take_past : (line more : List LogRecord) (m n : ℕ) → m ≡ length line + n → take m (line ++ more) ≡ line ++ take n more
  take_past [] more m n is = let same : m ≡ n = omega arith in ap (λ k. take k more) same
  take_past (entry ∷ line) more zero n is = absurd (omega arith)
  take_past (entry ∷ line) more (suc m) n is = let less : m ≡ length line + n = omega arith in ap (λ l. entry ∷ l) (take_past line more m n less)

  -- some of the forms after all of a line
  more_means : (first world : WorldState) (line more : List LogRecord) (fewer : ℕ) (image : Image) → after functions first line ≡ Some world → MeansSome functions world more fewer image
      → MeansSome functions first (line ++ more) (length line + fewer) image
  more_means first world line more fewer image here some = record {
    count = length line + some.count;
    enough = omega (arith, some.enough);
    among = rw length-append (omega (arith, some.among));
    left = some.left;
    after_those = ap (after functions first) (take_past line more (length line + some.count) some.count refl) ∙ after_both first world line (take some.count more) here ∙ some.after_those;
    meant = some.meant;
  }

  -- at any moment of a call of the open store
  pub in_call : {D : Type 0} (state : D → State) (first : WorldState) (line : List LogRecord) (sure : ℕ) (disk : D) (left : Option WorldState) (call : Call D)
      → StandsAfterEvents functions state first line sure disk left → IsCallOfStore functions state disk left call
      → (image : Image) → (state call.disk).left_since (state disk).moment image → MeansSome functions first (line ++ call.taken) (length line) image
  in_call state first line sure disk None call stands is image might = absurd is
  in_call state first line sure disk (Some world) call stands is image might =
      subst (λ n. MeansSome functions first (line ++ call.taken) n image) (add-zero (length line))
      (more_means first world line call.taken 0 image (stands.whole world refl).0 (is.any_moment.each image might))

  -- at any moment of an opening
  pub in_opening : {D : Type 0} (state : D → State) (first : WorldState) (line : List LogRecord) (sure : ℕ) (disk : D) (left : Option WorldState) (there : D)
      → StandsAfterEvents functions state first line sure disk left → IsOpenedOrNot functions state disk there
      → (image : Image) → (state there).left_since (state disk).moment image → MeansSome functions first line sure image
  in_opening state first line sure disk left there stands opening image might =
      let was = opening.each image might in
      let before = stands.keeps was.before was.might in
      record {
        count = before.count;
        enough = before.enough;
        among = before.among;
        left = before.left;
        after_those = before.after_those;
        meant = was.same before.left before.meant;
      }

  module _ {D : Type 0} (state : D → State) (sound : (d : D) → IsHonest (state d) → IsSoundDisk (state d)) (first : WorldState)
      (opens : (start now : D) (world : WorldState) (line : List LogRecord) (sure : ℕ) → IsHonest (state start) → KeepsSome functions (state start) first line sure
      → Reopens functions (state start) (state now) world → IsAfterSome functions first line sure world)
      (refuses : (start back : D) (whole : Bool) (line : List LogRecord) (sure limit number : ℕ) → IsHonest (state start) → KeepsSome functions (state start) first line sure
      → (unopened : IsUnopened functions state start whole limit number back)
      → IsHonest (state back) × KeepsSome functions (state back) first line sure × IsNoWord (state start).mixes (limit_at_open limit) (state start).reads unopened.fault) where
    -- ---- one event

    none_open : (line : List LogRecord) (disk : D) (world : WorldState) → ◌≡◌ {A = Option WorldState} None (Some world)
        → (after functions first line ≡ Some world) × Keeps functions (state disk) world
    none_open line disk world is = absurd (cc)

    stands_opened : (line : List LogRecord) (sure : ℕ) (now : D) (world : WorldState) → IsHonest (state now) → (found : IsAfterSome functions first line sure world) → Keeps functions (state now) world
        → StandsAfterEvents functions state first (take found.count line) found.count now (Some world)
    stands_opened line sure now world honest found kept =
        let here : after functions first (take found.count (take found.count line)) ≡ Some world = ap (after functions first) (take-take found.count found.count line (omega arith)) ∙ found.after_those in
        let among = length-take-le found.count line found.among in
        record {
          honest = honest;
          keeps = λ image may. record { count = found.count; enough = omega arith; among = omega arith; left = world; after_those = here; meant = kept image may };
          whole = λ w is.
              let same : world ≡ w = cc in
              (found.after_those ∙ is, subst (λ (u : WorldState). Keeps functions (state now) u) same kept);
        }

    -- the world of the store that is called
    caller : (disk : D) (left : Option WorldState) (call : Call D) → IsCallOfStore functions state disk left call
        → (world : WorldState) × (left ≡ Some world) × Survives functions (state disk) (state call.disk) world call.taken call.acknowledged call.left
    caller disk None call is = absurd is
    caller disk (Some world) call is = (world, refl, is)

    stands_called : (line : List LogRecord) (sure : ℕ) (disk : D) (left : Option WorldState) (call : Call D) → StandsAfterEvents functions state first line sure disk left → IsCallOfStore functions state disk left call
        → StandsAfterEvents functions state first (line ++ call.taken) (length line + call.acknowledged) call.disk call.left
    stands_called line sure disk left call stands is =
        let from = caller disk left call is in
        let here = (stands.whole from.0 from.1).0 in record {
          honest = subst IsTrue (sym from.2.honest) stands.honest;
          keeps = λ image may. more_means first from.0 line call.taken call.acknowledged image here (from.2.in_the_end image may);
          whole = λ w now. (after_both first from.0 line call.taken here ∙ from.2.after_all w now, from.2.kept w now);
        }

    stands_stopped : (line : List LogRecord) (sure : ℕ) (disk : D) (left : Option WorldState) (now : D) → StandsAfterEvents functions state first line sure disk left → IsStop state disk disk now
        → StandsAfterEvents functions state first line sure now None
    stands_stopped line sure disk left now stands stop = record {
      honest = stop.honest;
      keeps = λ image may. stands.keeps image ((sound disk stands.honest).only_now image (stop.between image may));
      whole = none_open line now;
    }

    stands_stopped_in_call : (line : List LogRecord) (sure : ℕ) (disk : D) (left : Option WorldState) (call : Call D) (now : D) → StandsAfterEvents functions state first line sure disk left
        → IsCallOfStore functions state disk left call → IsStop state disk call.disk now → StandsAfterEvents functions state first (line ++ call.taken) (length line) now None
    stands_stopped_in_call line sure disk left call now stands is stop = record {
      honest = stop.honest;
      keeps = λ image may. in_call state first line sure disk left call stands is image (stop.between image may);
      whole = none_open (line ++ call.taken) now;
    }

    stands_stopped_in_opening : (line : List LogRecord) (sure : ℕ) (disk : D) (left : Option WorldState) (there now : D) → StandsAfterEvents functions state first line sure disk left
        → IsOpenedOrNot functions state disk there → IsStop state disk there now → StandsAfterEvents functions state first line sure now None
    stands_stopped_in_opening line sure disk left there now stands opening stop = record {
      honest = stop.honest;
      keeps = λ image may. in_opening state first line sure disk left there stands opening image (stop.between image may);
      whole = none_open line now;
    }

    -- there are no more sure forms than forms
    within : (line : List LogRecord) (sure : ℕ) (disk : D) (left : Option WorldState) → StandsAfterEvents functions state first line sure disk left → sure ≤ length line
    within line sure disk left stands =
        let some = stands.keeps (state disk).reads (sound disk stands.honest).reads_stay in
        omega (arith, some.enough, some.among)

    -- How it stands after one event, where the forms that were sure are still the first; and what follows from it and those after it.
    record Steps (line : List LogRecord) (sure : ℕ) (disk : D) (left : Option WorldState) (event : Event D) : Type 0 where
      next : List LogRecord
      next_sure : ℕ
      no_less : sure ≤ next_sure
      same : take sure next ≡ take sure line
      stands : StandsAfterEvents functions state first next next_sure (disk_by event) (world_left_by event)
      follows : (events : List (Event D)) → FollowsFromEvents functions state first next next_sure (disk_by event) (world_left_by event) events
          → FollowsFromEvents functions state first line sure disk left (event ∷ events)

    step : (event : Event D) (line : List LogRecord) (sure : ℕ) (disk : D) (left : Option WorldState) → StandsAfterEvents functions state first line sure disk left → EventHappens functions state disk left event
        → Steps line sure disk left event
    step (opened now world) line sure disk left stands opening =
        let found = opens disk now world line sure stands.honest stands.keeps opening.reopens in record {
          next = take found.count line;
          next_sure = found.count;
          no_less = found.enough;
          same = take-take sure found.count line found.enough;
          stands = stands_opened line sure now world (subst IsTrue (sym opening.honest) stands.honest) found opening.reopens.kept;
          follows = λ events rest. (found, rest);
        }
    step (refused limit fault back) line sure disk left stands refusal =
        let after_it = refuses disk back refusal.whole line sure limit refusal.number stands.honest stands.keeps refusal.unopened in record {
          next = line;
          next_sure = sure;
          no_less = omega arith;
          same = refl;
          stands = record { honest = after_it.0; keeps = after_it.1; whole = none_open line back };
          follows = λ events rest. (subst (λ f. IsNoWord (state disk).mixes (limit_at_open limit) (state disk).reads f) refusal.fault_is after_it.2, rest);
        }
    step (called call) line sure disk left stands is =
        let le = within line sure disk left stands in record {
          next = line ++ call.taken;
          next_sure = length line + call.acknowledged;
          no_less = omega (arith, le);
          same = take-append-le sure line call.taken le;
          stands = stands_called line sure disk left call stands is;
          follows = λ events rest. rest;
        }
    step (stopped now) line sure disk left stands stop =
        record { next = line; next_sure = sure; no_less = omega arith; same = refl; stands = stands_stopped line sure disk left now stands stop; follows = λ events rest. rest }
    step (stopped_in_call call now) line sure disk left stands (is, stop) =
        let le = within line sure disk left stands in record {
          next = line ++ call.taken;
          next_sure = length line;
          no_less = le;
          same = take-append-le sure line call.taken le;
          stands = stands_stopped_in_call line sure disk left call now stands is stop;
          follows = λ events rest. rest;
        }
    step (stopped_in_opening there now) line sure disk left stands (opening, stop) = record {
      next = line;
      next_sure = sure;
      no_less = omega arith;
      same = refl;
      stands = stands_stopped_in_opening line sure disk left there now stands opening stop;
      follows = λ events rest. rest;
    }

    -- ---- all of them

    -- the sure forms of one line are the first of the sure ones of the other
    still_first : (line longer : List LogRecord) (sure more : ℕ) (disk : D) (left : Option WorldState) → sure ≤ more → take sure longer ≡ take sure line → StillStands functions state first longer more disk left
        → StillStands functions state first line sure disk left
    still_first line longer sure more disk left le same still =
        let rest = drop sure (take more longer) in
        let parts : take more longer ≡ take sure line ++ rest = sym (take-append-drop sure (take more longer)) ∙ ap (λ l. l ++ rest) (take-take sure more longer le ∙ same) in record {
          more = rest ++ still.more;
          now_sure = still.now_sure;
          no_less = omega (arith, le, still.no_less);
          stands = subst (λ (l : List LogRecord). StandsAfterEvents functions state first l still.now_sure disk left)
              (ap (λ l. l ++ still.more) parts ∙ append_assoc (take sure line) rest still.more) still.stands;
        }

    pub follow : (events : List (Event D)) (line : List LogRecord) (sure : ℕ) (disk : D) (left : Option WorldState) → StandsAfterEvents functions state first line sure disk left
        → EventsHappened functions state disk left events
        → FollowsFromEvents functions state first line sure disk left events × StillStands functions state first line sure (last_disk disk events) (last_left left events)
    follow [] line sure disk left stands happened = (
      stands,
      record {
        more = drop sure line;
        now_sure = sure;
        no_less = omega arith;
        stands = subst (λ (l : List LogRecord). StandsAfterEvents functions state first l sure disk left) (sym (take-append-drop sure line)) stands;
      },
    )
    follow (event ∷ events) line sure disk left stands happened =
        let one = step event line sure disk left stands happened.0 in
        let rest = follow events one.next one.next_sure (disk_by event) (world_left_by event) one.stands happened.1 in (
          one.follows events rest.0,
          still_first line one.next sure one.next_sure (last_disk (disk_by event) events) (last_left (world_left_by event) events) one.no_less one.same rest.1,
        )

  -- from files that mean the first world
  pub begins : {D : Type 0} (state : D → State) (first : WorldState) (start : D) → IsHonest (state start) → Keeps functions (state start) first → StandsAfterEvents functions state first [] 0 start None
  begins state first start honest keeps = record {
    honest = honest;
    keeps = λ image may. record { count = 0; enough = omega arith; among = omega arith; left = first; after_those = refl; meant = keeps image may };
    whole = λ world is. absurd (let none : ◌≡◌ {A = Option WorldState} None (Some world) = is in cc);
  }
