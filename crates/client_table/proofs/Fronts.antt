-- The first of what is asked: as proofs/Fronts.antt of messages, with messages with a name, whose answers are kept.
--     one_answer      one answer more
--     IsAt, at_first      how far they have come
--     at_next, at_last, at_none_left, at_fault      the next of them; the last one; where there is no more; and where one is not answered
--     kept_last, kept_none_left      what is kept then
--     at_end      where the position is not set
--     first_answered, most_answered, some_answered      what is said of the first of them
use Rattle.std.proofs.Common.{◌≡◌, ◌≢◌, ℕ, ◌+◌, ◌-◌, ◌<◌, ◌≤◌, nat_le, ◌==◌, Bool, true, false, if◌then◌else◌, List, [], ◌∷◌, ◌++◌, length, map, take, drop, get_or, sum_by, is_some, option_map, slice_get, Option, None, Some, Result, Ok, Err, IfErr, IfOk, refl, sym, ap, subst, ◌∙◌, inl, inr, arith, lit<, codes}
use Rattle.std.proofs.lemmas.Bool.{eq-eqb, leb-false, leb-true, ne_eqb}
use Rattle.std.proofs.lemmas.List.{append-nil, append_assoc, drop_all, drop_more, length-append, length-map, take_more}
use Rattle.std.proofs.lemmas.List.Sums.{fold-append, sum_by_push}
use Rattle.std.proofs.lemmas.Option.{slice_get-get_or, slice_get-map}
use Rattle.std.proofs.Math.Seq.{get_or-append_seam}
use Rattle.disk_trait.specs.Disk.{State}
use Rattle.plist_state.specs.State.{WorldState}
use Rattle.session_words.specs.declared.mode.Mode.TheVariants.{Current, Rescue}
use Rattle.prevalence_store.specs.declared.failure.Unadded.{Unadded}
use Rattle.prevalence_store.specs.declared.failure.Unadded.TheVariants.{OutOfMemory, Refused}
use Rattle.messages.specs.declared.request.RequestAnswer.{RequestAnswer}
use Rattle.messages.specs.declared.request.Replies.{Replies}
use Rattle.messages.specs.declared.request.TheConstants.{ANSWER_BYTES}
use Rattle.prevalence_store.specs.calls.ExecuteAll.{world_left_after, told_of}
use Rattle.prevalence_store.specs.calls.Store.{StoreView}
use Rattle.prevalence_store.specs.meaning.Acceptance.{Acceptance, accepts}
use Rattle.messages.specs.MessageAnswers.{Round, answer_in, answer_to_question, first_round, without_its_position, with_its_position, refusal_answer, refusal_text, with_answer, with_form_given, with_own, wrote_by}
use Rattle.client_table.specs.CallsByName.{AnswersAllAsked, AnswersFirstAsked, KeepsAnswers, KeepsRequest, RefusesAsked, RefusesAnyOwn}
use Rattle.client_table.specs.Turn.{first_asked}
use Rattle.messages.specs.MessageCalls.{IsNotClosed}
use Rattle.messages.specs.Fronts.{answer_length, is_full, is_none_left, room_left}
use Rattle.messages.specs.Position.{position_property}
use Rattle.messages.specs.Rounds.{IfRefused, told_in}
use Rattle.user_macros.specs.Functions.{Functions}
use Rattle.client_table.specs.Entries.{admission_text, client_count, entry, entry_property}
use Rattle.client_table.specs.Named.{by_admission, by_later, by_no_entry, by_standing, each_asked, last_told, one_asked, client_standing, with_kept}
use Rattle.client_table.specs.Names.{form_in, is_client_name, client_name_in}
use Rattle.client_table.specs.declared.asked.AnyRequest.{AnyRequest}
use Rattle.client_table.specs.declared.asked.AnyRequest.TheVariants as asked
use Rattle.client_table.specs.declared.asked.TheConstants.{NO_ENTRY, NO_FRAME, NO_ROOM, OTHER_TEXT}
use Rattle.client_table.specs.declared.entry.Standing.{Standing}
use Rattle.client_table.specs.declared.entry.Standing.TheVariants.{New, NoEntry, Old, Other, Last, Later}
use Rattle.messages.specs.declared.request.TheConstants.{OLD_NUMBER}
use Rattle.messages.proofs.Fronts.{one_answer as request_answer}

-- ---- one answer more

told_of_either : (b : Bool) (x y : Round) → x.told ≡ y.told → (if b then x else y).told ≡ y.told
told_of_either true x y same = same
told_of_either false x y same = refl

cleared_told : (round : Round) → (without_its_position round).told ≡ round.told
cleared_told round = told_of_either (is_some (position_property round.left)) _ round refl

closed_told : (round : Round) → (with_its_position round).told ≡ round.told
closed_told round = told_of_either round.wrote _ round refl

pub one_longer : (round next : Round) (answer : List ℕ × Bool) → next.told ≡ round.told ++ answer ∷ [] → answer_length next ≡ answer_length round + length answer.0
one_longer round next answer told = ap (sum_by (λ (a : List ℕ × Bool). length a.0)) told ∙ sum_by_push (λ (a : List ℕ × Bool). length a.0) round.told answer

-- ---- a room

none_left_after : (most n : ℕ) (full : Bool) → nat_le most n ≡ full → (most - n == 0) ≡ full
none_left_after most n true full = let enough = leb-true most n full in eq-eqb (most - n) 0 (omega (arith, enough))
none_left_after most n false full = let less = leb-false most n full in ne_eqb (most - n) 0 (λ none. absurd (omega (arith, less, none)))

none_left_is : (most : Option ℕ) (round : Round) → is_none_left (room_left most (answer_length round)) ≡ is_full most round
none_left_is None round = refl
none_left_is (Some most) round = none_left_after most (answer_length round) (nat_le most (answer_length round)) refl

room_whole : (most : Option ℕ) → most ≡ room_left most 0
room_whole None = refl
room_whole (Some most) = ap Some (omega arith)

room_twice : (most : Option ℕ) (n m : ℕ) → room_left (room_left most n) m ≡ room_left most (n + m)
room_twice None n m = refl
room_twice (Some most) n m = ap Some (omega arith)

module _ (functions : Functions) (clients : ℕ) where
  -- ---- a message with a name has one answer more

  -- with one answer more
  abbrev Longer : Round → Round → Type 0
  Longer round next = (answer : List ℕ × Bool) × (next.told ≡ round.told ++ answer ∷ [])

  kept_longer : (number : ℕ) (name form : List ℕ) (round : Round) → Longer round (with_kept functions number name form round)
  kept_longer number name form round =
      let given = accepts functions round.left Current form in
      ((answer_in (world_left_after round.left given) (told_of given), wrote_by given), refl)

  admitted_longer : (number : ℕ) (name form : List ℕ) (round : Round) (given : Result Acceptance ℕ) → Longer round (by_admission functions number name form round given)
  admitted_longer number name form round (Ok given) = kept_longer number name form (with_form_given (Ok given) round)
  admitted_longer number name form round (Err refusal) = ((refusal_answer refusal, false), refl)

  -- so it is of a round in which the position was taken out
  cleared_longer : (round next : Round) → Longer (without_its_position round) next → Longer round next
  cleared_longer round next longer = (longer.0, longer.1 ∙ ap (λ ts. ts ++ longer.0 ∷ []) (cleared_told round))

  first_longer : (number : ℕ) (name form : List ℕ) (round : Round) (full : Bool)
      → Longer round (if full then with_answer (refusal_text NO_ROOM (codes "NO-ROOM")) false round else by_admission functions number name form round (accepts functions round.left Rescue (admission_text round.left name)))
  first_longer number name form round true = ((refusal_text NO_ROOM (codes "NO-ROOM"), false), refl)
  first_longer number name form round false = admitted_longer number name form round (accepts functions round.left Rescue (admission_text round.left name))

  new_longer : (number : ℕ) (name : List ℕ) (form : Option (List ℕ)) (round : Round) → Longer round (by_no_entry functions clients number name form round)
  new_longer number name None round = ((codes "NIL", false), refl)
  new_longer number name (Some form) round = first_longer number name form round (nat_le clients (client_count round.left))

  later_longer : (number : ℕ) (name : List ℕ) (form : Option (List ℕ)) (round : Round) → Longer round (by_later functions number name form round)
  later_longer number name None round = ((codes "NIL", true), refl)
  later_longer number name (Some form) round = kept_longer number name form round

  standing_longer : (number : ℕ) (name : List ℕ) (form : Option (List ℕ)) (round : Round) (client_standing : Standing) → Longer round (by_standing functions clients number name form round client_standing)
  standing_longer number name form round New = new_longer number name form round
  standing_longer number name form round NoEntry = ((refusal_text NO_ENTRY (codes "NO-ENTRY"), false), refl)
  standing_longer number name form round Old = ((refusal_text OLD_NUMBER (codes "OLD-NUMBER"), false), refl)
  standing_longer number name form round Other = ((refusal_text OTHER_TEXT (codes "OTHER-TEXT"), false), refl)
  standing_longer number name form round Last = ((last_told (entry round.left name), false), refl)
  standing_longer number name form round Later = later_longer number name form round

  client_longer : (number : ℕ) (name : List ℕ) (form : Option (List ℕ)) (round : Round) (named : Bool)
      → Longer round (if named then by_standing functions clients number name form round (client_standing number form (entry_property round.left name)) else with_answer (refusal_text NO_FRAME (codes "NO-FRAME")) false round)
  client_longer number name form round true = standing_longer number name form round (client_standing number form (entry_property round.left name))
  client_longer number name form round false = ((refusal_text NO_FRAME (codes "NO-FRAME"), false), refl)

  pub one_answer : (round : Round) (one : AnyRequest) → Longer round (one_asked functions clients round one)
  one_answer round (asked.Request request) = request_answer functions round request
  one_answer round (asked.Named message) =
      cleared_longer round (one_asked functions clients round (asked.Named message))
      (client_longer message.number (client_name_in message.text.now) (form_in message.text.now) (without_its_position round) (is_client_name (client_name_in message.text.now)))

  -- ---- what is kept

  keeps_none : (round : Round) → KeepsAnswers functions clients round []
  unfolding KeepsAnswers
  keeps_none round = tt

  keeps_push : (round : Round) (front : List AnyRequest) (one : AnyRequest) → KeepsAnswers functions clients round front
      → KeepsRequest (each_asked functions clients round front) one (one_asked functions clients (each_asked functions clients round front) one) → KeepsAnswers functions clients round (front ++ one ∷ [])
  unfolding KeepsAnswers
  keeps_push round [] one all keeps = (keeps, tt)
  keeps_push round (other ∷ front) one all keeps = (all.0, keeps_push (one_asked functions clients round other) front one all.1 keeps)

  each_counted : (round : Round) (requests : List AnyRequest) → length (each_asked functions clients round requests).told ≡ length round.told + length requests
  each_counted round [] = omega arith
  each_counted round (request ∷ later) =
      let one = one_answer round request in
      let here = ap length one.1 ∙ length-append round.told (one.0 ∷ []) in
      let rest = each_counted (one_asked functions clients round request) later in
      omega (arith, here, rest)

  -- ---- the first of some requests

  first_none : (most : Option ℕ) (round : Round) → first_asked functions clients most round [] ≡ []
  unfolding first_asked
  first_none most round = refl

  first_step : (most : Option ℕ) (round : Round) (request : AnyRequest) (later : List AnyRequest)
      → first_asked functions clients most round (request ∷ later) ≡ request ∷ (if is_full most (one_asked functions clients round request) then [] else first_asked functions clients most (one_asked functions clients round request) later)
  unfolding first_asked
  first_step most round request later = refl

  -- ---- how far they have come

  -- So many of the requests were answered, and the first of them go on with the next one; this is left of the room.
  pub record IsAt (most : Option ℕ) (first : Round) (requests : List AnyRequest) (count : ℕ) (far : Round) (room : Option ℕ) : Type 0 where
    pub answered : far ≡ each_asked functions clients first (take count requests)
    pub goes_on : first_asked functions clients most first requests ≡ take count requests ++ first_asked functions clients most far (drop count requests)
    pub room_is : room ≡ room_left most (answer_length far)
    pub kept : KeepsAnswers functions clients first (take count requests)

  pub at_first : (most : Option ℕ) (first : Round) (requests : List AnyRequest) → first.told ≡ [] → IsAt most first requests 0 first most
  at_first most first requests none =
      let empty : answer_length first ≡ 0 = ap (sum_by (λ (a : List ℕ × Bool). length a.0)) none in
      record { answered = refl; goes_on = refl; room_is = room_whole most ∙ ap (room_left most) (sym empty); kept = keeps_none first }

  module _ (most : Option ℕ) (first : Round) (requests : List AnyRequest) (count : ℕ) (far : Round) (room : Option ℕ) (is : IsAt most first requests count far room) where
    pub kept_none_left : length requests ≤ count → KeepsAnswers functions clients first (first_asked functions clients most first requests)
    kept_none_left over =
        let all = is.goes_on ∙ ap (λ rest. take count requests ++ first_asked functions clients most far rest) (drop_all count requests over) ∙ ap (λ rest. take count requests ++ rest) (first_none most far) ∙ append-nil (take count requests) in
        subst (KeepsAnswers functions clients first) (sym all) is.kept

    pub at_none_left : length requests ≤ count → far ≡ each_asked functions clients first (first_asked functions clients most first requests)
    at_none_left over =
        let all = is.goes_on ∙ ap (λ rest. take count requests ++ first_asked functions clients most far rest) (drop_all count requests over) ∙ ap (λ rest. take count requests ++ rest) (first_none most far) ∙ append-nil (take count requests) in
        is.answered ∙ ap (each_asked functions clients first) (sym all)

    module _ (one : AnyRequest) (within : count < length requests) where
      abbrev next_of : AnyRequest
      next_of = get_or requests count one

      parts : first_asked functions clients most first requests
          ≡ take count requests ++ next_of ∷ (if is_full most (one_asked functions clients far next_of) then [] else first_asked functions clients most (one_asked functions clients far next_of) (drop (count + 1) requests))
      parts =
          is.goes_on ∙ ap (λ rest. take count requests ++ first_asked functions clients most far rest) (drop_more requests count one within)
          ∙ ap (λ rest. take count requests ++ rest) (first_step most far next_of (drop (count + 1) requests))

      -- the next one is not answered
      pub at_fault : (cause : Unadded) → IfRefused cause (RefusesAsked functions clients far next_of) → IfRefused cause (RefusesAnyOwn functions clients first (first_asked functions clients most first requests))
      at_fault (Refused number) refused = inl (take count requests, next_of, _, parts, subst (λ (r : Round). RefusesAsked functions clients r next_of number) is.answered refused)
      at_fault OutOfMemory refused = tt

      module _ (next : Round) (next_is : next ≡ one_asked functions clients far next_of) where
        one_more : next ≡ each_asked functions clients first (take (count + 1) requests)
        one_more =
            next_is ∙ ap (λ r. one_asked functions clients r next_of) is.answered
            ∙ sym (fold-append (λ r one. one_asked functions clients r one) first (take count requests) (next_of ∷ []))
            ∙ ap (each_asked functions clients first) (sym (take_more requests count one within))

        kept_more : KeepsRequest far next_of next → KeepsAnswers functions clients first (take (count + 1) requests)
        kept_more keeps =
            subst (KeepsAnswers functions clients first) (sym (take_more requests count one within))
            (keeps_push first (take count requests) next_of is.kept
            (subst (λ (r : Round). KeepsRequest r next_of (one_asked functions clients r next_of)) is.answered (subst (KeepsRequest far next_of) next_is keeps)))

        is_last : is_full most next ≡ true → first_asked functions clients most first requests ≡ take (count + 1) requests
        is_last full =
            parts
            ∙ ap (λ (b : Bool). take count requests ++ next_of ∷ (if b then [] else first_asked functions clients most (one_asked functions clients far next_of) (drop (count + 1) requests))) (ap (is_full most) (sym next_is) ∙ full)
            ∙ sym (take_more requests count one within)

        goes_further : is_full most next ≡ false → first_asked functions clients most first requests ≡ take (count + 1) requests ++ first_asked functions clients most next (drop (count + 1) requests)
        goes_further more =
            parts
            ∙ ap (λ (b : Bool). take count requests ++ next_of ∷ (if b then [] else first_asked functions clients most (one_asked functions clients far next_of) (drop (count + 1) requests))) (ap (is_full most) (sym next_is) ∙ more)
            ∙ sym (append_assoc (take count requests) (next_of ∷ []) (first_asked functions clients most (one_asked functions clients far next_of) (drop (count + 1) requests)))
            ∙ (λ i. sym (take_more requests count one within) i ++ first_asked functions clients most (sym next_is i) (drop (count + 1) requests))

        module _ (bytes : ℕ) (left : Option ℕ) (bytes_is : (told : List (List ℕ × Bool)) (answer : List ℕ × Bool) → next.told ≡ told ++ answer ∷ [] → bytes ≡ length answer.0) (left_is : left ≡ room_left room bytes) where
          room_next : left ≡ room_left most (answer_length next)
          room_next =
              let answer = one_answer far next_of in
              let told : next.told ≡ far.told ++ answer.0 ∷ [] = ap (λ (r : Round). r.told) next_is ∙ answer.1 in
              left_is ∙ ap (room_left room) (bytes_is far.told answer.0 told) ∙ ap (λ r. room_left r (length answer.0.0)) is.room_is ∙ room_twice most (answer_length far) (length answer.0.0)
              ∙ ap (room_left most) (sym (one_longer far next answer.0 told))

          full_is : is_none_left left ≡ is_full most next
          full_is = ap is_none_left room_next ∙ none_left_is most next

          pub at_next : KeepsRequest far next_of next → is_none_left left ≡ false → IsAt most first requests (count + 1) next left
          at_next keeps more = record { answered = one_more; goes_on = goes_further (sym full_is ∙ more); room_is = room_next; kept = kept_more keeps }

          pub kept_last : KeepsRequest far next_of next → is_none_left left ≡ true → KeepsAnswers functions clients first (first_asked functions clients most first requests)
          kept_last keeps none = subst (KeepsAnswers functions clients first) (sym (is_last (sym full_is ∙ none))) (kept_more keeps)

          pub at_last : is_none_left left ≡ true → next ≡ each_asked functions clients first (first_asked functions clients most first requests)
          at_last none = one_more ∙ ap (each_asked functions clients first) (sym (is_last (sym full_is ∙ none)))

  -- ---- after all of them

  refused_for : (cause : Unadded) (Before After : ℕ → Type 0) → ((number : ℕ) → Before number → After number) → IfRefused cause Before → IfRefused cause After
  refused_for (Refused number) Before After so refused = so number refused
  refused_for OutOfMemory Before After so refused = tt

  -- the number of the last message does not become the position
  pub at_end : {T : Type 0} (first far : Round) (requests : List AnyRequest) (result : Result T Unadded) → far ≡ each_asked functions clients first requests
      → IfErr result (λ cause. IfRefused cause (IsNotClosed functions far)) → IfErr result (λ cause. IfRefused cause (RefusesAnyOwn functions clients first requests))
  at_end first far requests (Ok value) is refused = tt
  at_end first far requests (Err cause) is refused =
      refused_for cause (IsNotClosed functions far) (RefusesAnyOwn functions clients first requests) (λ number closed. inr (subst (λ (r : Round). IsNotClosed functions r number) is closed)) refused

  -- ---- what is said of the first of them

  -- the first of some requests: these, and what comes after them
  abbrev Parted : ℕ → Round → List AnyRequest → List AnyRequest → Type 0
  Parted most round requests front =
      (rest : List AnyRequest) × (requests ≡ front ++ rest) × (rest ≢ [] → most ≤ answer_length (each_asked functions clients round front))

  parted_next : (most : ℕ) (round : Round) (request : AnyRequest) (later : List AnyRequest) (full : Bool) → is_full (Some most) (one_asked functions clients round request) ≡ full
      → Parted most (one_asked functions clients round request) later (first_asked functions clients (Some most) (one_asked functions clients round request) later)
      → Parted most round (request ∷ later) (request ∷ (if full then [] else first_asked functions clients (Some most) (one_asked functions clients round request) later))
  parted_next most round request later true full further = (later, refl, λ some. leb-true most (answer_length (one_asked functions clients round request)) full)
  parted_next most round request later false more further = (further.0, ap (λ rest. request ∷ rest) further.1, further.2)

  first_parts : (most : ℕ) (round : Round) (requests : List AnyRequest) → Parted most round requests (first_asked functions clients (Some most) round requests)
  first_parts most round [] = subst (Parted most round []) (sym (first_none (Some most) round)) ([], refl, λ some. absurd (some refl))
  first_parts most round (request ∷ later) =
      subst (Parted most round (request ∷ later)) (sym (first_step (Some most) round request later))
      (parted_next most round request later (is_full (Some most) (one_asked functions clients round request)) refl (first_parts most (one_asked functions clients round request) later))

  -- before each of these requests the answers have fewer bytes
  abbrev Needed : ℕ → Round → List AnyRequest → Type 0
  Needed most round front = (before : List AnyRequest) (request : AnyRequest) (later : List AnyRequest) → front ≡ before ++ request ∷ later → answer_length (each_asked functions clients round before) < most

  needed_one : (most : ℕ) (round : Round) (one : AnyRequest) → answer_length round < most → Needed most round (one ∷ [])
  needed_one most round one fewer [] request later is = fewer
  needed_one most round one fewer (other ∷ before) request later is =
      absurd (let counts = ap length is ∙ length-append (other ∷ before) (request ∷ later) in omega (arith, counts))

  needed_more : (most : ℕ) (round : Round) (one : AnyRequest) (front : List AnyRequest) → answer_length round < most → Needed most (one_asked functions clients round one) front → Needed most round (one ∷ front)
  needed_more most round one front fewer further [] request later is = fewer
  needed_more most round one front fewer further (other ∷ before) request later is =
      let same : one ≡ other = cc in
      let rest : front ≡ before ++ request ∷ later = cc in
      subst (λ (q : AnyRequest). answer_length (each_asked functions clients (one_asked functions clients round q) before) < most) same (further before request later rest)

  needed_next : (most : ℕ) (round : Round) (one : AnyRequest) (later : List AnyRequest) (full : Bool) → is_full (Some most) (one_asked functions clients round one) ≡ full → answer_length round < most
      → (answer_length (one_asked functions clients round one) < most → Needed most (one_asked functions clients round one) (first_asked functions clients (Some most) (one_asked functions clients round one) later))
      → Needed most round (one ∷ (if full then [] else first_asked functions clients (Some most) (one_asked functions clients round one) later))
  needed_next most round one later true full fewer further = needed_one most round one fewer
  needed_next most round one later false less fewer further =
      needed_more most round one (first_asked functions clients (Some most) (one_asked functions clients round one) later) fewer (further (leb-false most (answer_length (one_asked functions clients round one)) less))

  first_needed : (most : ℕ) (requests : List AnyRequest) (round : Round) → answer_length round < most → Needed most round (first_asked functions clients (Some most) round requests)
  first_needed most [] round fewer = subst (Needed most round) (sym (first_none (Some most) round)) (λ before request later is. absurd (let counts = ap length is ∙ length-append before (request ∷ later) in omega (arith, counts)))
  first_needed most (one ∷ later) round fewer =
      subst (Needed most round) (sym (first_step (Some most) round one later))
      (needed_next most round one later (is_full (Some most) (one_asked functions clients round one)) refl fewer (first_needed most later (one_asked functions clients round one)))

  module _ {D R : Type 0} (state : D → State) (old new : StoreView D R) (world : WorldState) (last : ℕ) where
    counted : (front : List AnyRequest) (result : Result Replies ℕ) → AnswersAllAsked functions state old new world clients last front result → IfOk result (λ replies. length replies.answers.items ≡ length front)
    counted front (Ok replies) is =
        sym (length-map replies.answers.items told_in) ∙ ap length (is.0.told ∙ closed_told (each_asked functions clients (first_round last world) front))
        ∙ each_counted (first_round last world) front ∙ omega arith
    counted front (Err number) is = tt

    pub first_answered : (requests : List AnyRequest) (result : Result Replies ℕ) → AnswersAllAsked functions state old new world clients last (first_asked functions clients (Some ANSWER_BYTES) (first_round last world) requests) result
        → AnswersFirstAsked functions state old new world clients last requests result
    first_answered requests result is =
        let front = first_asked functions clients (Some ANSWER_BYTES) (first_round last world) requests in
        let parts = first_parts ANSWER_BYTES (first_round last world) requests in
        record {
          front = front;
          rest = parts.0;
          parts = parts.1;
          enough = parts.2;
          needed = first_needed ANSWER_BYTES requests (first_round last world) (lit< tt);
          answers = is;
          count = counted front result is;
        }

    pub most_answered : (requests : List AnyRequest) (result : Result Replies ℕ) → AnswersFirstAsked functions state old new world clients last requests result → IfOk result (λ replies. length replies.answers.items ≤ length requests)
    most_answered requests (Ok replies) is =
        let counts = ap length is.parts ∙ length-append is.front is.rest in
        let count = is.count in
        omega (arith, counts, count)
    most_answered requests (Err number) is = tt

    some_front : (front rest : List AnyRequest) → front ++ rest ≢ [] → (rest ≢ [] → ANSWER_BYTES ≤ answer_length (each_asked functions clients (first_round last world) front)) → 0 < length front
    some_front [] [] some enough = absurd (some refl)
    some_front [] (request ∷ later) some enough = absurd (let over = enough (λ none. absurd (cc)) in omega (arith, over))
    some_front (request ∷ front) rest some enough = omega arith

    pub some_answered : (requests : List AnyRequest) (result : Result Replies ℕ) → requests ≢ [] → AnswersFirstAsked functions state old new world clients last requests result → IfOk result (λ replies. 0 < length replies.answers.items)
    some_answered requests (Ok replies) some is =
        let few = some_front is.front is.rest (λ none. some (is.parts ∙ none)) is.enough in
        let count = is.count in
        omega (arith, few, count)
    some_answered requests (Err number) some is = tt
