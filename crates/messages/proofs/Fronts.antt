-- The first of some requests.
--     one_answer, one_longer      a request has one answer more
--     first_all      without a bound they are all
--     IsAt, at_first      how far they have come
--     at_next, at_last, at_none_left, at_fault      the next of them; the last one; where there is no more; and where one is not answered
--     first_answered, most_answered, some_answered, by_world      what is said of the first of them
--     last_there, last_text      the last answer
use Rattle.std.proofs.Common.{◌≡◌, ◌≢◌, ℕ, ◌+◌, ◌-◌, ◌<◌, ◌≤◌, nat_le, ◌==◌, Bool, true, false, if◌then◌else◌, List, [], ◌∷◌, ◌++◌, length, map, take, drop, get_or, sum_by, is_some, option_map, slice_get, Option, None, Some, Result, Ok, Err, IfOk, refl, sym, ap, subst, ◌∙◌, inl, arith, lit<}
use Rattle.std.proofs.lemmas.Bool.{eq-eqb, leb-false, leb-true, ne_eqb}
use Rattle.std.proofs.lemmas.List.{append-nil, append_assoc, drop_all, drop_more, length-append, length-map, take_more}
use Rattle.std.proofs.lemmas.List.Sums.{fold-append, sum_by_push}
use Rattle.std.proofs.lemmas.Option.{slice_get-get_or, slice_get-map}
use Rattle.std.proofs.Math.Seq.{get_or-append_seam}
use Rattle.disk_trait.specs.Disk.{State}
use Rattle.plist_state.specs.State.{WorldState}
use Rattle.session_words.specs.declared.mode.Mode.TheVariants.{Current}
use Rattle.prevalence_store.specs.declared.failure.Unadded.{Unadded}
use Rattle.prevalence_store.specs.declared.failure.Unadded.TheVariants.{OutOfMemory, Refused}
use Rattle.messages.specs.declared.own.Own.TheVariants.{Clearing, Position}
use Rattle.messages.specs.declared.request.RequestAnswer.{RequestAnswer}
use Rattle.messages.specs.declared.request.Replies.{Replies}
use Rattle.messages.specs.declared.request.Request.{Request}
use Rattle.messages.specs.declared.request.TheConstants.{ANSWER_BYTES}
use Rattle.prevalence_store.specs.calls.ExecuteAll.{world_left_after, told_of}
use Rattle.prevalence_store.specs.calls.Store.{StoreView}
use Rattle.prevalence_store.specs.meaning.Acceptance.{accepts}
use Rattle.messages.specs.MessageAnswers.{Round, answer_in, answer_to_question, first_round, by_number, without_its_position, with_its_position, each_request, one_request, with_message, with_old, with_own, wrote_by}
use Rattle.messages.specs.MessageCalls.{AnswersRequests, RefusesOwn, RefusesRequest}
use Rattle.messages.specs.Fronts.{AnswersFirst, answer_length, first_of, is_full, is_none_left, room_left}
use Rattle.messages.specs.Position.{position_property}
use Rattle.messages.specs.Rounds.{IfRefused, told_in}
use Rattle.user_macros.specs.Functions.{Functions}

-- ---- one answer more

told_of_either : (b : Bool) (x y : Round) → x.told ≡ y.told → (if b then x else y).told ≡ y.told
told_of_either true x y same = same
told_of_either false x y same = refl

cleared_told : (round : Round) → (without_its_position round).told ≡ round.told
cleared_told round = told_of_either (is_some (position_property round.left)) (with_own Clearing round) round refl

closed_told : (round : Round) → (with_its_position round).told ≡ round.told
closed_told round = told_of_either round.wrote (with_own (Position round.last) round) round refl

pub one_longer : (round next : Round) (answer : List ℕ × Bool) → next.told ≡ round.told ++ answer ∷ [] → answer_length next ≡ answer_length round + length answer.0
one_longer round next answer told = ap (sum_by (λ (a : List ℕ × Bool). length a.0)) told ∙ sum_by_push (λ (a : List ℕ × Bool). length a.0) round.told answer

-- ---- a room

none_left_after : (most n : ℕ) (full : Bool) → nat_le most n ≡ full → (most - n == 0) ≡ full
none_left_after most n true full = let enough = leb-true most n full in eq-eqb (most - n) 0 (omega (arith, enough))
none_left_after most n false full = let less = leb-false most n full in ne_eqb (most - n) 0 (λ none. absurd (omega (arith, less, none)))

none_left_is : (most : Option ℕ) (round : Round) → is_none_left (room_left most (answer_length round)) ≡ is_full most round
none_left_is None round = refl
none_left_is (Some most) round = none_left_after most (answer_length round) (nat_le most (answer_length round)) refl

room_whole : (most : Option ℕ) → most ≡ room_left most 0
room_whole None = refl
room_whole (Some most) = ap Some (omega arith)

room_twice : (most : Option ℕ) (n m : ℕ) → room_left (room_left most n) m ≡ room_left most (n + m)
room_twice None n m = refl
room_twice (Some most) n m = ap Some (omega arith)

module _ (functions : Functions) where
  by_answer : (round : Round) (number : Option ℕ) (text : List ℕ) → (answer : List ℕ × Bool) × ((by_number functions round number text).told ≡ round.told ++ answer ∷ [])
  by_answer round None text =
      ((answer_to_question functions (without_its_position round).left text, false), ap (λ ts. ts ++ (answer_to_question functions (without_its_position round).left text, false) ∷ []) (cleared_told round))
  by_answer round (Some number) text = either (nat_le number round.last) where
    either : (b : Bool) → (answer : List ℕ × Bool) × ((if b then with_old round else with_message functions number text round).told ≡ round.told ++ answer ∷ [])
    either true = (_, refl)
    either false =
        let given = accepts functions (without_its_position round).left Current text in
        ((answer_in (world_left_after (without_its_position round).left given) (told_of given), wrote_by given), ap (λ ts. ts ++ (answer_in (world_left_after (without_its_position round).left given) (told_of given), wrote_by given) ∷ []) (cleared_told round))

  pub one_answer : (round : Round) (request : Request) → (answer : List ℕ × Bool) × ((one_request functions round request).told ≡ round.told ++ answer ∷ [])
  one_answer round request = by_answer round request.number request.text.now

  each_counted : (round : Round) (requests : List Request) → length (each_request functions round requests).told ≡ length round.told + length requests
  each_counted round [] = omega arith
  each_counted round (request ∷ later) =
      let one = one_answer round request in
      let here = ap length one.1 ∙ length-append round.told (one.0 ∷ []) in
      let rest = each_counted (one_request functions round request) later in
      omega (arith, here, rest)

  -- ---- the first of some requests

  first_none : (most : Option ℕ) (round : Round) → first_of functions most round [] ≡ []
  unfolding first_of
  first_none most round = refl

  first_step : (most : Option ℕ) (round : Round) (request : Request) (later : List Request)
      → first_of functions most round (request ∷ later) ≡ request ∷ (if is_full most (one_request functions round request) then [] else first_of functions most (one_request functions round request) later)
  unfolding first_of
  first_step most round request later = refl

  pub first_all : (round : Round) (requests : List Request) → first_of functions None round requests ≡ requests
  first_all round [] = first_none None round
  first_all round (request ∷ later) = first_step None round request later ∙ ap (λ rest. request ∷ rest) (first_all (one_request functions round request) later)

  -- ---- how far they have come

  -- So many of the requests were answered, and the first of them go on with the next one; this is left of the room.
  pub record IsAt (most : Option ℕ) (first : Round) (requests : List Request) (count : ℕ) (far : Round) (room : Option ℕ) : Type 0 where
    pub answered : far ≡ each_request functions first (take count requests)
    pub goes_on : first_of functions most first requests ≡ take count requests ++ first_of functions most far (drop count requests)
    pub room_is : room ≡ room_left most (answer_length far)

  pub at_first : (most : Option ℕ) (first : Round) (requests : List Request) → first.told ≡ [] → IsAt most first requests 0 first most
  at_first most first requests none =
      let empty : answer_length first ≡ 0 = ap (sum_by (λ (a : List ℕ × Bool). length a.0)) none in
      record { answered = refl; goes_on = refl; room_is = room_whole most ∙ ap (room_left most) (sym empty) }

  module _ (most : Option ℕ) (first : Round) (requests : List Request) (count : ℕ) (far : Round) (room : Option ℕ) (is : IsAt most first requests count far room) where
    pub at_none_left : length requests ≤ count → far ≡ each_request functions first (first_of functions most first requests)
    at_none_left over =
        let all = is.goes_on ∙ ap (λ rest. take count requests ++ first_of functions most far rest) (drop_all count requests over) ∙ ap (λ rest. take count requests ++ rest) (first_none most far) ∙ append-nil (take count requests) in
        is.answered ∙ ap (each_request functions first) (sym all)

    module _ (one : Request) (within : count < length requests) where
      abbrev next_of : Request
      next_of = get_or requests count one

      parts : first_of functions most first requests
          ≡ take count requests ++ next_of ∷ (if is_full most (one_request functions far next_of) then [] else first_of functions most (one_request functions far next_of) (drop (count + 1) requests))
      parts =
          is.goes_on ∙ ap (λ rest. take count requests ++ first_of functions most far rest) (drop_more requests count one within)
          ∙ ap (λ rest. take count requests ++ rest) (first_step most far next_of (drop (count + 1) requests))

      -- the next one is not answered
      pub at_fault : (cause : Unadded) → IfRefused cause (RefusesRequest functions far next_of) → IfRefused cause (RefusesOwn functions first (first_of functions most first requests))
      at_fault (Refused number) refused = inl (take count requests, next_of, _, parts, subst (λ (r : Round). RefusesRequest functions r next_of number) is.answered refused)
      at_fault OutOfMemory refused = tt

      module _ (next : Round) (next_is : next ≡ one_request functions far next_of) where
        one_more : next ≡ each_request functions first (take (count + 1) requests)
        one_more =
            next_is ∙ ap (λ r. one_request functions r next_of) is.answered
            ∙ sym (fold-append (λ r request. one_request functions r request) first (take count requests) (next_of ∷ []))
            ∙ ap (each_request functions first) (sym (take_more requests count one within))

        is_last : is_full most next ≡ true → first_of functions most first requests ≡ take (count + 1) requests
        is_last full =
            parts
            ∙ ap (λ (b : Bool). take count requests ++ next_of ∷ (if b then [] else first_of functions most (one_request functions far next_of) (drop (count + 1) requests))) (ap (is_full most) (sym next_is) ∙ full)
            ∙ sym (take_more requests count one within)

        goes_further : is_full most next ≡ false → first_of functions most first requests ≡ take (count + 1) requests ++ first_of functions most next (drop (count + 1) requests)
        goes_further more =
            parts
            ∙ ap (λ (b : Bool). take count requests ++ next_of ∷ (if b then [] else first_of functions most (one_request functions far next_of) (drop (count + 1) requests))) (ap (is_full most) (sym next_is) ∙ more)
            ∙ sym (append_assoc (take count requests) (next_of ∷ []) (first_of functions most (one_request functions far next_of) (drop (count + 1) requests)))
            ∙ (λ i. sym (take_more requests count one within) i ++ first_of functions most (sym next_is i) (drop (count + 1) requests))

        module _ (bytes : ℕ) (left : Option ℕ) (bytes_is : (told : List (List ℕ × Bool)) (answer : List ℕ × Bool) → next.told ≡ told ++ answer ∷ [] → bytes ≡ length answer.0) (left_is : left ≡ room_left room bytes) where
          room_next : left ≡ room_left most (answer_length next)
          room_next =
              let answer = one_answer far next_of in
              let told : next.told ≡ far.told ++ answer.0 ∷ [] = ap (λ (r : Round). r.told) next_is ∙ answer.1 in
              left_is ∙ ap (room_left room) (bytes_is far.told answer.0 told) ∙ ap (λ r. room_left r (length answer.0.0)) is.room_is ∙ room_twice most (answer_length far) (length answer.0.0)
              ∙ ap (room_left most) (sym (one_longer far next answer.0 told))

          full_is : is_none_left left ≡ is_full most next
          full_is = ap is_none_left room_next ∙ none_left_is most next

          pub at_next : is_none_left left ≡ false → IsAt most first requests (count + 1) next left
          at_next more = record { answered = one_more; goes_on = goes_further (sym full_is ∙ more); room_is = room_next }

          pub at_last : is_none_left left ≡ true → next ≡ each_request functions first (first_of functions most first requests)
          at_last none = one_more ∙ ap (each_request functions first) (sym (is_last (sym full_is ∙ none)))

  -- ---- what is said of the first of them

  -- the first of some requests: these, and what comes after them
  abbrev Parted : ℕ → Round → List Request → List Request → Type 0
  Parted most round requests front =
      (rest : List Request) × (requests ≡ front ++ rest) × (rest ≢ [] → most ≤ answer_length (each_request functions round front))

  parted_next : (most : ℕ) (round : Round) (request : Request) (later : List Request) (full : Bool) → is_full (Some most) (one_request functions round request) ≡ full
      → Parted most (one_request functions round request) later (first_of functions (Some most) (one_request functions round request) later)
      → Parted most round (request ∷ later) (request ∷ (if full then [] else first_of functions (Some most) (one_request functions round request) later))
  parted_next most round request later true full further = (later, refl, λ some. leb-true most (answer_length (one_request functions round request)) full)
  parted_next most round request later false more further = (further.0, ap (λ rest. request ∷ rest) further.1, further.2)

  first_parts : (most : ℕ) (round : Round) (requests : List Request) → Parted most round requests (first_of functions (Some most) round requests)
  first_parts most round [] = subst (Parted most round []) (sym (first_none (Some most) round)) ([], refl, λ some. absurd (some refl))
  first_parts most round (request ∷ later) =
      subst (Parted most round (request ∷ later)) (sym (first_step (Some most) round request later))
      (parted_next most round request later (is_full (Some most) (one_request functions round request)) refl (first_parts most (one_request functions round request) later))

  -- before each of these requests the answers have fewer bytes
  abbrev Needed : ℕ → Round → List Request → Type 0
  Needed most round front = (before : List Request) (request : Request) (later : List Request) → front ≡ before ++ request ∷ later → answer_length (each_request functions round before) < most

  needed_one : (most : ℕ) (round : Round) (one : Request) → answer_length round < most → Needed most round (one ∷ [])
  needed_one most round one fewer [] request later is = fewer
  needed_one most round one fewer (other ∷ before) request later is =
      absurd (let counts = ap length is ∙ length-append (other ∷ before) (request ∷ later) in omega (arith, counts))

  needed_more : (most : ℕ) (round : Round) (one : Request) (front : List Request) → answer_length round < most → Needed most (one_request functions round one) front → Needed most round (one ∷ front)
  needed_more most round one front fewer further [] request later is = fewer
  needed_more most round one front fewer further (other ∷ before) request later is =
      let same : one ≡ other = cc in
      let rest : front ≡ before ++ request ∷ later = cc in
      subst (λ (q : Request). answer_length (each_request functions (one_request functions round q) before) < most) same (further before request later rest)

  needed_next : (most : ℕ) (round : Round) (one : Request) (later : List Request) (full : Bool) → is_full (Some most) (one_request functions round one) ≡ full → answer_length round < most
      → (answer_length (one_request functions round one) < most → Needed most (one_request functions round one) (first_of functions (Some most) (one_request functions round one) later))
      → Needed most round (one ∷ (if full then [] else first_of functions (Some most) (one_request functions round one) later))
  needed_next most round one later true full fewer further = needed_one most round one fewer
  needed_next most round one later false less fewer further =
      needed_more most round one (first_of functions (Some most) (one_request functions round one) later) fewer (further (leb-false most (answer_length (one_request functions round one)) less))

  first_needed : (most : ℕ) (requests : List Request) (round : Round) → answer_length round < most → Needed most round (first_of functions (Some most) round requests)
  first_needed most [] round fewer = subst (Needed most round) (sym (first_none (Some most) round)) (λ before request later is. absurd (let counts = ap length is ∙ length-append before (request ∷ later) in omega (arith, counts)))
  first_needed most (one ∷ later) round fewer =
      subst (Needed most round) (sym (first_step (Some most) round one later))
      (needed_next most round one later (is_full (Some most) (one_request functions round one)) refl fewer (first_needed most later (one_request functions round one)))

  module _ {D R : Type 0} (state : D → State) (old new : StoreView D R) (world : WorldState) (last : ℕ) where
    counted : (front : List Request) (result : Result Replies ℕ) → AnswersRequests functions state old new world last front result → IfOk result (λ replies. length replies.answers.items ≡ length front)
    counted front (Ok replies) is =
        sym (length-map replies.answers.items told_in) ∙ ap length (is.told ∙ closed_told (each_request functions (first_round last world) front))
        ∙ each_counted (first_round last world) front ∙ omega arith
    counted front (Err number) is = tt

    pub first_answered : (requests : List Request) (result : Result Replies ℕ) → AnswersRequests functions state old new world last (first_of functions (Some ANSWER_BYTES) (first_round last world) requests) result
        → AnswersFirst functions state old new world last requests result
    first_answered requests result is =
        let front = first_of functions (Some ANSWER_BYTES) (first_round last world) requests in
        let parts = first_parts ANSWER_BYTES (first_round last world) requests in
        record {
          front = front;
          rest = parts.0;
          parts = parts.1;
          enough = parts.2;
          needed = first_needed ANSWER_BYTES requests (first_round last world) (lit< tt);
          answers = is;
          count = counted front result is;
        }

    pub most_answered : (requests : List Request) (result : Result Replies ℕ) → AnswersFirst functions state old new world last requests result → IfOk result (λ replies. length replies.answers.items ≤ length requests)
    most_answered requests (Ok replies) is =
        let counts = ap length is.parts ∙ length-append is.front is.rest in
        let count = is.count in
        omega (arith, counts, count)
    most_answered requests (Err number) is = tt

    some_front : (front rest : List Request) → front ++ rest ≢ [] → (rest ≢ [] → ANSWER_BYTES ≤ answer_length (each_request functions (first_round last world) front)) → 0 < length front
    some_front [] [] some enough = absurd (some refl)
    some_front [] (request ∷ later) some enough = absurd (let over = enough (λ none. absurd (cc)) in omega (arith, over))
    some_front (request ∷ front) rest some enough = omega arith

    pub some_answered : (requests : List Request) (result : Result Replies ℕ) → requests ≢ [] → AnswersFirst functions state old new world last requests result → IfOk result (λ replies. 0 < length replies.answers.items)
    some_answered requests (Ok replies) some is =
        let few = some_front is.front is.rest (λ none. some (is.parts ∙ none)) is.enough in
        let count = is.count in
        omega (arith, few, count)
    some_answered requests (Err number) some is = tt

-- of a store with a world, or with none
pub by_world : (P : Replies → Type 0) (known : Option WorldState) (number : ℕ) (result : Result Replies ℕ) → (known ≡ None → result ≡ Err number) → ((world : WorldState) → known ≡ Some world → IfOk result P) → IfOk result P
by_world P None number result none some = subst (λ r. IfOk r P) (sym (none refl)) tt
by_world P (Some world) number result none some = some world refl

-- ---- the last answer

abbrev length_of : Option (List ℕ × Bool) → ℕ
length_of None = 0
length_of (Some answer) = length answer.0

abbrev text_of : Option (List ℕ × Bool) → List ℕ
text_of None = []
text_of (Some answer) = answer.0

module _ (items : List RequestAnswer) (told : List (List ℕ × Bool)) (answer : List ℕ × Bool) (is : map told_in items ≡ told ++ answer ∷ []) where
  last_told : option_map told_in (slice_get items (length items - 1)) ≡ Some answer
  last_told =
      let more = length-append told (answer ∷ []) in
      let counts = sym (length-map items told_in) ∙ ap length is ∙ more in
      let place : length items - 1 ≡ length told = omega (arith, counts) in
      sym (slice_get-map told_in items (length items - 1)) ∙ (λ i. slice_get (is i) (place i))
      ∙ slice_get-get_or (told ++ answer ∷ []) (length told) answer (omega (arith, more)) ∙ ap Some (get_or-append_seam told answer [] answer)

  pub last_there : (last : RequestAnswer) → Some last ≡ slice_get items (length items - 1) → length last.text.items ≡ length answer.0
  last_there last found = ap length_of (ap (option_map told_in) found ∙ last_told)

  pub last_text : (last : RequestAnswer) → Some last ≡ slice_get items (length items - 1) → last.text.items ≡ answer.0
  last_text last found = ap text_of (ap (option_map told_in) found ∙ last_told)
