-- No message over the position wrote.
--     none_over      of rounds one after the other
use Rattle.std.proofs.Common.{◌≡◌, ℕ, ◌≤◌, Bool, true, false, ◌||◌, if◌then◌else◌, List, [], ◌∷◌, ◌++◌, Option, None, Some, is_some, pos, codes, refl, sym, ap, subst, ◌∙◌, arith}
use Rattle.std.specs.Prelude.{nat_le}
use Rattle.std.proofs.lemmas.Bool.{false≢true, leb-false}
use Rattle.std.proofs.lemmas.List.{append_cancel_left}
use Rattle.std.proofs.lemmas.List.Sums.{fold-append}
use Rattle.lisp_object.specs.Object.{integer}
use Rattle.session_words.specs.declared.mode.Mode.TheVariants.{Current}
use Rattle.messages.specs.declared.request.Request.{Request}
use Rattle.messages.specs.declared.request.TheConstants.{OLD_NUMBER}
use Rattle.prevalence_store.specs.calls.ExecuteAll.{world_left_after, told_of}
use Rattle.prevalence_store.specs.meaning.Acceptance.{accepts}
use Rattle.messages.specs.MessageAnswers.{Round, answer_in, round_after_requests, by_number, without_its_position, with_its_position, each_request, one_request, refusal_text, with_message, with_old, wrote_by}
use Rattle.messages.specs.Position.{position_property}
use Rattle.store_laws.specs.Rounds.{HasWritten, IsUpToPosition, Place, after_rounds, begun_from, with_round}
use Rattle.store_laws.proofs.RoundsDone.{rounds_append}
use Rattle.user_macros.specs.Functions.{Functions}

-- neither the last number nor that a message wrote is taken back
record Grows (before later : Round) : Type 0 where
  wrote : before.wrote ≡ true → later.wrote ≡ true
  last : before.last ≤ later.last

grown : (a b c : Round) → Grows a b → Grows b c → Grows a c
grown a b c first second = record { wrote = λ is. second.wrote (first.wrote is); last = omega (arith, first.last, second.last) }

-- the store's own forms say nothing of it
record IsSame (round same : Round) : Type 0 where
  told : same.told ≡ round.told
  wrote : same.wrote ≡ round.wrote
  last : same.last ≡ round.last

one_of : (b : Bool) (round x y : Round) → IsSame round x → IsSame round y → IsSame round (if b then x else y)
one_of true round x y first second = first
one_of false round x y first second = second

cleared_same : (round : Round) → IsSame round (without_its_position round)
cleared_same round = one_of (is_some (position_property round.left)) round _ round (record { told = refl; wrote = refl; last = refl }) (record { told = refl; wrote = refl; last = refl })

closed_same : (round : Round) → IsSame round (with_its_position round)
closed_same round = one_of round.wrote round _ round (record { told = refl; wrote = refl; last = refl }) (record { told = refl; wrote = refl; last = refl })

or_true : (b c : Bool) → c ≡ true → (b || c) ≡ true
or_true true c is = refl
or_true false c is = is

-- the last of what was told
last_told : (told : List (List ℕ × Bool)) (one other : List ℕ × Bool) → told ++ one ∷ [] ≡ told ++ other ∷ [] → one ≡ other
last_told told one other same = let last : one ∷ [] ≡ other ∷ [] = append_cancel_left told _ _ same in cc

last_wrote : (told : List (List ℕ × Bool)) (one other : List ℕ) (wrote : Bool) → told ++ (one, wrote) ∷ [] ≡ told ++ (other, true) ∷ [] → wrote ≡ true
last_wrote told one other wrote same = ap (λ (p : List ℕ × Bool). p.1) (last_told told (one, wrote) (other, true) same)

module _ (functions : Functions) where
  grows_one : (number : Option ℕ) (text : List ℕ) (round : Round) → Grows round (by_number functions round number text)
  grows_one None text round =
      let same = cleared_same round in
      record { wrote = λ is. same.wrote ∙ is; last = omega (arith, same.last) }
  grows_one (Some number) text round = by (nat_le number round.last) refl where
    by : (b : Bool) → nat_le number round.last ≡ b → Grows round (if b then with_old round else with_message functions number text round)
    by true is = record { wrote = λ before. before; last = omega arith }
    by false is = record {
      wrote = λ before. ap (λ b. b || wrote_by (accepts functions (without_its_position round).left Current text)) ((cleared_same round).wrote ∙ before);
      last = omega (arith, leb-false number round.last is);
    }

  grows_all : (requests : List Request) (round : Round) → Grows round (each_request functions round requests)
  grows_all [] round = record { wrote = λ before. before; last = omega arith }
  grows_all (request ∷ requests) round =
      grown round (one_request functions round request) (each_request functions (one_request functions round request) requests)
      (grows_one request.number request.text.now round) (grows_all requests (one_request functions round request))

  -- ---- a message that wrote

  abbrev Counts : Round → ℕ → Type 0
  Counts round number = (round.wrote ≡ true) × (number ≤ round.last)

  counts_one : (number : ℕ) (text told : List ℕ) (round : Round) → (by_number functions round (Some number) text).told ≡ round.told ++ (told, true) ∷ [] → Counts (by_number functions round (Some number) text) number
  counts_one number text told round said = by (nat_le number round.last) said where
    given_wrote : Bool
    given_wrote = wrote_by (accepts functions (without_its_position round).left Current text)

    answer : List ℕ
    answer = answer_in (world_left_after (without_its_position round).left (accepts functions (without_its_position round).left Current text)) (told_of (accepts functions (without_its_position round).left Current text))

    by : (b : Bool) → (if b then with_old round else with_message functions number text round).told ≡ round.told ++ (told, true) ∷ [] → Counts (if b then with_old round else with_message functions number text round) number
    by true is = absurd (false≢true (last_wrote round.told (refusal_text OLD_NUMBER (codes "OLD-NUMBER")) told false is))
    by false is =
        let wrote = last_wrote round.told answer told given_wrote (ap (λ before. before ++ (answer, given_wrote) ∷ []) (sym (cleared_same round).told) ∙ is) in
        (or_true (without_its_position round).wrote given_wrote wrote, omega arith)

  counts_request : (request : Request) (number : ℕ) → request.number ≡ Some number → (told : List ℕ) (round : Round) → (one_request functions round request).told ≡ round.told ++ (told, true) ∷ []
      → Counts (one_request functions round request) number
  counts_request request number is told round said =
      subst (λ n. Counts (by_number functions round n request.text.now) number) (sym is)
      (counts_one number request.text.now told round (subst (λ n. (by_number functions round n request.text.now).told ≡ round.told ++ (told, true) ∷ []) is said))

  counts_later : (a b : Round) (number : ℕ) → Grows a b → Counts a number → Counts b number
  counts_later a b number grows counts = (grows.wrote counts.0, omega (arith, grows.last, counts.1))

  counts_all : (first : Round) (before more : List Request) (request : Request) (number : ℕ) → Counts (one_request functions (each_request functions first before) request) number
      → Counts (each_request functions first (before ++ request ∷ more)) number
  counts_all first before more request number counts =
      let here = one_request functions (each_request functions first before) request in
      subst (λ round. Counts round number) (sym (fold-append (λ far request. one_request functions far request) first before (request ∷ more)))
      (counts_later here (each_request functions here more) number (grows_all more here) counts)

  -- ---- rounds

  -- it is not over the position, and will not be
  record Covers (place : Place) (number : ℕ) : Type 0 where
    position : IsUpToPosition place.position number
    last : number ≤ place.last

  covers : (place : Place) (round : Round) (number : ℕ) → number ≤ round.last → (round.wrote ≡ false → IsUpToPosition place.position number) → Covers (with_round place round) number
  covers place round number last else_before = by round.wrote refl where
    by : (wrote : Bool) → round.wrote ≡ wrote → Covers (with_round place round) number
    by true is = record { position = (round.last, ap (λ b. if b then Some (integer (pos round.last)) else place.position) is, last); last = last }
    by false is =
        let known = else_before is in
        record { position = (known.0, ap (λ b. if b then Some (integer (pos round.last)) else place.position) is ∙ known.1, known.2); last = last }

  covers_round : (place : Place) (requests : List Request) (number : ℕ) → Covers place number → Covers (with_round place (round_after_requests functions (begun_from place) requests)) number
  covers_round place requests number known =
      covers place (round_after_requests functions (begun_from place) requests) number
      (omega (arith, known.last, (grows_all requests (begun_from place)).last, (closed_same (each_request functions (begun_from place) requests)).last))
      (λ _. known.position)

  covers_later : (rounds : List (List Request)) (place : Place) (number : ℕ) → Covers place number → Covers (after_rounds functions place rounds) number
  covers_later [] place number known = known
  covers_later (requests ∷ rounds) place number known =
      covers_later rounds (with_round place (round_after_requests functions (begun_from place) requests)) number (covers_round place requests number known)

  covers_first : (place : Place) (requests : List Request) (number : ℕ) → Counts (each_request functions (begun_from place) requests) number
      → Covers (with_round place (round_after_requests functions (begun_from place) requests)) number
  covers_first place requests number counts =
      let same = closed_same (each_request functions (begun_from place) requests) in
      covers place (round_after_requests functions (begun_from place) requests) number (omega (arith, counts.1, same.last))
      (λ none. absurd (false≢true (sym none ∙ same.wrote ∙ counts.0)))

  pub none_over : (first : Place) (rounds : List (List Request)) (number : ℕ) → HasWritten functions first rounds number → IsUpToPosition (after_rounds functions first rounds).position number
  none_over first rounds number written =
      let place = after_rounds functions first written.earlier in
      let round = written.before ++ written.request ∷ written.more in
      let counts = counts_request written.request number written.number_is written.text written.far written.wrote in
      let here = subst (λ far. Counts (one_request functions far written.request) number) written.far_is counts in
      let all = covers_first place round number (counts_all (begun_from place) written.before written.more written.request number here) in
      let after_all = covers_later written.later (with_round place (round_after_requests functions (begun_from place) round)) number all in
      subst (λ far. IsUpToPosition far.position number) (sym (ap (after_rounds functions first) written.among ∙ rounds_append functions first written.earlier (round ∷ written.later))) after_all.position
