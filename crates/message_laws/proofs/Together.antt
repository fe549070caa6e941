-- Requests after one another, in one round or in batches.
--     one_near, each_near      the next requests make the same of two rounds that are near
--     cleared_left, cleared_last, cleared_tidy      a round without its position
--     cleared_silent, one_silent, one_least, nothing_done      a round in which no message wrote, and the last number
--     StandsAt, closed_stands, batches_stand      batches, beside one round of all their requests
use Rattle.std.proofs.Common.{◌≡◌, ℕ, Bool, true, false, ◌||◌, if◌then◌else◌, List, [], ◌∷◌, ◌++◌, Option, None, Some, is_some, unwrap_or, Result, Ok, Err, pos, length, codes, refl, sym, ap, subst, ◌∙◌, append_assoc, length-append, arith}
use Rattle.std.specs.Prelude.{◌≤◌, ◌^◌, nat_le, nat_lt}
use Rattle.std.specs.Option.{option_and_then}
use Rattle.std.proofs.lemmas.Bool.{leb-false}
use Rattle.std.proofs.lemmas.List.{append-nil}
use Rattle.std.proofs.lemmas.List.Sums.{fold-append}
use Rattle.lisp_object.specs.Object.{Object, integer}
use Rattle.plist_state.specs.State.{WorldState}
use Rattle.plist_state.specs.Sound.{IsSoundWorldState}
use Rattle.messages.specs.declared.request.Request.{Request}
use Rattle.messages.specs.declared.request.TheConstants.{OLD_NUMBER}
use Rattle.session_words.specs.declared.mode.Mode.{Mode}
use Rattle.session_words.specs.declared.mode.Mode.TheVariants.{Current}
use Rattle.prevalence_store.specs.calls.ExecuteAll.{logged_entries, world_left_after, told_of}
use Rattle.prevalence_store.specs.meaning.Acceptance.{Acceptance, accepts, after, records_of}
use Rattle.messages.specs.MessageAnswers.{Round, answer_in, answer_to_question, first_round, by_number, without_its_position, with_its_position, each_request, one_request, refusal_text, with_asked, with_message, with_old, wrote_by}
use Rattle.messages.specs.MessageCalls.{left_after}
use Rattle.messages.specs.Position.{number_of_object, position, position_property, position_symbol, with_position, without_position}
use Rattle.messages.proofs.Positions.{position_out, position_put}
use Rattle.prevalence_store.proofs.steps.Grouping.{one_replayed}
use Rattle.user_macros.specs.Functions.{Functions}
use Rattle.message_laws.specs.Batches.{IsAlike, BatchProgress, all_requests, at_first, in_batches, one_batch, with_batch}
use Rattle.message_laws.specs.NearRounds.{IsTidy, Near}
use Rattle.message_laws.proofs.Tidy.{out_of_none, out_twice, sound_tidy, tidy_put, tidy_removed}
use Rattle.message_laws.proofs.TidyForms.{given_tidy}

-- ---- without the position

tidy_out : (w : WorldState) → IsTidy w.properties → IsTidy (without_position w).properties
tidy_out w tidy = tidy_removed w position_symbol position_symbol tidy

-- one of two rounds
left_of : (b : Bool) (x y : Round) (w : WorldState) → x.left ≡ w → (b ≡ false → y.left ≡ w) → (if b then x else y).left ≡ w
left_of true x y w first second = first
left_of false x y w first second = second refl

told_of_either : (b : Bool) (x y : Round) → x.told ≡ y.told → (if b then x else y).told ≡ y.told
told_of_either true x y same = same
told_of_either false x y same = refl

last_of : (b : Bool) (x y : Round) → x.last ≡ y.last → (if b then x else y).last ≡ y.last
last_of true x y same = same
last_of false x y same = refl

wrote_of : (b : Bool) (x y : Round) → x.wrote ≡ y.wrote → (if b then x else y).wrote ≡ y.wrote
wrote_of true x y same = same
wrote_of false x y same = refl

absent : (o : Option Object) → is_some o ≡ false → o ≡ None
absent None none = refl
absent (Some x) none = absurd (cc)

pub cleared_left : (r : Round) → IsTidy r.left.properties → (without_its_position r).left ≡ without_position r.left
cleared_left r tidy =
    left_of (is_some (position_property r.left)) _ r (without_position r.left) refl
    (λ none. sym (out_of_none r.left position_symbol position_symbol tidy (absent (position_property r.left) none)))

cleared_told : (r : Round) → (without_its_position r).told ≡ r.told
cleared_told r = told_of_either (is_some (position_property r.left)) _ r refl

pub cleared_last : (r : Round) → (without_its_position r).last ≡ r.last
cleared_last r = last_of (is_some (position_property r.left)) _ r refl

cleared_wrote : (r : Round) → (without_its_position r).wrote ≡ r.wrote
cleared_wrote r = wrote_of (is_some (position_property r.left)) _ r refl

pub cleared_tidy : (r : Round) → IsTidy r.left.properties → IsTidy (without_its_position r).left.properties
cleared_tidy r tidy = subst (λ (w : WorldState). IsTidy w.properties) (sym (cleared_left r tidy)) (tidy_out r.left tidy)

-- ---- two rounds

-- so many answers more, the same in both, and then they are near again
pub record More (n : ℕ) (a b later other : Round) : Type 0 where
  pub told : List (List ℕ × Bool)
  pub count : length told ≡ n
  pub here : later.told ≡ a.told ++ told
  pub there : other.told ≡ b.told ++ told
  pub near : Near later other

pub neither : (x y : Bool) → (x || y) ≡ false → (x ≡ false) × (y ≡ false)
neither true y none = absurd (cc)
neither false y none = (refl, none)

module _ (functions : Functions) where
  module _ (a b : Round) (near : Near a b) where
    ready : (without_its_position a).left ≡ (without_its_position b).left
    ready = cleared_left a near.tidy ∙ near.same ∙ sym (cleared_left b near.other_tidy)

    asked_more : (text : List ℕ) → More 1 a b (with_asked functions text a) (with_asked functions text b)
    asked_more text = record {
      told = (answer_to_question functions (without_its_position a).left text, false) ∷ [];
      count = refl;
      here = ap (λ ts. ts ++ (answer_to_question functions (without_its_position a).left text, false) ∷ []) (cleared_told a);
      there = λ i. cleared_told b i ++ (answer_to_question functions (sym ready i) text, false) ∷ [];
      near = record {
        last = cleared_last a ∙ near.last ∙ sym (cleared_last b);
        tidy = cleared_tidy a near.tidy;
        other_tidy = cleared_tidy b near.other_tidy;
        same = ap without_position ready;
      };
    }

    abbrev given_by : List ℕ → WorldState → Result Acceptance ℕ
    given_by text w = accepts functions w Current text

    abbrev answer_by : List ℕ → WorldState → List ℕ × Bool
    answer_by text w = (answer_in (world_left_after w (given_by text w)) (told_of (given_by text w)), wrote_by (given_by text w))

    message_more : (number : ℕ) (text : List ℕ) → More 1 a b (with_message functions number text a) (with_message functions number text b)
    message_more number text = record {
      told = answer_by text (without_its_position a).left ∷ [];
      count = refl;
      here = ap (λ ts. ts ++ answer_by text (without_its_position a).left ∷ []) (cleared_told a);
      there = λ i. cleared_told b i ++ answer_by text (sym ready i) ∷ [];
      near = record {
        last = refl;
        tidy = given_tidy functions (without_its_position a).left (cleared_tidy a near.tidy) Current text;
        other_tidy = given_tidy functions (without_its_position b).left (cleared_tidy b near.other_tidy) Current text;
        same = λ i. without_position (world_left_after (ready i) (given_by text (ready i)));
      };
    }

    old_more : More 1 a b (with_old a) (with_old b)
    old_more = record {
      told = (refusal_text OLD_NUMBER (codes "OLD-NUMBER"), false) ∷ [];
      count = refl;
      here = refl;
      there = refl;
      near = record { last = near.last; tidy = near.tidy; other_tidy = near.other_tidy; same = near.same };
    }

    pub one_near : (number : Option ℕ) (text : List ℕ) → More 1 a b (by_number functions a number text) (by_number functions b number text)
    one_near None text = asked_more text
    one_near (Some number) text =
        subst (λ (x : Bool). More 1 a b (by_number functions a (Some number) text) (if x then with_old b else with_message functions number text b)) (ap (nat_le number) near.last)
        (both (nat_le number a.last))
      where
        both : (x : Bool) → More 1 a b (if x then with_old a else with_message functions number text a) (if x then with_old b else with_message functions number text b)
        both true = old_more
        both false = message_more number text

  pub each_near : (requests : List Request) (a b : Round) → Near a b → More (length requests) a b (each_request functions a requests) (each_request functions b requests)
  each_near [] a b near = record { told = []; count = refl; here = sym (append-nil a.told); there = sym (append-nil b.told); near = near }
  each_near (request ∷ requests) a b near =
      let one = one_near a b near request.number request.text.now in
      let rest = each_near requests (one_request functions a request) (one_request functions b request) one.near in
      record {
        told = one.told ++ rest.told;
        count = omega (arith, length-append one.told rest.told, one.count, rest.count);
        here = rest.here ∙ ap (λ ts. ts ++ rest.told) one.here ∙ append_assoc a.told one.told rest.told;
        there = rest.there ∙ ap (λ ts. ts ++ rest.told) one.there ∙ append_assoc b.told one.told rest.told;
        near = rest.near;
      }

  -- ---- a round in which no message wrote

  -- it has the world before it, but for the position
  abbrev pub IsSilent : WorldState → Round → Type 0
  IsSilent w r = r.wrote ≡ false → without_position r.left ≡ without_position w

  pub nothing_done : (mode : Mode) (w : WorldState) (given : Result Acceptance ℕ) → after functions w (logged_entries mode given) ≡ Some (world_left_after w given) → wrote_by given ≡ false → world_left_after w given ≡ w
  nothing_done mode w (Ok given) again none =
      let here : Some w ≡ Some given.world = sym (ap (λ b. after functions w (records_of b mode given.text)) none) ∙ again in
      sym (ap (λ o. unwrap_or o w) here)
  nothing_done mode w (Err number) again none = refl

  module _ (w : WorldState) (r : Round) (tidy : IsTidy r.left.properties) (silent : IsSilent w r) where
    pub cleared_silent : IsSilent w (without_its_position r)
    cleared_silent none =
        ap without_position (cleared_left r tidy) ∙ out_twice r.left position_symbol position_symbol tidy ∙ silent (sym (cleared_wrote r) ∙ none)

    message_silent : (number : ℕ) (text : List ℕ) → IsSilent w (with_message functions number text r)
    message_silent number text none =
        let parts = neither (without_its_position r).wrote (wrote_by (accepts functions (without_its_position r).left Current text)) none in
        ap without_position (nothing_done Current (without_its_position r).left (accepts functions (without_its_position r).left Current text) (one_replayed functions Current (without_its_position r).left text).again parts.1)
        ∙ cleared_silent parts.0

    pub one_silent : (number : Option ℕ) (text : List ℕ) → IsSilent w (by_number functions r number text)
    one_silent None text = cleared_silent
    one_silent (Some number) text =
        elim (nat_le number r.last) as (λ b. IsSilent w (if b then with_old r else with_message functions number text r)) [ true ↦ silent | false ↦ message_silent number text ]

  pub near_on : (a b c : Round) → Near a b → Near b c → Near a c
  near_on a b c first second = record { last = first.last ∙ second.last; tidy = first.tidy; other_tidy = second.other_tidy; same = first.same ∙ second.same }

  pub near_itself : (r : Round) → IsTidy r.left.properties → Near r r
  near_itself r tidy = record { last = refl; tidy = tidy; other_tidy = tidy; same = refl }

  each_silent : (requests : List Request) (w : WorldState) (r : Round) → IsTidy r.left.properties → IsSilent w r → IsSilent w (each_request functions r requests)
  each_silent [] w r tidy silent = silent
  each_silent (request ∷ requests) w r tidy silent =
      each_silent requests w (one_request functions r request) (one_near r r (near_itself r tidy) request.number request.text.now).near.tidy
      (one_silent w r tidy silent request.number request.text.now)

  -- ---- a batch that is closed

  -- a round that begins with a last number goes on after it
  told_position : (n : ℕ) (w : WorldState) → unwrap_or (position (with_position n w)) 0 ≤ n
  told_position n w = subst (λ o. unwrap_or (option_and_then number_of_object o) 0 ≤ n) (sym (position_put n w)) (by (nat_lt n (2 ^ 64))) where
    by : (b : Bool) → unwrap_or (if b then Some n else None) 0 ≤ n
    by true = omega arith
    by false = omega arith

  begun_at : (n : ℕ) (w : WorldState) → (first_round n (with_position n w)).last ≡ n
  begun_at n w = omega (arith, told_position n w)

  begun_again : (last n : ℕ) (w : WorldState) → (first_round last w).last ≤ n → (first_round n w).last ≡ n
  begun_again last n w least = omega (arith, least)

  pub one_least : (number : Option ℕ) (text : List ℕ) (r : Round) → r.last ≤ (by_number functions r number text).last
  one_least None text r = omega (arith, cleared_last r)
  one_least (Some number) text r =
      elim (nat_le number r.last) as (λ b. nat_le number r.last ≡ b → r.last ≤ (if b then with_old r else with_message functions number text r).last) [
        | true ↦ λ _. omega arith
        | false ↦ λ over. omega (arith, leb-false number r.last over)
      ] refl

  each_least : (requests : List Request) (r : Round) → r.last ≤ (each_request functions r requests).last
  each_least [] r = omega arith
  each_least (request ∷ requests) r = omega (arith, one_least request.number request.text.now r, each_least requests (one_request functions r request))

  record IsClosed (w : WorldState) (far r : Round) : Type 0 where
    near : Near far (first_round (with_its_position r).last (left_after (with_its_position r).wrote w (with_its_position r).left))
    told : (with_its_position r).told ≡ r.told
    raised : (first_round (with_its_position r).last (left_after (with_its_position r).wrote w (with_its_position r).left)).last ≡ (with_its_position r).last

  closed_near : (w : WorldState) (last : ℕ) (far r : Round) (wrote : Bool) → r.wrote ≡ wrote → IsTidy w.properties → IsSilent w r → (first_round last w).last ≤ r.last → Near far r → IsClosed w far r
  closed_near w last far r true is tidy silent least near = subst (IsClosed w far) (sym (λ i. record r { wrote = is i })) (record {
    near = record {
      last = near.last ∙ sym (begun_at r.last r.left);
      tidy = near.tidy;
      other_tidy = tidy_put r.left position_symbol position_symbol (integer (pos r.last)) near.other_tidy;
      same = near.same ∙ sym (position_out r.last r.left);
    };
    told = refl;
    raised = begun_at r.last r.left;
  })
  closed_near w last far r false is tidy silent least near = subst (IsClosed w far) (sym (λ i. record r { wrote = is i })) (record {
    near = record { last = near.last ∙ sym (begun_again last r.last w least); tidy = near.tidy; other_tidy = tidy; same = near.same ∙ silent is };
    told = refl;
    raised = begun_again last r.last w least;
  })

  -- ---- batches

  -- one round came as far as these batches
  pub record StandsAt (far : Round) (now : BatchProgress) : Type 0 where
    pub told : far.told ≡ now.told
    pub near : Near far (first_round now.last now.world)
    pub raised : (first_round now.last now.world).last ≡ now.last

  pub stands_first : (last : ℕ) (world : WorldState) → IsTidy world.properties → StandsAt (first_round last world) (at_first last world)
  stands_first last world tidy =
      let raised = begun_again last (first_round last world).last world (omega arith) in
      record {
        told = refl;
        near = subst (λ (n : ℕ). Near (first_round last world) (record { told = []; last = n; left = world; entries = []; wrote = false })) (sym raised) (near_itself (first_round last world) tidy);
        raised = raised;
      }

  -- what was answered beside it, and is closed, stands where it does
  pub closed_stands : (n : ℕ) (far later : Round) (now : BatchProgress) (r : Round) → StandsAt far now → More n far (first_round now.last now.world) later r → IsSilent now.world r
      → (first_round now.last now.world).last ≤ r.last → StandsAt later (with_batch now (with_its_position r))
  closed_stands n far later now r stands more silent least =
      let done = closed_near now.world now.last later r r.wrote refl stands.near.other_tidy silent least more.near in
      record {
        told = more.here ∙ (λ i. stands.told i ++ sym (done.told ∙ more.there) i);
        near = done.near;
        raised = done.raised;
      }

  pub one_stands : (batch : List Request) (far : Round) (now : BatchProgress) → StandsAt far now → StandsAt (each_request functions far batch) (one_batch functions now batch)
  one_stands batch far now stands =
      let before = first_round now.last now.world in
      closed_stands (length batch) far (each_request functions far batch) now (each_request functions before batch) stands (each_near batch far before stands.near)
      (each_silent batch now.world before stands.near.other_tidy (λ _. refl)) (each_least batch before)

  pub batches_stand : (batches : List (List Request)) (far : Round) (now : BatchProgress) → StandsAt far now → StandsAt (each_request functions far (all_requests batches)) (in_batches functions now batches)
  batches_stand [] far now stands = stands
  batches_stand (batch ∷ batches) far now stands =
      subst (λ (r : Round). StandsAt r (in_batches functions now (batch ∷ batches))) (sym (fold-append (λ (r : Round) request. one_request functions r request) far batch (all_requests batches)))
      (batches_stand batches (each_request functions far batch) (one_batch functions now batch) (one_stands batch far now stands))

  -- ---- however they are cut
  module _ (world : WorldState) (last : ℕ) (sound : IsSoundWorldState world) where
    pub stands : (batches : List (List Request)) → StandsAt (each_request functions (first_round last world) (all_requests batches)) (in_batches functions (at_first last world) batches)
    stands batches = batches_stand batches (first_round last world) (at_first last world) (stands_first last world (sound_tidy world sound))

    pub alike : (batches others : List (List Request)) → all_requests batches ≡ all_requests others → IsAlike (in_batches functions (at_first last world) batches) (in_batches functions (at_first last world) others)
    alike batches others same =
        let one = stands batches in
        let other = stands others in
        let rounds : each_request functions (first_round last world) (all_requests batches) ≡ each_request functions (first_round last world) (all_requests others) = ap (each_request functions (first_round last world)) same in
        record {
          told = sym one.told ∙ ap (λ (r : Round). r.told) rounds ∙ other.told;
          last = sym one.raised ∙ sym one.near.last ∙ ap (λ (r : Round). r.last) rounds ∙ other.near.last ∙ other.raised;
          world = sym one.near.same ∙ ap (λ (r : Round). without_position r.left) rounds ∙ other.near.same;
        }
