-- What is asked, in one round or in batches: as proofs/Together.antt of message_laws, with messages with a name.
--     named_more, asked_near, each_near      the next of it makes the same of two rounds that are near
--     named_last, named_least      a message with a name leaves the last number
--     asked_stands      a batch of it, beside one round of all
use Rattle.std.proofs.Common.{◌≡◌, ℕ, ◌+◌, ◌≤◌, ◌||◌, Bool, true, false, if◌then◌else◌, List, [], ◌∷◌, ◌++◌, length, nat_le, Option, None, Some, Result, Ok, Err, codes, refl, sym, ap, ◌∙◌, append_assoc, length-append, arith}
use Rattle.std.proofs.lemmas.List.{append-nil}
use Rattle.client_table.specs.Entries.{admission_text, client_count, entry, entry_property, leaving_text}
use Rattle.client_table.specs.Laws.{AreAnsweredAlike}
use Rattle.client_table.specs.Named.{all_answered, by_admission, by_client, by_later, by_name, by_no_entry, by_standing, client_standing, each_asked, one_asked, with_kept, without_client}
use Rattle.client_table.specs.Names.{form_in, is_client_name, client_name_in}
use Rattle.client_table.specs.declared.asked.AnyRequest.{AnyRequest}
use Rattle.client_table.specs.declared.asked.AnyRequest.TheVariants as asked
use Rattle.client_table.specs.declared.asked.TheConstants.{NO_FRAME, NO_ROOM}
use Rattle.client_table.specs.declared.entry.Standing.{Standing}
use Rattle.client_table.specs.declared.entry.Standing.TheVariants.{New, NoEntry, Old, Other, Last, Later}
use Rattle.client_table.proofs.NamedNear.{named_near}
use Rattle.message_laws.specs.Batches.{BatchProgress, with_batch}
use Rattle.message_laws.specs.NearRounds.{IsTidy, Near}
use Rattle.message_laws.proofs.Together.{IsSilent, More, StandsAt, cleared_last, cleared_silent, closed_stands, near_itself, neither, nothing_done, one_least, one_near, one_silent}
use Rattle.messages.specs.MessageAnswers.{Round, first_round, without_its_position, refusal_text, with_answer, wrote_by}
use Rattle.messages.specs.Position.{without_position}
use Rattle.plist_state.specs.State.{WorldState}
use Rattle.prevalence_store.specs.meaning.Acceptance.{Acceptance, accepts}
use Rattle.prevalence_store.proofs.steps.Grouping.{one_replayed}
use Rattle.session_words.specs.declared.mode.Mode.TheVariants.{Rescue}
use Rattle.user_macros.specs.Functions.{Functions}

module _ (functions : Functions) (most : ℕ) where
  -- ---- two rounds

  alike_more : (a b later other : Round) → AreAnsweredAlike a b later other → More 1 a b later other
  alike_more a b later other is = record { told = is.answer ∷ []; count = refl; here = is.here; there = is.there; near = is.near }

  pub named_more : (number : ℕ) (text : List ℕ) (a b : Round) → Near a b → More 1 a b (by_name functions most number text a) (by_name functions most number text b)
  named_more number text a b near =
      alike_more a b (by_name functions most number text a) (by_name functions most number text b) (named_near functions most number text a b near)

  pub asked_near : (one : AnyRequest) (a b : Round) → Near a b → More 1 a b (one_asked functions most a one) (one_asked functions most b one)
  asked_near (asked.Request request) a b near = one_near functions a b near request.number request.text.now
  asked_near (asked.Named message) a b near = named_more message.number message.text.now a b near

  pub each_near : (all : List AnyRequest) (a b : Round) → Near a b → More (length all) a b (each_asked functions most a all) (each_asked functions most b all)
  each_near [] a b near = record { told = []; count = refl; here = sym (append-nil a.told); there = sym (append-nil b.told); near = near }
  each_near (one ∷ later) a b near =
      let first = asked_near one a b near in
      let rest = each_near later (one_asked functions most a one) (one_asked functions most b one) first.near in
      record {
        told = first.told ++ rest.told;
        count = omega (arith, length-append first.told rest.told, first.count, rest.count);
        here = rest.here ∙ ap (λ ts. ts ++ rest.told) first.here ∙ append_assoc a.told first.told rest.told;
        there = rest.there ∙ ap (λ ts. ts ++ rest.told) first.there ∙ append_assoc b.told first.told rest.told;
        near = rest.near;
      }

  -- ---- a round in which no message wrote

  module _ (w : WorldState) (c : Round) (silent : IsSilent functions w c) (number : ℕ) (name : List ℕ) where
    -- an entry is put in behind each message that is carried out
    kept_silent : (form : List ℕ) (round : Round) → IsSilent functions w (with_kept functions number name form round)
    kept_silent form round none = absurd (cc)

    admitted_silent : (form : List ℕ) (given : Result Acceptance ℕ) → IsSilent functions w (by_admission functions number name form c given)
    admitted_silent form (Ok given) none = absurd (cc)
    admitted_silent form (Err refusal) none = silent none

    first_silent : (form : List ℕ) (full : Bool)
        → IsSilent functions w (if full then with_answer (refusal_text NO_ROOM (codes "NO-ROOM")) false c else by_admission functions number name form c (accepts functions c.left Rescue (admission_text c.left name)))
    first_silent form true none = silent none
    first_silent form false none = admitted_silent form (accepts functions c.left Rescue (admission_text c.left name)) none

    new_silent : (form : Option (List ℕ)) → IsSilent functions w (by_no_entry functions most number name form c)
    new_silent None none = silent none
    new_silent (Some form) none = first_silent form (nat_le most (client_count c.left)) none

    gone_silent : IsSilent functions w (without_client functions name c)
    gone_silent none =
        let given = accepts functions c.left Rescue (leaving_text c.left name) in
        let parts = neither c.wrote (wrote_by given) none in
        ap without_position (nothing_done functions Rescue c.left given (one_replayed functions Rescue c.left (leaving_text c.left name)).again parts.1) ∙ silent parts.0

    later_silent : (form : Option (List ℕ)) → IsSilent functions w (by_later functions number name form c)
    later_silent None none = gone_silent none
    later_silent (Some form) none = kept_silent form c none

    standing_silent : (form : Option (List ℕ)) (it : Standing) → IsSilent functions w (by_standing functions most number name form c it)
    standing_silent form New none = new_silent form none
    standing_silent form NoEntry none = silent none
    standing_silent form Old none = silent none
    standing_silent form Other none = silent none
    standing_silent form Last none = silent none
    standing_silent form Later none = later_silent form none

    client_silent : (form : Option (List ℕ)) (named : Bool)
        → IsSilent functions w (if named then by_standing functions most number name form c (client_standing number form (entry_property c.left name)) else with_answer (refusal_text NO_FRAME (codes "NO-FRAME")) false c)
    client_silent form true none = standing_silent form (client_standing number form (entry_property c.left name)) none
    client_silent form false none = silent none

  asked_silent : (w : WorldState) (r : Round) → IsTidy r.left.properties → IsSilent functions w r → (one : AnyRequest) → IsSilent functions w (one_asked functions most r one)
  asked_silent w r tidy silent (asked.Request request) = one_silent functions w r tidy silent request.number request.text.now
  asked_silent w r tidy silent (asked.Named message) =
      client_silent w (without_its_position r) (cleared_silent functions w r tidy silent) message.number (client_name_in message.text.now) (form_in message.text.now) (is_client_name (client_name_in message.text.now))

  each_silent : (all : List AnyRequest) (w : WorldState) (r : Round) → IsTidy r.left.properties → IsSilent functions w r → IsSilent functions w (each_asked functions most r all)
  each_silent [] w r tidy silent = silent
  each_silent (one ∷ later) w r tidy silent =
      each_silent later w (one_asked functions most r one) (asked_near one r r (near_itself functions r tidy)).near.tidy (asked_silent w r tidy silent one)

  -- ---- the last number

  module _ (c : Round) (number : ℕ) (name : List ℕ) where
    admitted_last : (form : List ℕ) (given : Result Acceptance ℕ) → (by_admission functions number name form c given).last ≡ c.last
    admitted_last form (Ok given) = refl
    admitted_last form (Err refusal) = refl

    first_last : (form : List ℕ) (full : Bool)
        → (if full then with_answer (refusal_text NO_ROOM (codes "NO-ROOM")) false c else by_admission functions number name form c (accepts functions c.left Rescue (admission_text c.left name))).last ≡ c.last
    first_last form true = refl
    first_last form false = admitted_last form (accepts functions c.left Rescue (admission_text c.left name))

    new_last : (form : Option (List ℕ)) → (by_no_entry functions most number name form c).last ≡ c.last
    new_last None = refl
    new_last (Some form) = first_last form (nat_le most (client_count c.left))

    later_last : (form : Option (List ℕ)) → (by_later functions number name form c).last ≡ c.last
    later_last None = refl
    later_last (Some form) = refl

    standing_last : (form : Option (List ℕ)) (it : Standing) → (by_standing functions most number name form c it).last ≡ c.last
    standing_last form New = new_last form
    standing_last form NoEntry = refl
    standing_last form Old = refl
    standing_last form Other = refl
    standing_last form Last = refl
    standing_last form Later = later_last form

    client_last : (form : Option (List ℕ)) (named : Bool)
        → (if named then by_standing functions most number name form c (client_standing number form (entry_property c.left name)) else with_answer (refusal_text NO_FRAME (codes "NO-FRAME")) false c).last ≡ c.last
    client_last form true = standing_last form (client_standing number form (entry_property c.left name))
    client_last form false = refl

  pub named_last : (number : ℕ) (text : List ℕ) (r : Round) → (by_name functions most number text r).last ≡ r.last
  named_last number text r = client_last (without_its_position r) number (client_name_in text) (form_in text) (is_client_name (client_name_in text)) ∙ cleared_last r

  pub named_least : (number : ℕ) (text : List ℕ) (r : Round) → r.last ≤ (by_name functions most number text r).last
  named_least number text r = omega (arith, named_last number text r)

  asked_least : (one : AnyRequest) (r : Round) → r.last ≤ (one_asked functions most r one).last
  asked_least (asked.Request request) r = one_least functions request.number request.text.now r
  asked_least (asked.Named message) r = named_least message.number message.text.now r

  each_least : (all : List AnyRequest) (r : Round) → r.last ≤ (each_asked functions most r all).last
  each_least [] r = omega arith
  each_least (one ∷ later) r = omega (arith, asked_least one r, each_least later (one_asked functions most r one))

  -- ---- batches

  pub asked_stands : (all : List AnyRequest) (far : Round) (now : BatchProgress) → StandsAt functions far now
      → StandsAt functions (each_asked functions most far all) (with_batch now (all_answered functions most (first_round now.last now.world) all))
  asked_stands all far now stands =
      let before = first_round now.last now.world in
      closed_stands functions (length all) far (each_asked functions most far all) now (each_asked functions most before all) stands (each_near all far before stands.near)
      (each_silent all now.world before stands.near.other_tidy (λ _. refl)) (each_least all before)
