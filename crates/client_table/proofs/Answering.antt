-- What the steps of an answer to a message with a name come to.
--     named_by, unnamed_by, new_none, later_some, stands_as      by its name, and by how the message stands to the table
--     told_made, memory_only      an answer more; and where there was no memory for it
--     keeps_left, keeps_by, refused_named, uncleared_named      what is said of it by its text
--     admitted_new, admitted_kept, admitted_refused      a client that is admitted, or is not
--     kept_round, kept_answer, entry_put, entry_stays      an entry that is put in
--     admits_refused, admits_new, admits_amiss      what the form that admits a client came to
--     with_room, without_room, with_form_new, gone_new, refused_form      a client without an entry
--     later_form, later_gone, keeps_form, keeps_gone      by whether the message has a form
--     again_kept, again_none      the answer of the last message
--     is_there, is_gone, is_full, has_room      what was looked up
--     gone_left, gone_round, gone_amiss      a client that goes
use Rattle.std.proofs.Common.{◌≡◌, ◌⊎◌, ℕ, ◌<◌, ◌≤◌, ◌^◌, ◌==◌, nat_le, nat_lt, Bool, true, false, ◌||◌, if◌then◌else◌, List, [], ◌∷◌, ◌++◌, length, codes, Option, None, Some, IsSome, is_some, Result, Ok, Err, IfErr, refl, sym, ap, subst, ◌∙◌, append-nil, inl, inr}
use Rattle.std.specs.Prelude.{option_map}
use Rattle.std.proofs.lemmas.Bool.{false≢true, le-leb, lt-leb}
use Rattle.client_table.specs.CallsByName.{HasAnswer, IsAmissAt, KeepsAnswer, KeepsAnswerAt, RefusesNamed}
use Rattle.client_table.specs.Entries.{HasEntrySymbols, KeptMessage, MayStand, admission_text, client_count, entry, entry_in, entry_list, entry_property, entry_text, is_of, kept_message, leaving_text, message_symbol, table_package}
use Rattle.client_table.specs.Named.{answer_to_form, at_last, by_admission, by_client, by_later, by_name, by_no_entry, by_standing, by_table, client_standing, last_told, standing_by, standing_to, told_again, with_entry_kept, with_first_message, with_kept, without_client}
use Rattle.client_table.specs.Names.{form_in, is_client_name, client_name_in}
use Rattle.client_table.specs.Steps.{IsAdmitted, IsAdmittedBy, RefusesMessageAt, refusal_of}
use Rattle.client_table.specs.Told.{entry_told, kept_told}
use Rattle.client_table.specs.declared.asked.Named.{Named}
use Rattle.client_table.specs.declared.asked.TheConstants.{NO_ENTRY, NO_FRAME, NO_ROOM}
use Rattle.client_table.specs.declared.entry.Entry.{Entry}
use Rattle.client_table.specs.declared.entry.KeptAnswer.{KeptAnswer}
use Rattle.client_table.specs.declared.entry.Standing.{Standing}
use Rattle.client_table.specs.declared.entry.Standing.TheVariants.{Last, Later, New, NoEntry, Old, Other}
use Rattle.client_table.proofs.ClientNames.{name_ascii, name_short}
use Rattle.client_table.proofs.EntryMade.{entry_made, entry_short}
use Rattle.client_table.proofs.Kept.{entry_there, kept_is_short, kept_stands}
use Rattle.lisp_object.specs.Object.{Object}
use Rattle.messages.specs.MessageAnswers.{Round, without_its_position, given_in, refusal_answer, refusal_text, with_answer, with_form_given, with_set, wrote_by}
use Rattle.messages.specs.MessageCalls.{IsNotCleared}
use Rattle.messages.specs.Rounds.{IfRefused, MayBeLogged}
use Rattle.messages.proofs.Making.{form_made}
use Rattle.package_table.specs.Table as packages
use Rattle.plist_state.specs.Changes.{with_property}
use Rattle.plist_state.specs.State.{WorldState}
use Rattle.prevalence_store.specs.declared.failure.Unadded.{Unadded}
use Rattle.prevalence_store.specs.declared.failure.Unadded.TheVariants as unadded
use Rattle.prevalence_store.specs.calls.ExecuteAll.{told_of}
use Rattle.prevalence_store.specs.meaning.Acceptance.{Acceptance, accepts}
use Rattle.session_words.specs.declared.mode.Mode.TheVariants.{Current, Rescue}
use Rattle.user_macros.specs.Functions.{Functions}

-- ---- by how it stands to the table

not_new_at : (b : Bool) → (if b then Last else Other) ≡ New → ⊥
not_new_at true is = absurd (cc)
not_new_at false is = absurd (cc)

not_new_form : (form : Option (List ℕ)) (kept : KeptMessage) → at_last form kept ≡ New → ⊥
not_new_form None kept is = absurd (cc)
not_new_form (Some form) kept is = not_new_at (is_of kept form) is

not_new_to : (less same : Bool) (form : Option (List ℕ)) (kept : KeptMessage) → (if less then Old else (if same then at_last form kept else Later)) ≡ New → ⊥
not_new_to true same form kept is = absurd (cc)
not_new_to false true form kept is = not_new_form form kept is
not_new_to false false form kept is = absurd (cc)

not_new : (number : ℕ) (form : Option (List ℕ)) (found : Option (ℕ × KeptMessage)) → standing_by number form found ≡ New → ⊥
not_new number form None is = absurd (cc)
not_new number form (Some last) is = not_new_to (nat_lt number last.0) (number == last.0) form last.1 is

pub new_none : (number : ℕ) (form : Option (List ℕ)) (found : Option Object) → client_standing number form found ≡ New → found ≡ None
new_none number form None is = refl
new_none number form (Some value) is = absurd (not_new number form (entry_in value) is)

pub later_some : (number : ℕ) (form : Option (List ℕ)) (found : Option Object) → client_standing number form found ≡ Later → IsSome found
later_some number form None is = absurd (cc)
later_some number form (Some value) is = refl

module _ (functions : Functions) (most number : ℕ) (text : List ℕ) (round : Round) (name : List ℕ) (name_is : name ≡ client_name_in text) where
  no_name : is_client_name name ≡ false → by_name functions most number text round ≡ with_answer (refusal_text NO_FRAME (codes "NO-FRAME")) false (without_its_position round)
  no_name none =
      ap (λ (b : Bool). if b then by_standing functions most number (client_name_in text) (form_in text) (without_its_position round) (client_standing number (form_in text) (entry_property (without_its_position round).left (client_name_in text))) else with_answer (refusal_text NO_FRAME (codes "NO-FRAME")) false (without_its_position round))
      (ap is_client_name (sym name_is) ∙ none)

  named_is : (form : Option (List ℕ)) → form ≡ form_in text → is_client_name name ≡ true → by_name functions most number text round ≡ by_table functions most number name form (without_its_position round)
  named_is form form_is named =
      (λ i. by_client functions most number (sym name_is i) (sym form_is i) (without_its_position round))
      ∙ ap (λ (b : Bool). if b then by_table functions most number name form (without_its_position round) else with_answer (refusal_text NO_FRAME (codes "NO-FRAME")) false (without_its_position round)) named

-- by its text, where the position was taken out
pub unnamed_by : (functions : Functions) (most number : ℕ) (text name : List ℕ) (round here final : Round) → name ≡ client_name_in text → here ≡ without_its_position round → is_client_name name ≡ false
    → final ≡ with_answer (refusal_text NO_FRAME (codes "NO-FRAME")) false here → final ≡ by_name functions most number text round
unnamed_by functions most number text name round here final name_is here_is none told =
    told ∙ ap (with_answer (refusal_text NO_FRAME (codes "NO-FRAME")) false) here_is ∙ sym (no_name functions most number text round name name_is none)

pub named_by : (functions : Functions) (most number : ℕ) (text name : List ℕ) (form : Option (List ℕ)) (round here final : Round) → name ≡ client_name_in text → form ≡ form_in text → here ≡ without_its_position round
    → is_client_name name ≡ true → final ≡ by_table functions most number name form here → final ≡ by_name functions most number text round
named_by functions most number text name form round here final name_is form_is here_is named told =
    told ∙ ap (by_table functions most number name form) here_is ∙ sym (named_is functions most number text round name name_is form form_is named)

-- as it stands
pub stands_as : (functions : Functions) (most number : ℕ) (name : List ℕ) (form : Option (List ℕ)) (round final : Round) (found it : Standing) → found ≡ client_standing number form (entry_property round.left name) → found ≡ it
    → final ≡ by_standing functions most number name form round it → final ≡ by_table functions most number name form round
stands_as functions most number name form round final found it found_is is told = told ∙ ap (by_standing functions most number name form round) (sym is ∙ found_is)

-- an answer more makes nothing
pub told_made : (functions : Functions) (text : List ℕ) (wrote : Bool) (round final : Round) → final ≡ with_answer text wrote round → (first : WorldState) → MayBeLogged functions first round → MayBeLogged functions first final
told_made functions text wrote round final is first made = subst (MayBeLogged functions first) (sym is) (record { again = made.again; fit = made.fit })

-- want of memory is no refusal
pub memory_only : {T : Type 0} (result : Result T Unadded) (Refuses : ℕ → Type 0) → IfErr result (λ cause. cause ≡ unadded.OutOfMemory) → IfErr result (λ cause. IfRefused cause Refuses)
memory_only (Ok value) Refuses is = tt
memory_only (Err cause) Refuses is = subst (λ c. IfRefused c Refuses) (sym is) tt

-- ---- by its text

pub keeps_left : (number : ℕ) (name : List ℕ) (form : Option (List ℕ)) (round after : Round) → after.left ≡ round.left → KeepsAnswerAt number name form round after
keeps_left number name None round after same = inl same
keeps_left number name (Some form) round after same = inl same

keeps_named : (message : Named) (round after : Round) (name : List ℕ) (form : Option (List ℕ)) → name ≡ client_name_in message.text.now → form ≡ form_in message.text.now
    → KeepsAnswerAt message.number name form (without_its_position round) after → KeepsAnswer round message after
keeps_named message round after name form name_is form_is keeps =
    subst (λ (n : List ℕ). KeepsAnswerAt message.number n (form_in message.text.now) (without_its_position round) after) name_is
    (subst (λ (f : Option (List ℕ)). KeepsAnswerAt message.number name f (without_its_position round) after) form_is keeps)

pub keeps_by : (message : Named) (name : List ℕ) (form : Option (List ℕ)) (round here after : Round) → name ≡ client_name_in message.text.now → form ≡ form_in message.text.now → here ≡ without_its_position round
    → KeepsAnswerAt message.number name form here after → KeepsAnswer round message after
keeps_by message name form round here after name_is form_is here_is keeps =
    keeps_named message round after name form name_is form_is (subst (λ (r : Round). KeepsAnswerAt message.number name form r after) here_is keeps)

refuses_named : (functions : Functions) (most : ℕ) (message : Named) (round : Round) (refusal : ℕ) (name : List ℕ) (form : Option (List ℕ)) → name ≡ client_name_in message.text.now → form ≡ form_in message.text.now
    → RefusesMessageAt functions name form (without_its_position round) refusal → RefusesNamed functions most round message refusal
refuses_named functions most message round refusal name form name_is form_is refuses =
    inr (
      refuses.0,
      subst (λ (n : List ℕ). IsAmissAt functions n (form_in message.text.now) (without_its_position round)) name_is
          (subst (λ (f : Option (List ℕ)). IsAmissAt functions name f (without_its_position round)) form_is refuses.1),
    )

-- the position was not taken out
pub uncleared_named : (functions : Functions) (most : ℕ) (round : Round) (message : Named) (cause : Unadded) → IfRefused cause (IsNotCleared functions round) → IfRefused cause (RefusesNamed functions most round message)
uncleared_named functions most round message (unadded.Refused number) is = inl is
uncleared_named functions most round message unadded.OutOfMemory is = tt

pub refused_named : (functions : Functions) (most : ℕ) (message : Named) (round here : Round) (name : List ℕ) (form : Option (List ℕ)) → here ≡ without_its_position round → name ≡ client_name_in message.text.now → form ≡ form_in message.text.now
    → (cause : Unadded) → IfRefused cause (RefusesMessageAt functions name form here) → IfRefused cause (RefusesNamed functions most round message)
refused_named functions most message round here name form here_is name_is form_is (unadded.Refused number) is =
    refuses_named functions most message round number name form name_is form_is (subst (λ (r : Round). RefusesMessageAt functions name form r number) here_is is)
refused_named functions most message round here name form here_is name_is form_is unadded.OutOfMemory is = tt

-- ---- a client that is admitted, or is not

or_none : (b : Bool) → (b || false) ≡ b
or_none true = refl
or_none false = refl

-- a form that is refused does nothing
pub refused_same : (number : ℕ) (round : Round) → with_form_given (Err number) round ≡ round
refused_same number round = λ i. record round { entries = append-nil round.entries i; wrote = or_none round.wrote i }

pub admitted_new : (name : List ℕ) (given : Result Acceptance ℕ) (round after : Round) → IsAdmittedBy name given round after None → IsSome (entry_property after.left name)
admitted_new name (Ok given) round after is = is.2
admitted_new name (Err number) round after is = absurd (let other : None ≡ Some number = is.0 in cc)

admitted_told : (name : List ℕ) (given : Result Acceptance ℕ) (round after : Round) → IsAdmittedBy name given round after None → after.told ≡ round.told
admitted_told name (Ok given) round after is = ap (λ (r : Round). r.told) is.1
admitted_told name (Err number) round after is = absurd (let other : None ≡ Some number = is.0 in cc)

module _ (functions : Functions) (number : ℕ) (name form : List ℕ) where
  pub admitted_kept : (given : Result Acceptance ℕ) (round after final : Round) → IsAdmittedBy name given round after None → final ≡ with_kept functions number name form after
      → final ≡ by_admission functions number name form round given
  admitted_kept (Ok given) round after final is kept = kept ∙ ap (with_kept functions number name form) is.1
  admitted_kept (Err refusal) round after final is kept = absurd (let other : None ≡ Some refusal = is.0 in cc)

  pub admitted_refused : (given : Result Acceptance ℕ) (refusal : ℕ) (round after final : Round) → IsAdmittedBy name given round after (Some refusal)
      → final ≡ with_answer (refusal_answer refusal) false after → final ≡ by_admission functions number name form round given
  admitted_refused (Ok given) refusal round after final is answered = absurd (let other : Some refusal ≡ None = is.0 in cc)
  admitted_refused (Err code) refusal round after final is answered =
      let same : refusal ≡ code = (let these : Some refusal ≡ Some code = is.0 in cc) in
      answered ∙ (λ i. with_answer (refusal_answer (same i)) false (is.1 i))

  -- the answer after the form that admits it
  pub admitted_answer : (given : Result Acceptance ℕ) (round after final : Round) → IsAdmittedBy name given round after None → HasAnswer number name form after final → HasAnswer number name form round final
  admitted_answer given round after final is has = (has.0, has.1, has.2 ∙ ap (λ ts. ts ++ (has.0, has.1) ∷ []) (admitted_told name given round after is), has.3)

pub refused_left : (name : List ℕ) (given : Result Acceptance ℕ) (refusal : ℕ) (round after final : Round) → IsAdmittedBy name given round after (Some refusal)
    → final ≡ with_answer (refusal_answer refusal) false after → final.left ≡ round.left
refused_left name (Ok given) refusal round after final is answered = absurd (let other : Some refusal ≡ None = is.0 in cc)
refused_left name (Err code) refusal round after final is answered = ap (λ (r : Round). r.left) answered ∙ ap (λ (r : Round). r.left) is.1

-- it is admitted, or refused, or the table is amiss
module _ (name : List ℕ) (given : Result Acceptance ℕ) (round after : Round) (is : after ≡ with_form_given given round) (refusal : Option ℕ) where
  pub admits : refusal ≡ None → IsSome (entry_property after.left name) → refusal_of (told_of given) ≡ refusal → IsAdmittedBy name given round after None
  admits none some told = by given is (told ∙ none)
    where
      by : (g : Result Acceptance ℕ) → after ≡ with_form_given g round → refusal_of (told_of g) ≡ None → IsAdmittedBy name g round after None
      by (Ok a) same _ = (refl, same, some)
      by (Err n) same other = absurd (cc)

  pub refuses : (number : ℕ) → refusal ≡ Some number → refusal_of (told_of given) ≡ refusal → IsAdmittedBy name given round after (Some number)
  refuses number some told = by given is (told ∙ some)
    where
      by : (g : Result Acceptance ℕ) → after ≡ with_form_given g round → refusal_of (told_of g) ≡ Some number → IsAdmittedBy name g round after (Some number)
      by (Ok a) same other = absurd (cc)
      by (Err n) same these = (sym these, same ∙ refused_same n round)

-- ---- an entry that is put in

module _ (functions : Functions) (number : ℕ) (name form : List ℕ) (round : Round) where
  abbrev given : Result Acceptance ℕ
  given = accepts functions round.left Current form

  pub kept_round : (last : ℕ) (mid final : Round) → last ≡ round.last → mid ≡ given_in functions last form round
      → ((told : List (List ℕ × Bool)) (answer : List ℕ × Bool) → mid.told ≡ told ++ answer ∷ [] → final ≡ with_entry_kept name number (kept_message form answer.0) mid)
      → final ≡ with_kept functions number name form round
  kept_round last mid final last_is mid_is put =
      let is : mid ≡ given_in functions round.last form round = mid_is ∙ ap (λ n. given_in functions n form round) last_is in
      put round.told (answer_to_form functions form round, wrote_by given) (ap (λ (r : Round). r.told) is)
      ∙ ap (with_entry_kept name number (kept_message form (answer_to_form functions form round))) is

  pub kept_answer : (final : Round) → number < 2 ^ 64 → length form < 2 ^ 64 → final ≡ with_kept functions number name form round → HasAnswer number name form round final
  kept_answer final fits short is = (
    answer_to_form functions form round,
    wrote_by given,
    ap (λ (r : Round). r.told) is,
    ap (λ (r : Round). entry r.left name) is
        ∙ entry_there (given_in functions round.last form round).left name number (kept_message form (answer_to_form functions form round)) fits (kept_stands form (answer_to_form functions form round) short),
  )

pub entry_put : (name : List ℕ) (number : ℕ) (kept : KeptMessage) (old new : Round) (value : Object) (text : List ℕ) → value ≡ entry_list number kept → text ≡ entry_text name number kept
    → new ≡ with_set (table_package, name) message_symbol value text old → new ≡ with_entry_kept name number kept old
entry_put name number kept old new value text value_is text_is is = is ∙ (λ i. with_set (table_package, name) message_symbol (value_is i) (text_is i) old)

-- its text makes it again
module _ (functions : Functions) (name : List ℕ) (number : ℕ) (form answer : List ℕ) (old : Round) (sound : packages.AreSoundPackages old.left.packages) (has : HasEntrySymbols old.left name)
    (named : is_client_name name ≡ true) (fits : number < 2 ^ 64) (short : length form < 2 ^ 64) where
  abbrev kept : KeptMessage
  kept = kept_message form answer

  abbrev entry_given : Acceptance
  entry_given = record {
    value = entry_list number kept;
    world = with_property old.left (table_package, name) message_symbol (entry_list number kept);
    wrote = true;
    text = entry_text name number kept;
  }

  made_so : accepts functions old.left Rescue (entry_text name number kept) ≡ Ok entry_given
  made_so =
      entry_made functions old.left sound name has number kept (name_ascii name named) fits (kept_stands form answer short)
      (entry_short name number kept (name_short name named) fits (kept_is_short form answer short))

  of_given : (first : WorldState) → MayBeLogged functions first (with_form_given (Ok entry_given) old) → MayBeLogged functions first (with_entry_kept name number kept old)
  of_given first made = record { again = made.again; fit = made.fit }

  pub entry_stays : (new : Round) → new ≡ with_entry_kept name number kept old → (first : WorldState) → MayBeLogged functions first old → MayBeLogged functions first new
  entry_stays new is first made =
      subst (MayBeLogged functions first) (sym is)
      (of_given first (subst (λ (g : Result Acceptance ℕ). MayBeLogged functions first (with_form_given g old)) made_so (form_made functions first old made (entry_text name number kept))))

-- ---- a client that goes

-- what stands there after it
pub gone_left : (functions : Functions) (name : List ℕ) (round mid : Round) (text : List ℕ) → text ≡ leaving_text round.left name
    → mid ≡ with_form_given (accepts functions round.left Rescue text) round → mid.left ≡ (without_client functions name round).left
gone_left functions name round mid text text_is is =
    ap (λ (r : Round). r.left) is ∙ ap (λ t. (with_form_given (accepts functions round.left Rescue t) round).left) text_is

pub gone_round : (functions : Functions) (name : List ℕ) (round mid final : Round) (text nil : List ℕ) → text ≡ leaving_text round.left name → nil ≡ codes "NIL"
    → mid ≡ with_form_given (accepts functions round.left Rescue text) round → final ≡ with_answer nil true mid → final ≡ without_client functions name round
gone_round functions name round mid final text nil text_is nil_is is told =
    told ∙ (λ i. with_answer (nil_is i) true ((is ∙ ap (λ t. with_form_given (accepts functions round.left Rescue t) round) text_is) i))

pub gone_amiss : (functions : Functions) (name : List ℕ) (round mid : Round) (text : List ℕ) → text ≡ leaving_text round.left name
    → mid ≡ with_form_given (accepts functions round.left Rescue text) round → IsSome (entry_property mid.left name) → RefusesMessageAt functions name None round NO_ENTRY
gone_amiss functions name round mid text text_is is some =
    (refl, subst (λ (w : WorldState). IsSome (entry_property w name)) (gone_left functions name round mid text text_is is) some)

-- a client that was admitted without an entry
pub admitted_amiss : (functions : Functions) (name : List ℕ) (round mid : Round) (text : List ℕ) → text ≡ admission_text round.left name
    → mid ≡ with_form_given (accepts functions round.left Rescue text) round → refusal_of (told_of (accepts functions round.left Rescue text)) ≡ None
    → entry_property mid.left name ≡ None → (form : List ℕ) → RefusesMessageAt functions name (Some form) round NO_ENTRY
admitted_amiss functions name round mid text text_is is told none form =
    by (accepts functions round.left Rescue text) (ap (accepts functions round.left Rescue) (sym text_is)) is told
  where
    by : (g : Result Acceptance ℕ) → accepts functions round.left Rescue (admission_text round.left name) ≡ g → mid ≡ with_form_given g round → refusal_of (told_of g) ≡ None
        → RefusesMessageAt functions name (Some form) round NO_ENTRY
    by (Ok a) gives same _ = (refl, (a, gives, sym (ap (λ (r : Round). entry_property r.left name) same) ∙ none))
    by (Err n) gives same other = absurd (cc)

-- the form that admits a client was carried out
module _ (functions : Functions) (name : List ℕ) (round after : Round) (text : List ℕ) (text_is : text ≡ admission_text round.left name)
    (is : after ≡ with_form_given (accepts functions round.left Rescue text) round) (refusal : Option ℕ) (told : refusal ≡ refusal_of (told_of (accepts functions round.left Rescue text))) where
  abbrev of_client : Result Acceptance ℕ
  of_client = accepts functions round.left Rescue (admission_text round.left name)

  here : after ≡ with_form_given of_client round
  here = is ∙ ap (λ t. with_form_given (accepts functions round.left Rescue t) round) text_is

  said : refusal_of (told_of of_client) ≡ refusal
  said = sym (told ∙ ap (λ t. refusal_of (told_of (accepts functions round.left Rescue t))) text_is)

  pub admits_refused : (number : ℕ) → refusal ≡ Some number → IsAdmitted functions name round after (Some number)
  admits_refused number some = refuses name of_client round after here refusal number some said

  pub admits_new : refusal ≡ None → IsSome (entry_property after.left name) → IsAdmitted functions name round after None
  admits_new none some = admits name of_client round after here refusal none some said

  pub admits_amiss : refusal ≡ None → entry_property after.left name ≡ None → (form : List ℕ) → RefusesMessageAt functions name (Some form) round NO_ENTRY
  admits_amiss none lacks form = admitted_amiss functions name round after text text_is is (sym told ∙ none) lacks form

-- by whether the table is full
pub with_room : (functions : Functions) (most number : ℕ) (name form : List ℕ) (round final : Round) → nat_le most (client_count round.left) ≡ false
    → final ≡ by_admission functions number name form round (accepts functions round.left Rescue (admission_text round.left name)) → final ≡ with_first_message functions most number name form round
with_room functions most number name form round final room is =
    is ∙ sym (ap (λ (b : Bool). if b then with_answer (refusal_text NO_ROOM (codes "NO-ROOM")) false round else by_admission functions number name form round (accepts functions round.left Rescue (admission_text round.left name))) room)

pub without_room : (functions : Functions) (most number : ℕ) (name form : List ℕ) (round final : Round) → nat_le most (client_count round.left) ≡ true
    → final ≡ with_answer (refusal_text NO_ROOM (codes "NO-ROOM")) false round → final ≡ with_first_message functions most number name form round
without_room functions most number name form round final full is =
    is ∙ sym (ap (λ (b : Bool). if b then with_answer (refusal_text NO_ROOM (codes "NO-ROOM")) false round else by_admission functions number name form round (accepts functions round.left Rescue (admission_text round.left name))) full)

-- by whether the message has a form
pub with_form_new : (functions : Functions) (most number : ℕ) (name : List ℕ) (found : Option (List ℕ)) (form : List ℕ) (round final : Round) → found ≡ Some form
    → final ≡ with_first_message functions most number name form round → final ≡ by_no_entry functions most number name found round
with_form_new functions most number name found form round final found_is is = is ∙ ap (λ f. by_no_entry functions most number name f round) (sym found_is)

pub gone_new : (functions : Functions) (most number : ℕ) (name : List ℕ) (found : Option (List ℕ)) (round final : Round) → found ≡ None → final ≡ with_answer (codes "NIL") false round
    → final ≡ by_no_entry functions most number name found round
gone_new functions most number name found round final found_is is = is ∙ ap (λ f. by_no_entry functions most number name f round) (sym found_is)

pub later_form : (functions : Functions) (number : ℕ) (name : List ℕ) (found : Option (List ℕ)) (form : List ℕ) (round final : Round) → found ≡ Some form → final ≡ with_kept functions number name form round
    → final ≡ by_later functions number name found round
later_form functions number name found form round final found_is is = is ∙ ap (λ f. by_later functions number name f round) (sym found_is)

pub later_gone : (functions : Functions) (number : ℕ) (name : List ℕ) (found : Option (List ℕ)) (round final : Round) → found ≡ None → final ≡ without_client functions name round
    → final ≡ by_later functions number name found round
later_gone functions number name found round final found_is is = is ∙ ap (λ f. by_later functions number name f round) (sym found_is)

-- a client that was to be admitted
pub refused_form : (functions : Functions) (name : List ℕ) (found : Option (List ℕ)) (form : List ℕ) (round : Round) → found ≡ Some form
    → (cause : Unadded) → IfRefused cause (λ number. (f : List ℕ) → RefusesMessageAt functions name (Some f) round number) → IfRefused cause (RefusesMessageAt functions name found round)
refused_form functions name found form round found_is (unadded.Refused number) is = subst (λ (f : Option (List ℕ)). RefusesMessageAt functions name f round number) (sym found_is) (is form)
refused_form functions name found form round found_is unadded.OutOfMemory is = tt

pub keeps_form : (number : ℕ) (name : List ℕ) (found : Option (List ℕ)) (form : List ℕ) (round final : Round) → found ≡ Some form → HasAnswer number name form round final → KeepsAnswerAt number name found round final
keeps_form number name found form round final found_is has = subst (λ f. KeepsAnswerAt number name f round final) (sym found_is) (inr has)

pub keeps_gone : (number : ℕ) (name : List ℕ) (found : Option (List ℕ)) (round final : Round) → found ≡ None → entry_property final.left name ≡ None → KeepsAnswerAt number name found round final
keeps_gone number name found round final found_is gone = subst (λ f. KeepsAnswerAt number name f round final) (sym found_is) (inr gone)

-- ---- the answer of the last message

-- by what is kept of it
pub again_kept : (it : Option (ℕ × KeptMessage)) (found : Option Entry) (one : Entry) (held : KeptAnswer) (text : List ℕ) → option_map entry_told found ≡ it → found ≡ Some one → one.kept ≡ held
    → told_again (kept_told held) ≡ text → last_told it ≡ text
again_kept it found one held text it_is found_is held_is told =
    ap last_told (sym it_is) ∙ ap (λ f. last_told (option_map entry_told f)) found_is ∙ ap (λ k. told_again (kept_told k)) held_is ∙ told

pub again_none : (it : Option (ℕ × KeptMessage)) (found : Option Entry) → option_map entry_told found ≡ it → found ≡ None → last_told it ≡ []
again_none it found it_is found_is = ap last_told (sym it_is) ∙ ap (λ f. last_told (option_map entry_told f)) found_is

-- ---- what was looked up

pub is_there : {X : Type 0} (f : X → Object) (held : Option X) (found : Option Object) (b : Bool) → option_map f held ≡ found → b ≡ is_some held → b ≡ true → IsSome found
is_there f None found b same is there = absurd (false≢true (sym is ∙ there))
is_there f (Some x) found b same is there = ap is_some (sym same)

pub is_gone : {X : Type 0} (f : X → Object) (held : Option X) (found : Option Object) (b : Bool) → option_map f held ≡ found → b ≡ is_some held → b ≡ false → found ≡ None
is_gone f None found b same is gone = sym same
is_gone f (Some x) found b same is gone = absurd (false≢true (sym gone ∙ is))

-- the table is full, or has room
pub is_full : (most held count : ℕ) → held ≡ count → most ≤ held → nat_le most count ≡ true
is_full most held count is full = subst (λ (n : ℕ). nat_le most n ≡ true) is (le-leb most held full)

pub has_room : (most held count : ℕ) → held ≡ count → held < most → nat_le most count ≡ false
has_room most held count is room = subst (λ (n : ℕ). nat_le most n ≡ false) is (lt-leb most held room)
