-- The records of requests make the world after them, and fit the log.
--     given_made      one message more
--     form_made, form_round      a form more that is no message
--     own_made      a form of the store's own more
--     own_effect, own_not_refused      what such a form does
use Rattle.std.proofs.Common.{◌≡◌, ℕ, ◌+◌, ◌≤◌, nat_lt, Bool, true, false, ◌||◌, if◌then◌else◌, List, [], ◌∷◌, ◌++◌, length, map, Option, None, Some, IsSome, pos, Result, Ok, Err, OnOk, refl, sym, ap, subst, ◌∙◌, arith}
use Rattle.std.proofs.lemmas.Bool.{le-leb, lt-ltb, le-ltb}
use Rattle.std.proofs.lemmas.List.{length-append}
use Rattle.std.specs.List.{AllByRecursion}
use Rattle.form_eval.specs.Acceptance.{accepted_by}
use Rattle.form_eval.specs.declared.read_form.ReadForm.{ReadForm}
use Rattle.form_eval.proofs.KnownSymbols.{known_symbols}
use Rattle.gate_log.specs.Layout.{IsLogRecord, LogRecord}
use Rattle.lisp_object.specs.Datum.{object_of}
use Rattle.lisp_object.specs.Object.{Object, integer}
use Rattle.lisp_operators.specs.EvaluationAnswers.{done}
use Rattle.lisp_operators.specs.Evaluation.{Done, Evaluation, also, writes}
use Rattle.lisp_operators.specs.Properties.{removed_property, t}
use Rattle.lisp_operators.specs.declared.evaluated.Evaluated.{Evaluated}
use Rattle.evaluator.specs.Value.{value, value_over}
use Rattle.package_table.specs.Symbols.{are_there, symbols}
use Rattle.package_table.specs.Table.{Name}
use Rattle.plist_state.specs.State.{WorldState}
use Rattle.prevalence_store.specs.declared.batch.Batch.{Batch}
use Rattle.prevalence_store.specs.declared.failure.Unadded.{Unadded}
use Rattle.prevalence_store.specs.declared.failure.Unadded.TheVariants as unadded
use Rattle.messages.specs.declared.own.Own.{Own}
use Rattle.messages.specs.declared.own.Own.TheVariants.{Clearing, Position}
use Rattle.messages.specs.declared.request.Request.{Request}
use Rattle.messages.specs.declared.round.Round.{Round as Held}
use Rattle.prevalence_store.specs.declared.outcome.Outcome.{Outcome}
use Rattle.session_words.specs.declared.mode.Mode.{Mode}
use Rattle.session_words.specs.declared.mode.Mode.TheVariants.{Current, Rescue}
use Rattle.prevalence_store.specs.meaning.Acceptance.{Acceptance, accepts, after, accepted_record, records_of, transaction_value}
use Rattle.prevalence_store.specs.calls.ExecuteAll.{logged_entries, world_left_after, told_by, told_of}
use Rattle.messages.specs.MessageAnswers.{Round, answer_in, answer_to_question, after_question, by_number, without_its_position, given_in, one_request, with_answer, with_asked, with_form_given, with_given, with_message, with_old, with_own, wrote_by}
use Rattle.messages.specs.Position.{own_form, own_left, own_text, position_property, with_position, without_position}
use Rattle.messages.specs.Rounds.{MayBeLogged, IsPositionNeeded, IsOwnForm, round_in, told_in}
use Rattle.prevalence_store.specs.steps.Batch.{IsNotAdded, entries_in}
use Rattle.prevalence_store.specs.steps.Group.{IsTurn}
use Rattle.prevalence_store.proofs.steps.Grouping.{fit_both, one_replayed}
use Rattle.prevalence_store.proofs.steps.Taking.{one_record}
use Rattle.prevalence_store.proofs.Surviving.{after-append}
use Rattle.user_macros.specs.Functions.{Functions}
use Rattle.prevalence_store.specs.meaning.Forgetting.{is_forgetting}
use Rattle.prevalence_store.proofs.meaning.Transactions.{not_forgetting}

-- ---- by a result

-- what follows where it is no error
pub done_on : {X : Type 0} (result : Result Unit Unadded) → result ≡ Ok tt → X → OnOk result X
done_on {X} result is holds = subst (λ r. OnOk r X) (sym is) holds

pub failed_on : (X : Type 0) (result : Result Unit Unadded) (cause : Unadded) → result ≡ Err cause → OnOk result X
failed_on X result cause is = subst (λ r. OnOk r X) (sym is) tt

-- ---- the store's own forms

-- by what the property is
abbrev cleared_to : WorldState → Option Object → Evaluation Object
cleared_to s o = also false (removed_property o s (without_position s))

clearing_value : (names : List Name) (s : WorldState) → value names s (own_form Clearing) ≡ cleared_to s (position_property s)
unfolding value_over
clearing_value names s = refl

cleared_some : (s : WorldState) (o : Option Object) → IsSome o → (x : Object) × (cleared_to s o ≡ writes x (without_position s))
cleared_some s None some = absurd (cc)
cleared_some s (Some v) some = (t, refl)

position_value : (names : List Name) (s : WorldState) (n : ℕ) → value names s (own_form (Position n)) ≡ writes (integer (pos n)) (with_position n s)
unfolding value_over
position_value names s n = refl

own_value : (names : List Name) (s : WorldState) (own : Own) → IsPositionNeeded own s → (x : Object) × (value names s (own_form own) ≡ writes x (own_left own s))
own_value names s Clearing some = let found = cleared_some s (position_property s) some in (found.0, clearing_value names s ∙ found.1)
own_value names s (Position n) some = (integer (pos n), position_value names s n)

abbrev state_of : WorldState → Evaluation Object → WorldState
state_of s (Ok e) = e.state
state_of s (Err code) = s

abbrev wrote_of : Evaluation Object → Bool
wrote_of (Ok e) = e.wrote
wrote_of (Err code) = false

shown : (x : Object) (s : WorldState) (d : Done Object) → writes x s ≡ Ok d → (d.state ≡ s) × (d.wrote ≡ true)
shown x s d same = (ap (state_of s) (sym same), ap wrote_of (sym same))

-- it is not FORGET-NAMES
another_form : (own : Own) → is_forgetting (own_form own) ≡ false
another_form Clearing = refl
another_form (Position n) = refl

own_accepted : (names : List Name) (s : WorldState) (own : Own) → are_there s.packages (own_form own) ≡ true → IsPositionNeeded own s → (x : Object) × (transaction_value names s (own_form own) ≡ writes x (own_left own s))
own_accepted names s own there needed =
    let valued = own_value names s own needed in
    let known = known_symbols s.packages (symbols (own_form own)) there in
    (valued.0, not_forgetting names s (own_form own) (another_form own) ∙ ap (λ r. accepted_by true names s r (own_form own)) known ∙ ap (also false) valued.1)

no_error : (x : Object) (s : WorldState) (number : ℕ) → writes x s ≡ Err number → ⊥
no_error x s number is = absurd (cc)

-- a form of the store's own whose symbols are there does what it is for
pub own_effect : (names : List Name) (s : WorldState) (own : Own) (d : Done Object) → are_there s.packages (own_form own) ≡ true → IsPositionNeeded own s → transaction_value names s (own_form own) ≡ Ok d
    → (d.state ≡ own_left own s) × (d.wrote ≡ true)
own_effect names s own d there needed is =
    let here = own_accepted names s own there needed in
    shown here.0 (own_left own s) d (sym here.1 ∙ is)

module _ (functions : Functions) where
  -- ---- one more

  module _ (w : WorldState) (round : Round) (before : MayBeLogged functions w round) where
    entries_made : (entries : List LogRecord) (left : WorldState) → after functions round.left entries ≡ Some left → AllByRecursion IsLogRecord entries
        → (after functions w (round.entries ++ entries) ≡ Some left) × AllByRecursion IsLogRecord (round.entries ++ entries)
    entries_made entries left again fit = (
      after-append functions w round.left round.entries entries before.again ∙ again,
      fit_both round.entries entries before.fit fit,
    )

    pub given_made : (number : ℕ) (text : List ℕ) → MayBeLogged functions w (given_in functions number text round)
    given_made number text =
        let one = one_replayed functions Current round.left text in
        let made = entries_made (logged_entries Current (accepts functions round.left Current text)) _ one.again one.fit in
        record { again = made.0; fit = made.1 }

    pub form_made : (text : List ℕ) → MayBeLogged functions w (with_form_given (accepts functions round.left Rescue text) round)
    form_made text =
        let one = one_replayed functions Rescue round.left text in
        let made = entries_made (logged_entries Rescue (accepts functions round.left Rescue text)) _ one.again one.fit in
        record { again = made.0; fit = made.1 }

    pub own_made : (own : Own) → after functions round.left (accepted_record Rescue (own_text own) ∷ []) ≡ Some (own_left own round.left)
        → AllByRecursion IsLogRecord (accepted_record Rescue (own_text own) ∷ []) → MayBeLogged functions w (with_own own round)
    own_made own again fit =
        let made = entries_made (accepted_record Rescue (own_text own) ∷ []) (own_left own round.left) again fit in
        record { again = made.0; fit = made.1 }

  -- ---- a form of the store's own that was added

  pub own_added : (own : Own) (world new : WorldState) (read : ReadForm) (text : List ℕ) (e : Evaluated) → IsPositionNeeded own world → IsOwnForm functions own world read text
      → transaction_value functions.names world (object_of read.datum) ≡ Ok (done e new)
      → (new ≡ own_left own world) × (e.wrote ≡ true)
      × (after functions world (accepted_record Rescue (own_text own) ∷ []) ≡ Some (own_left own world)) × AllByRecursion IsLogRecord (accepted_record Rescue (own_text own) ∷ [])
  own_added own world new read text e needed is given =
      let accepted : transaction_value functions.names world (own_form own) ≡ Ok (done e new) = ap (transaction_value functions.names world) (sym is.object) ∙ given in
      let effect = own_effect functions.names world own (done e new) is.all_there needed accepted in
      let recorded = one_record functions Rescue world new text (own_form own) e is.reads accepted in
      let records : records_of e.wrote Rescue text ≡ accepted_record Rescue (own_text own) ∷ [] =
      ap (λ (b : Bool). records_of b Rescue text) effect.1 ∙ ap (λ t. accepted_record Rescue t ∷ []) is.own_is in (
        effect.0,
        effect.1,
        sym (ap (after functions world) records) ∙ recorded.0 ∙ ap Some effect.0,
        subst (AllByRecursion IsLogRecord) records recorded.1,
      )

  -- it is not refused
  pub own_not_refused : (own : Own) (world : WorldState) (read : ReadForm) (text : List ℕ) (number : ℕ) → IsPositionNeeded own world → IsOwnForm functions own world read text
      → IsNotAdded (transaction_value functions.names world (object_of read.datum)) (unadded.Refused number) → ⊥
  own_not_refused own world read text number needed is given =
      let here = own_accepted functions.names world own is.all_there needed in
      no_error here.0 (own_left own world) number (sym here.1 ∙ ap (transaction_value functions.names world) (sym is.object) ∙ given)

  pub own_round : (own : Own) (held : Held) (batch : Batch) (world new : WorldState) (read : ReadForm) (text : List ℕ) (e : Evaluated) → IsPositionNeeded own world → IsOwnForm functions own world read text
      → transaction_value functions.names world (object_of read.datum) ≡ Ok (done e new) → entries_in batch ≡ entries_in held.batch ++ records_of e.wrote Rescue text
      → round_in (record held { batch = batch }) new ≡ with_own own (round_in held world)
  own_round own held batch world new read text e needed is accepted taken =
      let added = own_added own world new read text e needed is accepted in
      let records : records_of e.wrote Rescue text ≡ accepted_record Rescue (own_text own) ∷ [] =
      ap (λ (b : Bool). records_of b Rescue text) added.1 ∙ ap (λ t. accepted_record Rescue t ∷ []) is.own_is in
      let entries = taken ∙ ap (λ es. entries_in held.batch ++ es) records in
      λ i. record { told = map told_in held.answers.items; last = held.last; left = added.0 i; entries = entries i; wrote = held.wrote }

-- ---- answers

-- whether a text wrote shows in how many records there are
wrote_shown : (mode : Mode) (given : Result Acceptance ℕ) (old new : List LogRecord) → new ≡ old ++ logged_entries mode given → nat_lt (length old) (length new) ≡ wrote_by given
wrote_shown mode (Ok given) old new is = by given.wrote refl where
  by : (b : Bool) → given.wrote ≡ b → nat_lt (length old) (length new) ≡ b
  by true wrote =
      let longer : length new ≡ length old + 1 = ap length is ∙ length-append old (logged_entries mode (Ok given)) ∙ ap (λ (b : Bool). length old + length (records_of b mode given.text)) wrote in
      lt-ltb (length old) (length new) (omega (arith, longer))
  by false wrote =
      let same : length new ≡ length old + 0 = ap length is ∙ length-append old (logged_entries mode (Ok given)) ∙ ap (λ (b : Bool). length old + length (records_of b mode given.text)) wrote in
      le-ltb (length old) (length new) (omega (arith, same))
wrote_shown mode (Err number) old new is =
    let same : length new ≡ length old + 0 = ap length is ∙ length-append old [] in
    le-ltb (length old) (length new) (omega (arith, same))

-- a message that was evaluated, with its answer
pub given_round : (held : Held) (batch : Batch) (outcome : Outcome) (w v : WorldState) (given : Result Acceptance ℕ) (number : ℕ) (text : List ℕ) (kept now : ℕ) (both : Bool)
    → kept ≡ length (entries_in held.batch) → now ≡ length (entries_in batch) → both ≡ (held.wrote || nat_lt kept now)
    → IsTurn Current given w v (entries_in held.batch) (entries_in batch) outcome → text ≡ answer_in v (told_by outcome)
    → with_answer text (nat_lt kept now) (round_in (record held { batch = batch; last = number; wrote = both }) v) ≡ with_given number given (round_in held w)
given_round held batch outcome w v given number text kept now both kept_is now_is both_is turn text_is =
    let wrote : nat_lt kept now ≡ wrote_by given =
    ap (λ n. nat_lt n now) kept_is ∙ ap (nat_lt (length (entries_in held.batch))) now_is ∙ wrote_shown Current given (entries_in held.batch) (entries_in batch) turn.entries in
    let answer : text ≡ answer_in (world_left_after w given) (told_of given) = text_is ∙ (λ i. answer_in (turn.left i) (turn.told i)) in
    let any : both ≡ (held.wrote || wrote_by given) = both_is ∙ ap (λ (b : Bool). held.wrote || b) wrote in
    λ i. record {
      told = map told_in held.answers.items ++ (answer i, wrote i) ∷ [];
      last = number;
      left = turn.left i;
      entries = turn.entries i;
      wrote = any i;
    }

-- a form that is no message, and was evaluated
pub form_round : (held : Held) (batch : Batch) (outcome : Outcome) (w v : WorldState) (given : Result Acceptance ℕ) (kept now : ℕ) (both : Bool)
    → kept ≡ length (entries_in held.batch) → now ≡ length (entries_in batch) → both ≡ (held.wrote || nat_lt kept now)
    → IsTurn Rescue given w v (entries_in held.batch) (entries_in batch) outcome
    → round_in (record held { batch = batch; wrote = both }) v ≡ with_form_given given (round_in held w)
form_round held batch outcome w v given kept now both kept_is now_is both_is turn =
    let wrote : nat_lt kept now ≡ wrote_by given =
    ap (λ n. nat_lt n now) kept_is ∙ ap (nat_lt (length (entries_in held.batch))) now_is ∙ wrote_shown Rescue given (entries_in held.batch) (entries_in batch) turn.entries in
    let any : both ≡ (held.wrote || wrote_by given) = both_is ∙ ap (λ (b : Bool). held.wrote || b) wrote in
    λ i. record {
      told = map told_in held.answers.items;
      last = held.last;
      left = turn.left i;
      entries = turn.entries i;
      wrote = any i;
    }

-- a question, with its answer
pub asked_round : (functions : Functions) (held : Held) (before : Round) (u v : WorldState) (asked text : List ℕ) → v ≡ u → text ≡ answer_to_question functions u asked → round_in held u ≡ without_its_position before
    → with_answer text false (round_in held v) ≡ with_asked functions asked before
asked_round functions held before u v asked text same answer is =
    (λ i. with_answer (answer i) false (round_in held (same i))) ∙ ap (after_question functions asked) is

pub told_made : (functions : Functions) (held : Held) (first u v : WorldState) (text : List ℕ) → v ≡ u → MayBeLogged functions first (round_in held u) → MayBeLogged functions first (with_answer text false (round_in held v))
told_made functions held first u v text same made = record { again = made.again ∙ ap Some (sym same); fit = made.fit }

-- a message with an old number
pub old_request : (functions : Functions) (before : Round) (request : Request) (number : ℕ) → request.number ≡ Some number → number ≤ before.last → one_request functions before request ≡ with_old before
old_request functions before request number is old =
    ap (λ o. by_number functions before o request.text.now) is
    ∙ ap (λ (b : Bool). if b then with_old before else with_message functions number request.text.now before) (le-leb number before.last old)
