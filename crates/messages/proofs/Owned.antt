-- On the store's own forms.
--     clearing_there, setting_there      whether the packages have each symbol of one
--     read_parts, own_read      one that is read as what it is
--     form_taken, form_left, not_cleared, not_closed      why a form of the store's own is not carried out
--     refuses_question, refuses_message      so why requests are refused before one of them
--     at_end      and after all of them
--     no_device      which number is that of a device fault alone
use Rattle.std.proofs.Common.{◌≡◌, ◌≢◌, ℕ, ◌<◌, Bool, true, false, ◌&&◌, List, length, codes, None, Some, IsSome, Result, Ok, Err, IfErr, refl, sym, ap, subst, ◌∙◌, inr}
use Rattle.lisp_object.specs.Datum.{object_of}
use Rattle.lisp_object.specs.declared.refusal.TheConstants.{DEVICE}
use Rattle.lisp_object.proofs.Objects.{object_laws}
use Rattle.lisp_object.proofs.Restored.{datum_of, from_object}
use Rattle.lisp_reading.specs.Reading.{form}
use Rattle.form_eval.specs.declared.read_form.ReadForm.{ReadForm}
use Rattle.package_table.specs.Lookup.{is_symbol}
use Rattle.package_table.specs.Symbols.{are_there}
use Rattle.package_table.specs.Table.{Table, common_lisp, common_lisp_user}
use Rattle.plist_state.specs.State.{WorldState}
use Rattle.session_words.specs.declared.mode.Mode.TheVariants.{Rescue}
use Rattle.prevalence_store.specs.declared.failure.Unadded.{Unadded}
use Rattle.prevalence_store.specs.declared.failure.Unadded.TheVariants.{OutOfMemory, Refused}
use Rattle.prevalence_store.specs.declared.failure.Unlogged.{Unlogged}
use Rattle.prevalence_store.specs.declared.failure.Unlogged.TheVariants as unlogged
use Rattle.messages.specs.declared.own.Own.{Own}
use Rattle.messages.specs.declared.own.Own.TheVariants.{Clearing, Position}
use Rattle.messages.specs.declared.request.Request.{Request}
use Rattle.prevalence_store.specs.meaning.Acceptance.{read_in, transaction_value}
use Rattle.messages.specs.MessageAnswers.{Round, each_request}
use Rattle.messages.specs.MessageCalls.{IsNotCleared, IsNotClosed, IsNotOld, IsOwnRead, IsOwnRefused, RefusesOwn, RefusesRequest}
use Rattle.messages.specs.Position.{own_form, own_text, position_property}
use Rattle.messages.specs.Rounds.{IfRefused, IsPositionNeeded, IsOwnForm, own_datum}
use Rattle.prevalence_store.specs.steps.Batch.{IsNotAdded}
use Rattle.prevalence_store.specs.steps.Failure.{failure_number, is_unlogged_by_device}
use Rattle.prevalence_store.specs.steps.Setting.{IsWholeForm}
use Rattle.messages.proofs.Making.{own_not_refused}
use Rattle.user_macros.specs.Functions.{Functions}

-- ---- symbols

each_once : (q p n : Bool) → ((q && p) && n) ≡ (q && (p && (n && (q && (p && (n && (n && true)))))))
each_once false p n = refl
each_once true false n = refl
each_once true true false = refl
each_once true true true = refl

each_once_more : (q p n : Bool) → ((q && p) && n) ≡ (q && (p && (n && (q && (p && (n && (n && (n && true))))))))
each_once_more false p n = refl
each_once_more true false n = refl
each_once_more true true false = refl
each_once_more true true true = refl

and_then : (a b c : Bool) → ((a && b) && c) ≡ (a && (b && c))
and_then false b c = refl
and_then true b c = refl

module _ (t : Table) (own : Own) (q p n quoted result : Bool) (quote_is : q ≡ is_symbol t common_lisp (codes "QUOTE")) (position_is : p ≡ is_symbol t common_lisp_user (codes "position"))
    (nil_is : n ≡ is_symbol t common_lisp (codes "NIL")) (quoted_is : quoted ≡ ((q && p) && n)) where
  pub clearing_there : (r : Bool) → own ≡ Clearing → r ≡ is_symbol t common_lisp (codes "REMPROP") → result ≡ (r && quoted) → result ≡ are_there t (own_form own)
  clearing_there r own_is name_is result_is =
      result_is
      ∙ (λ i. name_is i && (quoted_is ∙ (λ j. (quote_is j && position_is j) && nil_is j) ∙ each_once (is_symbol t common_lisp (codes "QUOTE")) (is_symbol t common_lisp_user (codes "position")) (is_symbol t common_lisp (codes "NIL"))) i)
      ∙ sym (ap (λ o. are_there t (own_form o)) own_is)

  pub setting_there : (s g names : Bool) (m : ℕ) → own ≡ Position m → s ≡ is_symbol t common_lisp (codes "SETF") → g ≡ is_symbol t common_lisp (codes "GET") → names ≡ (s && g) → result ≡ (names && quoted)
      → result ≡ are_there t (own_form own)
  setting_there s g names m own_is setf_is get_is names_is result_is =
      result_is ∙ ap (λ (b : Bool). b && quoted) names_is ∙ and_then s g quoted
      ∙ (λ i. setf_is i && (get_is i && (quoted_is ∙ (λ j. (quote_is j && position_is j) && nil_is j) ∙ each_once_more (is_symbol t common_lisp (codes "QUOTE")) (is_symbol t common_lisp_user (codes "position")) (is_symbol t common_lisp (codes "NIL"))) i))
      ∙ sym (ap (λ o. are_there t (own_form o)) own_is)

-- ---- what is read

own_restored : (own : Own) → datum_of (own_form own) ≡ own_datum own
own_restored Clearing = refl
own_restored (Position n) = refl

pub read_parts : (functions : Functions) (world : WorldState) (own : Own) (text : List ℕ) (read : ReadForm) (start stop : ℕ) → text ≡ own_text own → IsWholeForm functions world Rescue text read start stop
    → IsOwnRead functions world own → (start ≡ 0) × (stop ≡ length text) × (read.datum ≡ own_datum own)
read_parts functions world own text read start stop text_is whole is =
    let both : form (object_of read.datum) start stop (length text) ≡ form (own_form own) 0 (length (own_text own)) (length (own_text own)) =
    sym whole.reads ∙ ap (read_in functions world Rescue) text_is ∙ is.reads in
    let first : start ≡ 0 = cc in
    let last : stop ≡ length (own_text own) = cc in
    let object : object_of read.datum ≡ own_form own = cc in (
      first,
      last ∙ sym (ap length text_is),
      from_object read.datum (own_form own) whole.may.proper object ∙ own_restored own,
    )

own_object : (own : Own) → object_of (own_datum own) ≡ own_form own
own_object Clearing = simp object_laws refl
own_object (Position n) = simp object_laws refl

pub own_read : (functions : Functions) (world : WorldState) (own : Own) (text : List ℕ) (read : ReadForm) (start stop : ℕ) → text ≡ own_text own → IsWholeForm functions world Rescue text read start stop
    → start ≡ 0 → stop ≡ length text → read.datum ≡ own_datum own → are_there world.packages (own_form own) ≡ true → IsOwnForm functions own world read text
own_read functions world own text read start stop text_is whole first last datum there =
    let object : object_of read.datum ≡ own_form own = ap object_of datum ∙ own_object own in
    record { own_is = text_is; reads = whole.reads ∙ (λ i. form (object i) (first i) (last i) (length text)); object = object; all_there = there; may = whole.may }

-- ---- refusals

module _ (functions : Functions) where
  -- of a form that was read
  pub form_taken : (world : WorldState) (own : Own) (result : Result Unit Unadded) → result ≡ Ok tt → IfErr result (λ cause. IfRefused cause (IsOwnRefused functions world own))
  form_taken world own result is = subst (λ r. IfErr r (λ cause. IfRefused cause (IsOwnRefused functions world own))) (sym is) tt

  module _ (world : WorldState) (own : Own) (read : ReadForm) (text : List ℕ) (needed : IsPositionNeeded own world) (whole : IsOwnForm functions own world read text) where
    left_by : (cause : Unadded) → IsNotAdded (transaction_value functions.names world (object_of read.datum)) cause → IfRefused cause (IsOwnRefused functions world own)
    left_by OutOfMemory given = tt
    left_by (Refused number) given = absurd (own_not_refused functions own world read text number needed whole given)

    pub form_left : (result : Result Unit Unadded) (cause : Unadded) → result ≡ Err cause → IsNotAdded (transaction_value functions.names world (object_of read.datum)) cause
        → IfErr result (λ cause. IfRefused cause (IsOwnRefused functions world own))
    form_left result cause is given = subst (λ r. IfErr r (λ cause. IfRefused cause (IsOwnRefused functions world own))) (sym is) (left_by cause given)

  -- what is refused is so for this
  refused_for : (cause : Unadded) (Before After : ℕ → Type 0) → ((number : ℕ) → Before number → After number) → IfRefused cause Before → IfRefused cause After
  refused_for (Refused number) Before After so refused = so number refused
  refused_for OutOfMemory Before After so refused = tt

  pub not_cleared : {T : Type 0} (round : Round) (result : Result T Unadded) → IsSome (position_property round.left)
      → IfErr result (λ cause. IfRefused cause (IsOwnRefused functions round.left Clearing)) → IfErr result (λ cause. IfRefused cause (IsNotCleared functions round))
  not_cleared round (Ok value) some refused = tt
  not_cleared round (Err cause) some refused = refused_for cause (IsOwnRefused functions round.left Clearing) (IsNotCleared functions round) (λ number is. (some, is)) refused

  pub not_closed : {T : Type 0} (round : Round) (result : Result T Unadded) → round.wrote ≡ true
      → IfErr result (λ cause. IfRefused cause (IsOwnRefused functions round.left (Position round.last))) → IfErr result (λ cause. IfRefused cause (IsNotClosed functions round))
  not_closed round (Ok value) wrote refused = tt
  not_closed round (Err cause) wrote refused = refused_for cause (IsOwnRefused functions round.left (Position round.last)) (IsNotClosed functions round) (λ number is. (wrote, is)) refused

  -- before a request: a question, and a message with a new number
  pub refuses_question : {T : Type 0} (round : Round) (request : Request) (result : Result T Unadded) → request.number ≡ None
      → IfErr result (λ cause. IfRefused cause (IsNotCleared functions round)) → IfErr result (λ cause. IfRefused cause (RefusesRequest functions round request))
  refuses_question round request (Ok value) none refused = tt
  refuses_question round request (Err cause) none refused =
      refused_for cause (IsNotCleared functions round) (RefusesRequest functions round request) (λ number is. (subst (IsNotOld round) (sym none) tt, is)) refused

  pub refuses_message : {T : Type 0} (round : Round) (request : Request) (result : Result T Unadded) (number : ℕ) → request.number ≡ Some number → round.last < number
      → IfErr result (λ cause. IfRefused cause (IsNotCleared functions round)) → IfErr result (λ cause. IfRefused cause (RefusesRequest functions round request))
  refuses_message round request (Ok value) number some over refused = tt
  refuses_message round request (Err cause) number some over refused =
      refused_for cause (IsNotCleared functions round) (RefusesRequest functions round request) (λ n is. (subst (IsNotOld round) (sym some) over, is)) refused

  module _ (first far : Round) (requests : List Request) where
    pub at_end : {T : Type 0} (result : Result T Unadded) → far ≡ each_request functions first requests → IfErr result (λ cause. IfRefused cause (IsNotClosed functions far))
        → IfErr result (λ cause. IfRefused cause (RefusesOwn functions first requests))
    at_end (Ok value) is refused = tt
    at_end (Err cause) is refused =
        refused_for cause (IsNotClosed functions far) (RefusesOwn functions first requests) (λ number closed. inr (subst (λ (r : Round). IsNotClosed functions r number) is closed)) refused

-- what is no device fault has another number
pub no_device : (cause : Unlogged) (number : ℕ) → number ≡ failure_number cause → number ≢ DEVICE → is_unlogged_by_device cause ≡ false
no_device unlogged.Full number is other = refl
no_device unlogged.DeviceFault number is other = absurd (other is)
no_device unlogged.OutOfMemory number is other = refl
