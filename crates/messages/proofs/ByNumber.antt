-- The number of a refusal of requests tells its cause.
use Rattle.std.proofs.Common.{◌≡◌, inl, inr, ℕ, ◌<◌, List, Err, refl, sym, subst, arith}
use Rattle.disk_trait.specs.Disk.{State}
use Rattle.lisp_object.specs.declared.refusal.TheConstants.{DEVICE}
use Rattle.messages.specs.Refusals.{AreRefusedBy}
use Rattle.plist_state.specs.State.{WorldState}
use Rattle.prevalence_store.specs.calls.Store.{StoreView}
use Rattle.prevalence_store.specs.declared.failure.Unlogged.{Unlogged}
use Rattle.prevalence_store.specs.declared.failure.Unlogged.TheVariants.{Full, DeviceFault, OutOfMemory}
use Rattle.messages.specs.declared.own.Own.{Own}
use Rattle.messages.specs.declared.request.Request.{Request}
use Rattle.prevalence_store.specs.meaning.Acceptance.{IsFormNumber, accepts}
use Rattle.messages.specs.MessageAnswers.{round_after_requests, first_round}
use Rattle.messages.specs.Position.{own_text}
use Rattle.messages.specs.MessageCalls.{AnswersRequests, AreNotAnswered, IsOwnRefused, RefusesOwn}
use Rattle.prevalence_store.specs.steps.Failure.{failure_number}
use Rattle.session_words.specs.declared.mode.Mode.{Mode}
use Rattle.session_words.specs.declared.mode.Mode.TheVariants.{Rescue}
use Rattle.user_macros.specs.Functions.{Functions}

module _ (functions : Functions)
    (numbers : (w : WorldState) (mode : Mode) (text : List ℕ) (number : ℕ) → accepts functions w mode text ≡ Err number → IsFormNumber number) where
  own_number : (w : WorldState) (own : Own) (number : ℕ) → IsOwnRefused functions w own number → number < DEVICE
  own_number w own number (inl is) = omega (arith, (numbers w Rescue (own_text own) number is).to)
  own_number w own number (inr other) = omega (arith, other.0)

  module _ {D R : Type 0} (state : D → State) (old new : StoreView D R) (world : WorldState) (last : ℕ) (requests : List Request) where
    form_number : (number : ℕ) → RefusesOwn functions (first_round last world) requests number → number < DEVICE
    form_number number (inl before) = own_number _ _ number before.4.1.1
    form_number number (inr after) = own_number _ _ number after.1

    by_form : (number : ℕ) → RefusesOwn functions (first_round last world) requests number → new ≡ old → AreRefusedBy functions state old new world last requests number
    by_form number own same = let below = form_number number own in record {
      device = λ is. absurd (omega (arith, is, below));
      unchanged = λ _. same;
      full = λ is. absurd (omega (arith, is, below));
      own = λ _ _ _. (below, own);
    }

    by_cause : (cause : Unlogged) → AreNotAnswered functions state old new world (round_after_requests functions (first_round last world) requests) cause
        → AreRefusedBy functions state old new world last requests (failure_number cause)
    by_cause Full left = record {
      device = λ is. absurd (omega (arith, is));
      unchanged = λ _. left.unchanged refl;
      full = λ _. left.full refl;
      own = λ _ other _. absurd (other refl);
    }
    by_cause DeviceFault left = record {
      device = λ _. left.stopped refl;
      unchanged = λ other. absurd (other refl);
      full = λ is. absurd (omega (arith, is));
      own = λ other _ _. absurd (other refl);
    }
    by_cause OutOfMemory left = record {
      device = λ is. absurd (omega (arith, is));
      unchanged = λ _. left.unchanged refl;
      full = λ is. absurd (omega (arith, is));
      own = λ _ _ other. absurd (other refl);
    }

    pub by_number : (number : ℕ) → AnswersRequests functions state old new world last requests (Err number) → AreRefusedBy functions state old new world last requests number
    by_number number (inl own) = by_form number own.0 own.1
    by_number number (inr unlogged) = subst (AreRefusedBy functions state old new world last requests) (sym unlogged.1) (by_cause unlogged.0 unlogged.2)
