-- How messages are begun.
use Rattle.std.proofs.Common.{◌≡◌, inl, inr, ℕ, Bool, true, false, List, Some, Ok, Err, unwrap_or, sym, ap, subst, ◌∙◌, arith}
use Rattle.disk_trait.specs.Disk.{State}
use Rattle.lisp_object.specs.declared.refusal.TheConstants.{LOG_FULL}
use Rattle.message_session.specs.Account.{IsPositionToldIn}
use Rattle.message_session.specs.MessageSessions.{HasNoRoomToBegin}
use Rattle.plist_state.specs.State.{WorldState}
use Rattle.prevalence_store.specs.calls.Execute.{Executes, Stores}
use Rattle.prevalence_store.specs.calls.Store.{StoreView}
use Rattle.prevalence_store.specs.declared.outcome.Outcome.TheVariants.{Refused}
use Rattle.messages.specs.MessageCalls.{BeginsMessages}
use Rattle.messages.specs.Position.{position}
use Rattle.session_words.specs.declared.mode.Mode.{Mode}
use Rattle.user_macros.specs.Functions.{Functions}

module _ (functions : Functions) {D R : Type 0} (state : D → State) (old new : StoreView D R) where
  left_by_form : (wrote : Bool) (mode : Mode) (text : List ℕ) (left : WorldState) → Stores state old new wrote mode text left → new.world ≡ Some left
  left_by_form true mode text left stores = stores.left
  left_by_form false mode text left stores = stores.1

  -- the store has a world then
  pub world_begun : (w : WorldState) (number : ℕ) → old.world ≡ Some w → BeginsMessages functions state old new w (Ok number) → (first : WorldState) × (new.world ≡ Some first)
  world_begun w number known (inl there) = (w, ap (λ (s : StoreView D R). s.world) there.1 ∙ known)
  world_begun w number known (inr set) = (set.3.1.given.world, left_by_form set.3.1.given.wrote _ set.3.1.given.text set.3.1.given.world set.3.1.stored)

  -- and the number is told in it
  pub told_in : (w : WorldState) (number : ℕ) → old.world ≡ Some w → BeginsMessages functions state old new w (Ok number) → (now : WorldState) → new.world ≡ Some now → IsPositionToldIn number now
  told_in w number known (inl there) now is =
      let both : Some w ≡ Some now = sym known ∙ sym (ap (λ (s : StoreView D R). s.world) there.1) ∙ is in
      let same : w ≡ now = cc in
      omega (arith, ap (λ o. unwrap_or o 0) (subst (λ v. position v ≡ Some number) same there.0))
  told_in w number known (inr set) now is = omega (arith, set.0)

  of_full : (w : WorldState) (mode : Mode) (text : List ℕ) (number : ℕ) → number ≡ LOG_FULL → Executes functions state old new w mode text (Refused number) → new ≡ old
  of_full w mode text number full (inl down) = down.unchanged
  of_full w mode text number full (inr (inl room)) = room.unchanged
  of_full w mode text number full (inr (inr (inl fault))) = absurd (omega (arith, fault.device, full))
  of_full w mode text number full (inr (inr (inr memory))) = memory.unchanged

  -- where there is no room nothing was done
  pub full_unbegun : (w : WorldState) (number : ℕ) → number ≡ LOG_FULL → BeginsMessages functions state old new w (Err number) → new ≡ old
  full_unbegun w number full (inl no_position) = no_position.3
  full_unbegun w number full (inr (inl hidden)) = hidden.3
  full_unbegun w number full (inr (inr (inl memory))) = memory.1
  full_unbegun w number full (inr (inr (inr refused))) = of_full w _ _ number full refused.2

  -- so there is none in the store as it is then
  pub no_room_begun : (w : WorldState) (number : ℕ) → number ≡ LOG_FULL → BeginsMessages functions state old new w (Err number) → HasNoRoomToBegin functions state new w
  no_room_begun w number full refused =
      subst (λ (s : StoreView D R). BeginsMessages functions state s new w (Err LOG_FULL)) (sym (full_unbegun w number full refused))
      (subst (λ n. BeginsMessages functions state old new w (Err n)) full refused)
