use Rattle.std.proofs.Common.{◌≡◌, ℕ, Option, None, Some, IsSome, unwrap_or, refl, sym, ap, subst}
use Rattle.message_session.specs.Account.{MessageAccount, first_message_account}
use Rattle.plist_state.specs.State.{WorldState, initial}
use Rattle.prevalence_store.specs.calls.Store.{StoreView}
use Rattle.law_tests.specs.FirstAnswers.{account_by}
use Rattle.law_tests.proofs.first_answers.FirstAnswers.begin.Goals as goal

-- the account is over the world that the store has
begun_over : {D : Type 0} (world : Option WorldState) (disk : D) (position : ℕ) (later : MessageAccount D) → IsSome world
    → Some (first_message_account None position (unwrap_or world initial) disk) ≡ Some later
    → (known : WorldState) × (world ≡ Some known) × (later ≡ first_message_account None position known disk)
begun_over {D} (Some known) disk position later some is = (known, refl, sym (ap (λ (o : Option (MessageAccount D)). unwrap_or o later) is))
begun_over {D} None disk position later some is = absurd (cc)

pub returns-then-is_open-clause-kept : goal.returns-then-is_open-clause-kept
returns-then-is_open-clause-kept g c = λ later is.
    begun_over c.args.store.now.world c.args.store.now.disk c.args.position later (c.if-is_open.ensures.0 refl)
    (subst (λ (store : StoreView g.row.D.Denot g.row.M.Denot). account_by (Some c.args.position) store ≡ Some later) c.of.ensures is)
