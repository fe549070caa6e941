use Rattle.std.proofs.Common.{◌≡◌, ◌++◌, ℕ, List, [], Option, None, Some, map, sym, ap, subst}
use Rattle.std.specs.Option.{option_map_or}
use Rattle.feeding_laws.specs.Feeding.{FeedsAgain, FrameHanding, IsFirstMessageAccount}
use Rattle.message_frames.specs.Frames.{Sent, sent_frame}
use Rattle.message_session.specs.Account.{MessageAccount}
use Rattle.prevalence_store.specs.calls.Store.{StoreView}
use Rattle.law_tests.specs.FirstAnswers.{account_by}
use Rattle.law_tests.proofs.first_answers.FirstAnswers.may_feed_again.Goals as goal

-- nothing was answered by then
none_answered : {D R : Type 0} (position : Option ℕ) (store : StoreView D R) (kept : MessageAccount D) → account_by position store ≡ Some kept → kept.answered ≡ []
none_answered {D} None store kept is = absurd (cc)
none_answered {D} (Some p) store kept is = sym (ap (λ (o : Option (MessageAccount D)). option_map_or (λ (a : MessageAccount D). a.answered) o []) is)

pub returns : goal.returns
returns g c = λ kept is told sound honest keeps more image now unnamed later left means.
    let functions = g.M.Meaning.Meaning.functions in
    let frames = map sent_frame c.args.frames.now in
    let none = none_answered c.args.self.now.position c.args.self.now.start.value kept is in
    let one : FrameHanding g.row.D.Denot g.row.M.Denot = record { store = c.args.store.now; bytes = c.args.bytes.now; frames = frames } in
    let first : IsFirstMessageAccount kept = record { none = none; told = told; sound = sound } in
    subst (λ (answered : List Sent). FeedsAgain functions kept.last kept.now (answered ++ (frames ++ more)) now) none
    (c.feeding_again.ensures.while_stored functions kept [] one more image now first honest keeps tt (c.requires.stored kept is) unnamed later left means)
