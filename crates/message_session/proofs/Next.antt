-- The frames of a recipient's account, and the input.
--     next_first, next_after, next_none      the next frames: the first of them, and those after them
--     next_of_bytes, bytes_after      the next bytes
--     read_begun, read_fed, read_on, read_next      what was read so far
--     more_none, more_both, more_first      the frames that were answered since
use Rattle.std.proofs.Common.{◌≡◌, ℕ, List, [], ◌++◌, take, drop, Option, None, Some, Ok, unwrap_or, refl, sym, ap, subst, ◌∙◌, append_assoc}
use Rattle.std.specs.Io.KnownBytes.{Consumes}
use Rattle.std.specs.List.{flat_map}
use Rattle.std.specs.Option.{option_map}
use Rattle.std.proofs.lemmas.List.{append-nil, take-append-drop}
use Rattle.message_frames.specs.Frames.{AreFrames, Sent, frame_bytes}
use Rattle.message_session.specs.Account.{MessageAccount, AreNextFrames, with_frames}
use Rattle.message_session.specs.MessageSessions.{text_limit}
use Rattle.message_session.specs.Standing.{AnswersFirstOf, AnswersMore, FramesComeNext, BytesComeNext, IsNextInInput, IsReadIn}
use Rattle.message_session.specs.Steps.{TakesPiece}
use Rattle.message_session.proofs.Frames.{frames_both, frames_fed, frames_first, no_frames}
use Rattle.message_session.proofs.Streams.{read_both}
use Rattle.prevalence_store.specs.calls.Store.{StoreView}
use Rattle.user_macros.specs.Functions.{Functions}

-- what a recipient that keeps account kept before
pub kept_before : {A : Type 0} (change : A → A) (told : Option A) (later : A) → option_map change told ≡ Some later → (account : A) × (told ≡ Some account) × (change account ≡ later)
kept_before change None later is = absurd (cc)
kept_before change (Some account) later is = (account, refl, cc)

-- a reader that was not read
begins_unread : (input remaining : Option (List ℕ)) → ((all : List ℕ) → input ≡ Some all → remaining ≡ Some all) → Consumes input remaining []
begins_unread None remaining told = tt
begins_unread (Some all) remaining told = subst (λ o. Consumes (Some all) o []) (sym (told all refl)) refl

-- what is left of the input comes after it
whole_of : (input left : Option (List ℕ)) (read : List ℕ) → Consumes input left read → (more : List ℕ) × ((told : List ℕ) → input ≡ Some told → read ++ more ≡ told)
whole_of None left read reads = ([], λ told is. absurd (cc))
whole_of (Some xs) None read reads = absurd reads
whole_of (Some xs) (Some ys) read reads = (ys, λ told is. sym reads ∙ (let same : xs ≡ told = cc in same))

module _ {D : Type 0} where
  -- ---- the next frames

  pub next_first : (account : MessageAccount D) (xs ys : List Sent) → AreNextFrames account (xs ++ ys) → AreNextFrames account xs
  next_first account xs ys next = record {
    all = next.all;
    of_input = next.of_input;
    rest = flat_map frame_bytes ys ++ next.rest;
    parts = frames_first (account.answered ++ xs) ys next.all next.rest (subst (λ fs. AreFrames text_limit fs next.rest next.all) (sym (append_assoc account.answered xs ys)) next.parts);
  }

  pub next_taken : (account : MessageAccount D) (frames : List Sent) (n : ℕ) → AreNextFrames account frames → AreNextFrames account (take n frames)
  next_taken account frames n next = next_first account (take n frames) (drop n frames) (subst (AreNextFrames account) (sym (take-append-drop n frames)) next)

  pub next_after : (account later : MessageAccount D) (xs ys : List Sent) → later.input ≡ account.input → later.answered ≡ account.answered ++ xs → AreNextFrames account (xs ++ ys) → AreNextFrames later ys
  next_after account later xs ys input answered next = record {
    all = next.all;
    of_input = λ told is. next.of_input told (sym input ∙ is);
    rest = next.rest;
    parts = subst (λ fs. AreFrames text_limit fs next.rest next.all) (sym (append_assoc account.answered xs ys) ∙ ap (λ fs. fs ++ ys) (sym answered)) next.parts;
  }

  pub next_none : (account later : MessageAccount D) (xs : List Sent) → later.input ≡ account.input → later.answered ≡ account.answered ++ xs → AreNextFrames account xs → AreNextFrames later []
  next_none account later xs input answered next = next_after account later xs [] input answered (subst (AreNextFrames account) (sym (append-nil xs)) next)

  -- before the first
  pub next_begun : (account : MessageAccount D) → account.answered ≡ [] → AreNextFrames account []
  next_begun account none = record {
    all = unwrap_or account.input [];
    of_input = λ told is. ap (λ o. unwrap_or o []) is;
    rest = unwrap_or account.input [];
    parts = subst (λ fs. AreFrames text_limit (fs ++ []) (unwrap_or account.input []) (unwrap_or account.input [])) (sym none) (no_frames (unwrap_or account.input []));
  }

  -- ---- the next bytes

  pub next_of_bytes : (account : MessageAccount D) (bytes : List ℕ) (frames : List Sent) (rest : List ℕ) → IsNextInInput account bytes → AreFrames text_limit frames rest bytes → AreNextFrames account frames
  next_of_bytes account bytes frames rest next parts = record {
    all = next.all;
    of_input = next.of_input;
    rest = rest ++ next.rest;
    parts = frames_both account.answered frames next.all (bytes ++ next.rest) (rest ++ next.rest) next.parts (frames_fed frames bytes rest next.rest parts);
  }

  pub bytes_after : (old new : Option (MessageAccount D)) (bytes rest : List ℕ) → BytesComeNext old bytes → AnswersFirstOf old new bytes rest → BytesComeNext new rest
  bytes_after old new bytes rest comes first later is =
      let more = first.2 later is in
      let next = comes more.0 more.1 in
      record {
        all = next.all;
        of_input = λ told known. next.of_input told (sym more.2 ∙ known);
        rest = next.rest;
        parts = subst (λ fs. AreFrames text_limit fs (rest ++ next.rest) next.all) (sym more.3)
            (frames_both more.0.answered first.0 next.all (bytes ++ next.rest) (rest ++ next.rest) next.parts (frames_fed first.0 bytes rest next.rest first.1));
      }

  -- ---- what was read so far

  pub read_begun : (account : MessageAccount D) (remaining : Option (List ℕ)) → account.answered ≡ [] → ((all : List ℕ) → account.input ≡ Some all → remaining ≡ Some all)
      → (read : List ℕ) × Consumes account.input remaining read × AreFrames text_limit account.answered [] read
  read_begun account remaining none told =
      ([], begins_unread account.input remaining told, subst (λ fs. AreFrames text_limit fs [] []) (sym none) (no_frames []))

  pub read_fed : (told : Option (MessageAccount D)) (left less : Option (List ℕ)) (bytes piece : List ℕ) → Consumes left less piece → IsReadIn told left bytes → IsReadIn told less (bytes ++ piece)
  read_fed told left less bytes piece reads before account is =
      let far = before account is in
      (far.0 ++ piece, read_both account.input left less far.0 piece far.1 reads, frames_fed account.answered far.0 bytes piece far.2)

  pub piece_read : (told : Option (MessageAccount D)) (left less : Option (List ℕ)) (old new : List ℕ) (count : ℕ) → TakesPiece left less old new (Ok count) → IsReadIn told left old → IsReadIn told less new
  piece_read told left less old new count takes before = subst (IsReadIn told less) (sym takes.2) (read_fed told left less old takes.0 takes.1 before)

  pub read_on : (old new : Option (MessageAccount D)) (left : Option (List ℕ)) (bytes rest : List ℕ) → IsReadIn old left bytes → AnswersFirstOf old new bytes rest → IsReadIn new left rest
  read_on old new left bytes rest before first later is =
      let more = first.2 later is in
      let far = before more.0 more.1 in (
        far.0,
        subst (λ input. Consumes input left far.0) (sym more.2) far.1,
        subst (λ fs. AreFrames text_limit fs rest far.0) (sym more.3) (frames_both more.0.answered first.0 far.0 bytes rest far.2 first.1),
      )

  pub read_next : (told : Option (MessageAccount D)) (left : Option (List ℕ)) (bytes : List ℕ) → IsReadIn told left bytes → BytesComeNext told bytes
  read_next told left bytes before account is =
      let far = before account is in
      let whole = whole_of account.input left far.0 far.1 in
      record {
        all = far.0 ++ whole.0;
        of_input = λ all known. whole.1 all known;
        rest = whole.0;
        parts = frames_fed account.answered far.0 bytes whole.0 far.2;
      }

  -- ---- what was answered since

  pub more_none : (told : Option (MessageAccount D)) → AnswersMore told told []
  more_none told later is = (later, is, refl, sym (append-nil later.answered))

  pub more_both : (old mid new : Option (MessageAccount D)) (xs ys : List Sent) → AnswersMore old mid xs → AnswersMore mid new ys → AnswersMore old new (xs ++ ys)
  more_both old mid new xs ys first second later is =
      let two = second later is in
      let one = first two.0 two.1 in
      (one.0, one.1, two.2 ∙ one.2, two.3 ∙ ap (λ fs. fs ++ ys) one.3 ∙ append_assoc one.0.answered xs ys)

  -- bytes, one after the other
  pub first_none : (told : Option (MessageAccount D)) (bytes : List ℕ) → AnswersFirstOf told told bytes bytes
  first_none told bytes = ([], no_frames bytes, more_none told)

  pub first_both : (old mid new : Option (MessageAccount D)) (bytes between rest : List ℕ) → AnswersFirstOf old mid bytes between → AnswersFirstOf mid new between rest → AnswersFirstOf old new bytes rest
  first_both old mid new bytes between rest first second =
      (first.0 ++ second.0, frames_both first.0 second.0 bytes between rest first.1 second.1, more_both old mid new first.0 second.0 first.2 second.2)

  pub come_first : (told : Option (MessageAccount D)) (xs ys : List Sent) → FramesComeNext told (xs ++ ys) → FramesComeNext told xs
  come_first told xs ys come account is = next_first account xs ys (come account is)

  -- those after them come next
  pub come_after : (old new : Option (MessageAccount D)) (xs ys : List Sent) → FramesComeNext old (xs ++ ys) → AnswersMore old new xs → FramesComeNext new ys
  come_after old new xs ys come more later is =
      let one = more later is in
      next_after one.0 later xs ys one.2 one.3 (come one.0 one.1)

-- the answers to frames were handed on
pub more_handed : (functions : Functions) {D R : Type 0} (told now : Option (MessageAccount D)) (frames : List Sent) (store : StoreView D R)
    → ((later : MessageAccount D) → now ≡ Some later → option_map (with_frames functions frames store) told ≡ Some later) → AnswersMore told now frames
more_handed functions told now frames store kept later is =
    let before = kept_before (with_frames functions frames store) told later (kept later is) in
    (before.0, before.1, ap (λ (a : MessageAccount _). a.input) (sym before.2), ap (λ (a : MessageAccount _). a.answered) (sym before.2))
