-- Frames that stand whole in bytes, and how far their answers are.
use Rattle.std.proofs.Common.{◌≡◌, ℕ, List, [], ◌∷◌, ◌++◌, Option, Some, refl, sym, ap, subst, ◌∙◌, append_assoc}
use Rattle.std.specs.List.{AllByRecursion, flat_map}
use Rattle.std.proofs.lemmas.Grind.{flat_map-append}
use Rattle.disk_trait.specs.Disk.{State}
use Rattle.message_frames.specs.Frames.{AreFrames, IsFrame, Sent, frame_bytes}
use Rattle.message_laws.specs.NearRounds.{IsTidy}
use Rattle.message_session.specs.FrameAnswers.{answered_bytes}
use Rattle.message_session.specs.MessageSessions.{AreFramesAnswered, text_limit}
use Rattle.message_session.specs.Steps.{ServesFrames}
use Rattle.message_session.proofs.Rounds.{bytes_of_both, first_after, more_after}
use Rattle.message_session.proofs.Streams.{none_written, writes_both}
use Rattle.plist_state.specs.State.{WorldState}
use Rattle.prevalence_store.specs.calls.Store.{StoreView}
use Rattle.sessions.specs.Streams.{Writes}
use Rattle.user_macros.specs.Functions.{Functions}

-- ---- frames in bytes

all_both : (P : Sent → Type 0) (xs ys : List Sent) → AllByRecursion P xs → AllByRecursion P ys → AllByRecursion P (xs ++ ys)
all_both P [] ys first second = second
all_both P (x ∷ xs) ys first second = (first.0, all_both P xs ys first.1 second)

all_first : (P : Sent → Type 0) (xs ys : List Sent) → AllByRecursion P (xs ++ ys) → AllByRecursion P xs
all_first P [] ys all = tt
all_first P (x ∷ xs) ys all = (all.0, all_first P xs ys all.1)

pub no_frames : (bytes : List ℕ) → AreFrames text_limit [] bytes bytes
no_frames bytes = record { parts = refl; each = tt }

pub frames_both : (xs ys : List Sent) (bytes mid rest : List ℕ) → AreFrames text_limit xs mid bytes → AreFrames text_limit ys rest mid → AreFrames text_limit (xs ++ ys) rest bytes
frames_both xs ys bytes mid rest first second = record {
  parts = first.parts ∙ ap (λ l. flat_map frame_bytes xs ++ l) second.parts
      ∙ sym (append_assoc (flat_map frame_bytes xs) (flat_map frame_bytes ys) rest)
      ∙ ap (λ l. l ++ rest) (sym (flat_map-append frame_bytes xs ys));
  each = all_both (IsFrame text_limit) xs ys first.each second.each;
}

-- the first of them
pub frames_first : (xs ys : List Sent) (bytes rest : List ℕ) → AreFrames text_limit (xs ++ ys) rest bytes → AreFrames text_limit xs (flat_map frame_bytes ys ++ rest) bytes
frames_first xs ys bytes rest frames = record {
  parts = frames.parts ∙ ap (λ l. l ++ rest) (flat_map-append frame_bytes xs ys) ∙ append_assoc (flat_map frame_bytes xs) (flat_map frame_bytes ys) rest;
  each = all_first (IsFrame text_limit) xs ys frames.each;
}

-- more bytes came
pub frames_fed : (xs : List Sent) (bytes rest more : List ℕ) → AreFrames text_limit xs rest bytes → AreFrames text_limit xs (rest ++ more) (bytes ++ more)
frames_fed xs bytes rest more frames = record {
  parts = ap (λ l. l ++ more) frames.parts ∙ append_assoc (flat_map frame_bytes xs) rest more;
  each = frames.each;
}

-- ---- answers

module _ (functions : Functions) (last : ℕ) (w : WorldState) (tidy : IsTidy w.properties) {D R : Type 0} (state : D → State) where
  module _ (store : StoreView D R) (known : store.world ≡ Some w) (held : Option (List ℕ)) where
    pub none_answered : AreFramesAnswered functions last w state store held held (answered_bytes functions last w) [] last
    none_answered = record { after = first_after functions last w tidy store known; output = none_written held }

    pub none_served : (bytes : List ℕ) → ServesFrames functions last w state store held held last bytes [] bytes
    none_served bytes = record { parts = no_frames bytes; answered = none_answered }

  module _ (mid : StoreView D R) (held between : Option (List ℕ)) (frames : List Sent) (mid_last : ℕ)
      (first : AreFramesAnswered functions last w state mid held between (answered_bytes functions last w) frames mid_last) (more : List Sent) (written : Option (List ℕ)) where
    pub answered_both : (new : StoreView D R) (new_last : ℕ)
        → AreFramesAnswered functions mid_last first.after.left state new between written (answered_bytes functions mid_last first.after.left) more new_last
        → AreFramesAnswered functions last w state new held written (answered_bytes functions last w) (frames ++ more) new_last
    answered_both new new_last second = record {
      after = more_after functions last w tidy frames mid_last mid first.after more new_last new second.after;
      output = subst (Writes held written) (sym (bytes_of_both functions last w tidy frames mid_last mid first.after more))
          (writes_both held between written _ _ first.output second.output);
    }

  -- ---- bytes

  module _ (mid : StoreView D R) (held between written : Option (List ℕ)) (read : List ℕ) (frames : List Sent) (rest : List ℕ) (mid_last : ℕ)
      (first : ServesFrames functions last w state mid held between mid_last read frames rest) where
    pub serves_both : (new : StoreView D R) (new_last : ℕ) (more : List Sent) (after : List ℕ)
        → ServesFrames functions mid_last first.answered.after.left state new between written new_last rest more after
        → ServesFrames functions last w state new held written new_last read (frames ++ more) after
    serves_both new new_last more after second = record {
      parts = frames_both frames more read rest after first.parts second.parts;
      answered = answered_both mid held between frames mid_last first.answered more written new new_last second.answered;
    }

  -- more bytes came
  pub served_fed : (store : StoreView D R) (held written : Option (List ℕ)) (read : List ℕ) (frames : List Sent) (rest : List ℕ) (now_last : ℕ) (more : List ℕ)
      → ServesFrames functions last w state store held written now_last read frames rest → ServesFrames functions last w state store held written now_last (read ++ more) frames (rest ++ more)
  served_fed store held written read frames rest now_last more serves = record {
    parts = frames_fed frames read rest more serves.parts;
    answered = serves.answered;
  }
