-- Why a fault ends a session: after frames that were answered before, and after other bytes.
--     fault_both, breaks_both, breaks_in_both      after frames that were answered
--     breaks_more, breaks_of      among more frames, and in what was read
--     no_memory, untaken, unrenewed, ..      the causes of one step
use Rattle.std.proofs.Common.{◌≡◌, inl, inr, ℕ, ◌<◌, List, [], ◌++◌, length, Option, Some, refl, sym, ap, subst, ◌∙◌, append_assoc, length-append, arith}
use Rattle.std.specs.List.{flat_map}
use Rattle.std.proofs.lemmas.List.{append-nil}
use Rattle.disk_trait.specs.Disk.{State}
use Rattle.lisp_object.specs.declared.refusal.TheConstants.{LOG_FULL, NO_MEMORY, OUTPUT, SNAPSHOT_TOO_LARGE}
use Rattle.message_frames.specs.Frames.{AreFrames, Sent, frame_bytes}
use Rattle.message_laws.specs.NearRounds.{IsTidy, Near}
use Rattle.message_laws.proofs.Together.{near_itself}
use Rattle.message_session.specs.FrameAnswers.{answered_bytes, each_frame}
use Rattle.message_session.specs.MessageSessions.{AreCarriedOut, AreFramesAnswered, HasCarriedOut, HasCause, HoldsWorldAlone, EndsWithoutMemory, EndsAtRefusedSnapshot, EndsAtRefusedFrames, EndsUnwritten, text_limit}
use Rattle.message_session.specs.Steps.{AreFramesUntaken, Breaks, BreaksIn, IsFaultAfter, RefusesFirst, ServesFrames}
use Rattle.message_session.specs.declared.ended.MessagesEnd.{MessagesEnd}
use Rattle.message_session.specs.declared.ended.MessagesEnd.TheVariants.{End, NoFrame, Fault}
use Rattle.message_session.proofs.Frames.{frames_both, frames_first, no_frames}
use Rattle.message_session.proofs.Rounds.{bytes_of_both, first_after, more_after, more_near}
use Rattle.message_session.proofs.Streams.{none_written, writes_both}
use Rattle.plist_state.specs.State.{WorldState}
use Rattle.prevalence_store.specs.calls.Snapshot.{Snapshots}
use Rattle.prevalence_store.specs.calls.Store.{StoreView}
use Rattle.sessions.specs.Streams.{Writes, WritesPart}
use Rattle.prevalence_store.specs.declared.outcome.Outcome.TheVariants.{Refused}
use Rattle.messages.specs.MessageAnswers.{first_round}
use Rattle.user_macros.specs.Functions.{Functions}

-- of one frame the first ones, if there are some, are one
one_first : (frames front undone : List Sent) → frames ≡ front ++ undone → 0 < length front → length frames ≡ 1 → length front ≡ 1
one_first frames front undone parts some one = omega (arith, ap length parts, length-append front undone, some, one)

module _ (functions : Functions) (last : ℕ) (w : WorldState) (tidy : IsTidy w.properties) {D R : Type 0} (state : D → State) where
  -- ---- after frames that were answered

  module _ (mid : StoreView D R) (held between : Option (List ℕ)) (frames : List Sent) (mid_last : ℕ)
      (first : AreFramesAnswered functions last w state mid held between (answered_bytes functions last w) frames mid_last)
      (written : Option (List ℕ)) (new : StoreView D R) where
    bytes_both : (more : List Sent) → answered_bytes functions last w (frames ++ more) ≡ answered_bytes functions last w frames ++ answered_bytes functions mid_last first.after.left more
    bytes_both more = bytes_of_both functions last w tidy frames mid_last mid first.after more

    write_both : (more : List Sent) (later : Option (List ℕ)) → Writes between later (answered_bytes functions mid_last first.after.left more) → Writes held later (answered_bytes functions last w (frames ++ more))
    write_both more later second = subst (Writes held later) (sym (bytes_both more)) (writes_both held between later _ _ first.output second)

    after_both : (more : List Sent) (now_last : ℕ) (store : StoreView D R) → HasCarriedOut functions mid_last first.after.left more now_last store → HasCarriedOut functions last w (frames ++ more) now_last store
    after_both more now_last store after = more_after functions last w tidy frames mid_last mid first.after more now_last store after

    near_both : (more : List Sent) (now_last : ℕ) (later : WorldState) → Near (each_frame functions (first_round mid_last first.after.left) more) (first_round now_last later)
        → Near (each_frame functions (first_round last w) (frames ++ more)) (first_round now_last later)
    near_both more now_last later near = more_near functions last w tidy frames mid_last mid first.after more now_last later near

    module _ (answered next : List Sent) where
      three : (frames ++ answered) ++ next ≡ frames ++ (answered ++ next)
      three = append_assoc frames answered next

      carried_both : AreCarriedOut functions mid_last first.after.left (answered ++ next) new → AreCarriedOut functions last w ((frames ++ answered) ++ next) new
      carried_both carried = (carried.0, subst (λ fs. HasCarriedOut functions last w fs carried.0 new) (sym three) (after_both (answered ++ next) carried.0 new carried.1))

      unwritten_both : (number : ℕ) → EndsUnwritten functions mid_last first.after.left state new between written (answered_bytes functions mid_last first.after.left) answered next number
          → EndsUnwritten functions last w state new held written (answered_bytes functions last w) (frames ++ answered) next number
      unwritten_both number c = record {
        output = c.output;
        carried_out = carried_both c.carried_out;
        more = c.more;
        more_is = ap (answered_bytes functions last w) three ∙ bytes_both (answered ++ next) ∙ ap (λ l. answered_bytes functions last w frames ++ l) c.more_is
            ∙ sym (append_assoc (answered_bytes functions last w frames) (answered_bytes functions mid_last first.after.left answered) c.more)
            ∙ ap (λ l. l ++ c.more) (sym (bytes_both answered));
        between = c.between;
        first = write_both answered c.between c.first;
        part = c.part;
      }

      memory_both : (number : ℕ) → EndsWithoutMemory functions mid_last first.after.left state new between written (answered_bytes functions mid_last first.after.left) answered next number
          → EndsWithoutMemory functions last w state new held written (answered_bytes functions last w) (frames ++ answered) next number
      memory_both number c = record { memory = c.memory; carried_out = carried_both c.carried_out; output = write_both answered written c.output }

      untaken_both : (number : ℕ) → EndsAtRefusedFrames functions mid_last first.after.left state new between written (answered_bytes functions mid_last first.after.left) answered next number
          → EndsAtRefusedFrames functions last w state new held written (answered_bytes functions last w) (frames ++ answered) next number
      untaken_both number c = record {
        before = c.before;
        before_last = c.before_last;
        after = record { left = c.after.left; known = c.after.known; near = near_both answered c.before_last c.after.left c.after.near };
        asked = c.asked;
        alike = c.alike;
        refused = c.refused;
        full = c.full;
        output = write_both answered written c.output;
      }

      unrenewed_both : (number : ℕ) → EndsAtRefusedSnapshot functions mid_last first.after.left state new between written (answered_bytes functions mid_last first.after.left) answered next number
          → EndsAtRefusedSnapshot functions last w state new held written (answered_bytes functions last w) (frames ++ answered) next number
      unrenewed_both number c = record {
        before = c.before;
        before_last = c.before_last;
        after = record { left = c.after.left; known = c.after.known; near = near_both answered c.before_last c.after.left c.after.near };
        refused = c.refused;
        large = λ is. let none = c.large is in record { one = none.one; asked = none.asked; alike = none.alike; refused = none.refused };
        output = write_both answered written c.output;
      }

      cause_both : (number : ℕ) → HasCause functions mid_last first.after.left state new between written (answered_bytes functions mid_last first.after.left) answered next number
          → HasCause functions last w state new held written (answered_bytes functions last w) (frames ++ answered) next number
      cause_both number (inl c) = inl (unwritten_both number c)
      cause_both number (inr (inl c)) = inr (inl (memory_both number c))
      cause_both number (inr (inr (inl c))) = inr (inr (inl (untaken_both number c)))
      cause_both number (inr (inr (inr c))) = inr (inr (inr (unrenewed_both number c)))

      fault_both : (ended : MessagesEnd) → IsFaultAfter functions mid_last first.after.left state new between written answered next ended
          → IsFaultAfter functions last w state new held written (frames ++ answered) next ended
      fault_both End fault = absurd fault
      fault_both (NoFrame place) fault = absurd fault
      fault_both (Fault number) fault = cause_both number fault

    pub breaks_both : (more : List Sent) (ended : MessagesEnd) → Breaks functions mid_last first.after.left state new between written more ended → Breaks functions last w state new held written (frames ++ more) ended
    breaks_both more ended b = record {
      answered = frames ++ b.answered;
      next = b.next;
      undone = b.undone;
      parts = ap (λ l. frames ++ l) b.parts ∙ sym (append_assoc frames (b.answered ++ b.next) b.undone) ∙ ap (λ l. l ++ b.undone) (sym (append_assoc frames b.answered b.next));
      fault = fault_both b.answered b.next ended b.fault;
    }

  -- ---- among more

  module _ (new : StoreView D R) (held written : Option (List ℕ)) where
    pub breaks_more : (frames more : List Sent) (ended : MessagesEnd) → Breaks functions last w state new held written frames ended → Breaks functions last w state new held written (frames ++ more) ended
    breaks_more frames more ended b = record {
      answered = b.answered;
      next = b.next;
      undone = b.undone ++ more;
      parts = ap (λ l. l ++ more) b.parts ∙ append_assoc (b.answered ++ b.next) b.undone more;
      fault = b.fault;
    }

    -- in what was read
    pub breaks_of : (frames : List Sent) (rest read : List ℕ) (ended : MessagesEnd) → AreFrames text_limit frames rest read → Breaks functions last w state new held written frames ended
        → BreaksIn functions last w state new held written read ended
    breaks_of frames rest read ended parts b = record {
      answered = b.answered;
      next = b.next;
      rest = flat_map frame_bytes b.undone ++ rest;
      parts = frames_first (b.answered ++ b.next) b.undone read rest (subst (λ fs. AreFrames text_limit fs rest read) b.parts parts);
      fault = b.fault;
    }

  pub breaks_in_both : (mid : StoreView D R) (held between written : Option (List ℕ)) (read : List ℕ) (frames : List Sent) (rest : List ℕ) (mid_last : ℕ)
      (first : ServesFrames functions last w state mid held between mid_last read frames rest) (new : StoreView D R) (ended : MessagesEnd)
      → BreaksIn functions mid_last first.answered.after.left state new between written rest ended → BreaksIn functions last w state new held written read ended
  breaks_in_both mid held between written read frames rest mid_last first new ended b = record {
    answered = frames ++ b.answered;
    next = b.next;
    rest = b.rest;
    parts = subst (λ fs. AreFrames text_limit fs b.rest read) (sym (append_assoc frames b.answered b.next))
        (frames_both frames (b.answered ++ b.next) read rest b.rest first.parts b.parts);
    fault = fault_both mid held between frames mid_last first.answered written new b.answered b.next ended b.fault;
  }

  -- ---- the causes of one step

  -- no memory: nothing was done
  pub no_memory : (store : StoreView D R) (held written : Option (List ℕ)) → store.world ≡ Some w → written ≡ held
      → HasCause functions last w state store held written (answered_bytes functions last w) [] [] NO_MEMORY
  no_memory store held written known quiet = inr (inl (record {
    memory = refl;
    carried_out = (last, first_after functions last w tidy store known);
    output = subst (λ o. Writes held o []) (sym quiet) (none_written held);
  }))

  pub breaks_first : (store : StoreView D R) (held written : Option (List ℕ)) (frames : List Sent) → store.world ≡ Some w → written ≡ held → Breaks functions last w state store held written frames (Fault NO_MEMORY)
  breaks_first store held written frames known quiet =
      record { answered = []; next = []; undone = frames; parts = refl; fault = no_memory store held written known quiet }

  pub breaks_in_none : (store : StoreView D R) (held : Option (List ℕ)) (read : List ℕ) → store.world ≡ Some w → BreaksIn functions last w state store held held read (Fault NO_MEMORY)
  breaks_in_none store held read known =
      record { answered = []; next = []; rest = read; parts = no_frames read; fault = no_memory store held held known refl }

  -- the store did not take the first of them
  module _ (old new : StoreView D R) (known : old.world ≡ Some w) (held written : Option (List ℕ)) (quiet : written ≡ held) (frames : List Sent) (number : ℕ) where
    pub breaks_untaken : (number ≡ LOG_FULL → HoldsWorldAlone old w frames) → new ≡ old → AreFramesUntaken functions last w state old frames number → Breaks functions last w state new held written frames (Fault number)
    breaks_untaken full same (inl memory) =
        subst (λ n. Breaks functions last w state new held written frames (Fault n)) (sym memory)
        (breaks_first new held written frames (ap (λ (s : StoreView D R). s.world) same ∙ known) quiet)
    breaks_untaken full same (inr refuses) =
        subst (λ (s : StoreView D R). Breaks functions last w state s held written frames (Fault number)) (sym same)
        (record {
          answered = [];
          next = refuses.front;
          undone = refuses.undone;
          parts = refuses.parts;
          fault = inr (inr (inl (record {
            before = old;
            before_last = last;
            after = record { left = w; known = known; near = near_itself functions (first_round last w) tidy };
            asked = refuses.asked;
            alike = refuses.alike;
            refused = refuses.refused;
            full = λ is.
                let whole = full is in
                record { one = one_first frames refuses.front refuses.undone refuses.parts refuses.some whole.one; none_since = whole.none_since; only_text = whole.only_text };
            output = subst (λ o. Writes held o []) (sym quiet) (none_written held);
          })));
        })

  -- they were carried out, and not answered
  pub breaks_silent : (new : StoreView D R) (held : Option (List ℕ)) (frames undone : List Sent) → AreCarriedOut functions last w frames new
      → Breaks functions last w state new held held (frames ++ undone) (Fault NO_MEMORY)
  breaks_silent new held frames undone carried = record {
    answered = [];
    next = frames;
    undone = undone;
    parts = refl;
    fault = inr (inl (record { memory = refl; carried_out = carried; output = none_written held }));
  }

  pub breaks_unwritten : (new : StoreView D R) (held written : Option (List ℕ)) (frames undone : List Sent) → AreCarriedOut functions last w frames new
      → WritesPart held written (answered_bytes functions last w frames) → Breaks functions last w state new held written (frames ++ undone) (Fault OUTPUT)
  breaks_unwritten new held written frames undone carried part = record {
    answered = [];
    next = frames;
    undone = undone;
    parts = refl;
    fault = inl (record {
      output = refl;
      carried_out = carried;
      more = answered_bytes functions last w frames;
      more_is = refl;
      between = held;
      first = none_written held;
      part = part;
    });
  }

  -- no snapshot was taken, which was due
  pub breaks_unrenewed : (mid new : StoreView D R) (held written : Option (List ℕ)) (frames undone : List Sent) (now_last : ℕ)
      (first : AreFramesAnswered functions last w state mid held written (answered_bytes functions last w) frames now_last) (ended : MessagesEnd)
      → (number : ℕ) × (ended ≡ Fault number) × (number ≡ SNAPSHOT_TOO_LARGE → ⊥) × Snapshots functions state mid new first.after.left (Refused number)
      → Breaks functions last w state new held written (frames ++ undone) ended
  breaks_unrenewed mid new held written frames undone now_last first ended refused =
      subst (Breaks functions last w state new held written (frames ++ undone)) (sym refused.1)
      (record {
        answered = frames;
        next = [];
        undone = undone;
        parts = ap (λ l. l ++ undone) (sym (append-nil frames));
        fault = inr (inr (inr (record {
          before = mid;
          before_last = now_last;
          after = first.after;
          refused = refused.3;
          large = λ is. absurd (refused.2 is);
          output = first.output;
        })));
      })

  -- nor for the next ones, which had no room: for one alone, if it was too large
  pub breaks_roomless : (old new : StoreView D R) → old.world ≡ Some w → (held written : Option (List ℕ)) → written ≡ held → (frames : List Sent) (number : ℕ)
      → RefusesFirst functions last w state old frames LOG_FULL → (number ≡ SNAPSHOT_TOO_LARGE → length frames ≡ 1) → Snapshots functions state old new w (Refused number)
      → Breaks functions last w state new held written frames (Fault number)
  breaks_roomless old new known held written quiet frames number refuses one refused = record {
    answered = [];
    next = refuses.front;
    undone = refuses.undone;
    parts = refuses.parts;
    fault = inr (inr (inr (record {
      before = old;
      before_last = last;
      after = record { left = w; known = known; near = near_itself functions (first_round last w) tidy };
      refused = refused;
      large = λ is. record {
        one = one_first frames refuses.front refuses.undone refuses.parts refuses.some (one is);
        asked = refuses.asked;
        alike = refuses.alike;
        refused = refuses.refused;
      };
      output = subst (λ o. Writes held o []) (sym quiet) (none_written held);
    })));
  }

-- frames that had no room were refused by the store
pub no_room : (functions : Functions) (last : ℕ) (w : WorldState) {D R : Type 0} (state : D → State) (old : StoreView D R) (frames : List Sent) (number : ℕ) → number ≡ LOG_FULL
    → AreFramesUntaken functions last w state old frames number → RefusesFirst functions last w state old frames number
no_room functions last w state old frames number full (inl memory) = absurd (omega (arith, full, memory))
no_room functions last w state old frames number full (inr refuses) = refuses
