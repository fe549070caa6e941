-- What was told before the answers.
use Rattle.std.proofs.Common.{◌⊎◌, inl, inr, ℕ, List, ◌++◌, Option, ap, ◌∙◌, sym, append_assoc}
use Rattle.disk_trait.specs.Disk.{State}
use Rattle.message_frames.specs.Frames.{Sent}
use Rattle.message_session.specs.MessageSessions.{BeginsWithAnsweredFrames, EndsBy, HasCause, EndsUnread}
use Rattle.message_session.specs.declared.ended.MessagesEnd.{MessagesEnd}
use Rattle.message_session.specs.declared.ended.MessagesEnd.TheVariants.{End, NoFrame, Fault}
use Rattle.message_session.proofs.Streams.{writes_both}
use Rattle.plist_state.specs.State.{WorldState}
use Rattle.prevalence_store.specs.calls.Store.{StoreView}
use Rattle.sessions.specs.Streams.{Writes}
use Rattle.user_macros.specs.Functions.{Functions}

module _ (functions : Functions) (last : ℕ) (w : WorldState) {D R : Type 0} (state : D → State) (store : StoreView D R) (held between written : Option (List ℕ)) (told : List ℕ) (bytes : List Sent → List ℕ)
    (first : Writes held between told) where
  abbrev with_told : List Sent → List ℕ
  with_told frames = told ++ bytes frames

  -- it comes first
  after_told : (frames : List Sent) (later : Option (List ℕ)) → Writes between later (bytes frames) → Writes held later (told ++ bytes frames)
  after_told frames later writes = writes_both held between later told (bytes frames) first writes

  unread_told : (answered next : List Sent) (number : ℕ) (rest : List ℕ) → EndsUnread functions last w state store between written bytes answered next number rest
      → EndsUnread functions last w state store held written with_told answered next number rest
  unread_told answered next number rest c = record {
    input = c.input;
    none_next = c.none_next;
    begun = c.begun;
    carried_out = c.carried_out;
    output = after_told answered written c.output;
  }

  cause_told : (answered next : List Sent) (number : ℕ) → HasCause functions last w state store between written bytes answered next number
      → HasCause functions last w state store held written with_told answered next number
  cause_told answered next number (inl c) = inl (record {
    output = c.output;
    carried_out = c.carried_out;
    more = c.more;
    more_is = ap (λ l. told ++ l) c.more_is ∙ sym (append_assoc told (bytes answered) c.more);
    between = c.between;
    first = after_told answered c.between c.first;
    part = c.part;
  })
  cause_told answered next number (inr (inl c)) = inr (inl (record { memory = c.memory; carried_out = c.carried_out; output = after_told answered written c.output }))
  cause_told answered next number (inr (inr (inl c))) = inr (inr (inl (record {
    before = c.before;
    before_last = c.before_last;
    after = c.after;
    asked = c.asked;
    alike = c.alike;
    refused = c.refused;
    full = c.full;
    output = after_told answered written c.output;
  })))
  cause_told answered next number (inr (inr (inr c))) = inr (inr (inr (record {
    before = c.before;
    before_last = c.before_last;
    after = c.after;
    refused = c.refused;
    large = λ is. let none = c.large is in record { one = none.one; asked = none.asked; alike = none.alike; refused = none.refused };
    output = after_told answered written c.output;
  })))

  either_told : (answered next : List Sent) (number : ℕ) (rest : List ℕ)
      → EndsUnread functions last w state store between written bytes answered next number rest ⊎ HasCause functions last w state store between written bytes answered next number
      → EndsUnread functions last w state store held written with_told answered next number rest ⊎ HasCause functions last w state store held written with_told answered next number
  either_told answered next number rest (inl c) = inl (unread_told answered next number rest c)
  either_told answered next number rest (inr c) = inr (cause_told answered next number c)

  served_told : (read : List ℕ) (frames : List Sent) (rest : List ℕ) (now_last : ℕ) → BeginsWithAnsweredFrames functions last w state store between written bytes read frames rest now_last
      → BeginsWithAnsweredFrames functions last w state store held written with_told read frames rest now_last
  served_told read frames rest now_last served =
      record { parts = served.parts; answered = record { after = served.answered.after; output = after_told frames written served.answered.output } }

  pub ends_told : (read : List ℕ) (left : Option (List ℕ)) (ended : MessagesEnd) → EndsBy functions last w state store between written bytes read left ended
      → EndsBy functions last w state store held written (λ frames. told ++ bytes frames) read left ended
  ends_told read left End ends = (ends.0, ends.1, ends.2, served_told read ends.0 ends.1 ends.2 ends.3, ends.4, ends.5)
  ends_told read left (NoFrame place) ends = (ends.0, ends.1, ends.2, served_told read ends.0 ends.1 ends.2 ends.3, ends.4, ends.5)
  ends_told read left (Fault number) ends = record {
    answered = ends.answered;
    next = ends.next;
    rest = ends.rest;
    parts = ends.parts;
    cause = either_told ends.answered ends.next number ends.rest ends.cause;
  }
