use Rattle.std.proofs.Common.{◌≡◌, ℕ, List, ◌++◌, Option, Some, Ok, Err, length, map, take, drop, sym, ap, subst, ◌∙◌, arith}
use Rattle.std.specs.Option.{option_map}
use Rattle.std.specs.List.{flat_map}
use Rattle.std.proofs.lemmas.List.{take-append-drop, take-map}
use Rattle.client_table.specs.CallsByName.{AnswersAllAsked}
use Rattle.client_table.specs.declared.asked.AnyRequest.{AnyRequest}
use Rattle.disk_trait.specs.Disk.{IsHonest}
use Rattle.message_frames.specs.Frames.{Sent, answer_bytes, sent_frame}
use Rattle.message_laws.proofs.Tidy.{sound_tidy}
use Rattle.message_session.specs.FrameAnswers.{AskAlike, answered_bytes, frame_of_each_answer}
use Rattle.message_session.specs.Account.{MessageAccount, AnswersAreStored, with_frames}
use Rattle.message_session.specs.MessageSessions.{AreFramesAnswered, HasCarriedOut}
use Rattle.message_session.specs.Standing.{FramesComeNext, RestsAt}
use Rattle.message_session.specs.Steps.{Breaks}
use Rattle.message_session.specs.declared.answer.TheConstants.{MOST_CLIENTS}
use Rattle.message_session.specs.declared.ended.MessagesEnd.TheVariants.{Fault}
use Rattle.message_session.proofs.Causes.{breaks_silent, breaks_unrenewed, breaks_unwritten}
use Rattle.message_session.proofs.Next.{more_handed, next_taken}
use Rattle.message_session.proofs.Requests.{bytes_are, carried_out, of_first}
use Rattle.message_session.proofs.Standing.{answers_stored, due_survives, none_at_rest, none_further, none_told, rests_further, rests_handed, unanswered}
use Rattle.message_session.proofs.Stops.{untaken}
use Rattle.plist_state.specs.State.{WorldState}
use Rattle.prevalence_store.specs.Theorem.{Keeps}
use Rattle.sessions.specs.Streams.{Writes, WritesPart}
use Rattle.messages.specs.Rounds.{told_in}
use Rattle.message_session.proofs.answer.take_frames.Given.{Over}
use Rattle.message_session.proofs.answer.take_frames.Goals as goal
use Rattle.message_session.proofs.answer.take_frames.Goals.{In-Ok-bytes_of}

-- so many of the frames were answered
abbrev count_of : (g : Over) (c : In-Ok-bytes_of g) → ℕ
count_of g c = c.len-count.result

abbrev taken : (g : Over) (c : In-Ok-bytes_of g) → List Sent
taken g c = take (count_of g c) (map sent_frame c.args.frames.now)

as_taken : (g : Over) (c : In-Ok-bytes_of g) → map sent_frame (take (count_of g c) c.args.frames.now) ≡ taken g c
as_taken g c = sym (take-map sent_frame (count_of g c) c.args.frames.now)

all_of : (g : Over) (c : In-Ok-bytes_of g) → taken g c ++ drop (count_of g c) (map sent_frame c.args.frames.now) ≡ map sent_frame c.args.frames.now
all_of g c = take-append-drop (count_of g c) (map sent_frame c.args.frames.now)

-- what was asked and answered
given : (g : Over) (c : In-Ok-bytes_of g) (w : WorldState) → c.args.store.now.world ≡ Some w
    → (all : List AnyRequest) × AskAlike all (taken g c)
    × AnswersAllAsked g.R.Meaning.Meaning.functions g.D.Disk.state c.args.store.now c.answer_first_asked.new.store w MOST_CLIENTS c.args.course.now.last all (Ok c.in-Ok-answer_first_asked.replies)
given g c w known =
    of_first g.R.Meaning.Meaning.functions g.D.Disk.state c.args.store.now c.answer_first_asked.new.store w c.args.course.now.last (map sent_frame c.args.frames.now) c.as_slice.result.now
    c.in-Ok-answer_first_asked.replies c.len-count.result (omega (arith, c.len-count.ensures, c.in-Ok-answer_first_asked.replies.answers.ok.0)) (subst (λ all. AskAlike all (map sent_frame c.args.frames.now)) (sym c.as_slice.ensures.value) c.in-Ok.ensures.pairs)
    (c.in-Ok-answer_first_asked.ensures.answer w known)

-- the bytes that are to be written
bytes_made : (g : Over) (c : In-Ok-bytes_of g) (w : WorldState) → c.args.store.now.world ≡ Some w
    → c.in-Ok-bytes_of.bytes.items ≡ answered_bytes g.R.Meaning.Meaning.functions c.args.course.now.last w (taken g c)
bytes_made g c w known =
    let asked = given g c w known in
    c.in-Ok-bytes_of.ensures
    ∙ ap (λ answers. flat_map answer_bytes (frame_of_each_answer (map sent_frame (take (count_of g c) c.args.frames.now)) (map told_in answers))) c.as_slice-2.ensures.value
    ∙ ap (λ fs. flat_map answer_bytes (frame_of_each_answer fs (map told_in c.in-Ok-answer_first_asked.replies.answers.items))) (as_taken g c)
    ∙ bytes_are g.R.Meaning.Meaning.functions g.D.Disk.state c.args.store.now c.answer_first_asked.new.store w c.args.course.now.last
    (c.its_world_is_sound.ensures w known) (taken g c) asked.0 asked.1 c.in-Ok-answer_first_asked.replies asked.2.0

-- the store after them
stands : (g : Over) (c : In-Ok-bytes_of g) (w : WorldState) → c.args.store.now.world ≡ Some w
    → HasCarriedOut g.R.Meaning.Meaning.functions c.args.course.now.last w (taken g c) c.in-Ok-answer_first_asked.replies.last c.answer_first_asked.new.store
stands g c w known =
    let asked = given g c w known in
    carried_out g.R.Meaning.Meaning.functions g.D.Disk.state c.args.store.now c.answer_first_asked.new.store w c.args.course.now.last
    (c.its_world_is_sound.ensures w known) (taken g c) asked.0 asked.1 c.in-Ok-answer_first_asked.replies asked.2.0

pub returns-in-Err-write_answers-clause-takes : goal.returns-in-Err-write_answers-clause-takes
returns-in-Err-write_answers-clause-takes g c = λ w known.
    let here = (goal.at.returns-in-Err-write_answers-clause-takes g c).In-Ok-bytes_of in
    let functions = g.R.Meaning.Meaning.functions in
    let last = c.args.course.now.last in
    let held = g.O.AnswerRecipient.contents c.args.output.now in
    let written = g.O.AnswerRecipient.contents c.write_answers.new.self in
    subst (λ fs. Breaks functions last w g.D.Disk.state c.answer_first_asked.new.store held written fs (Fault 68)) (all_of g here)
    (breaks_unwritten functions last w (sound_tidy w (c.its_world_is_sound.ensures w known)) g.D.Disk.state c.answer_first_asked.new.store held written
    (taken g here) (drop (count_of g here) (map sent_frame c.args.frames.now)) (c.in-Ok-answer_first_asked.replies.last, stands g here w known)
    (subst (WritesPart held written) (c.as_slice-3.ensures.value ∙ bytes_made g here w known) c.in-Err-write_answers.ensures.part))

-- the frames were answered
answered : (g : Over) (c : In-Ok-bytes_of g) (w : WorldState) → c.args.store.now.world ≡ Some w → (written : Option (List ℕ)) → (bytes : List ℕ) → bytes ≡ c.in-Ok-bytes_of.bytes.items
    → Writes (g.O.AnswerRecipient.contents c.args.output.now) written bytes
    → AreFramesAnswered g.R.Meaning.Meaning.functions c.args.course.now.last w g.D.Disk.state c.answer_first_asked.new.store (g.O.AnswerRecipient.contents c.args.output.now) written
    (answered_bytes g.R.Meaning.Meaning.functions c.args.course.now.last w) (taken g c) c.in-Ok-answer_first_asked.replies.last
answered g c w known written bytes are writes =
    record { after = stands g c w known; output = subst (Writes (g.O.AnswerRecipient.contents c.args.output.now) written) (are ∙ bytes_made g c w known) writes }

pub returns-in-Ok-renew_if_due-clause-takes : goal.returns-in-Ok-renew_if_due-clause-takes
returns-in-Ok-renew_if_due-clause-takes g c = λ w known.
    let here = (goal.at.returns-in-Ok-renew_if_due-clause-takes g c).In-Ok-bytes_of in
    let far = stands g here w known in
    record {
      after = subst (λ n. HasCarriedOut g.R.Meaning.Meaning.functions c.args.course.now.last w (taken g here) n c.renew_if_due.new.store)
          (sym c.in-Ok-renew_if_due.ensures.last)
          (record { left = far.left; known = (c.in-Ok-renew_if_due.ensures.renews far.left far.known).0; near = far.near });
      output = (answered g here w known (g.O.AnswerRecipient.contents c.write_answers.new.self) c.as_slice-3.result.now c.as_slice-3.ensures.value c.in-Ok-write_answers.ensures.whole).output;
    }

pub returns-clause-takes : goal.returns-clause-takes
returns-clause-takes g c = λ w known.
    let here = (goal.at.returns-clause-takes g c).In-Ok-bytes_of in
    let functions = g.R.Meaning.Meaning.functions in
    let last = c.args.course.now.last in
    let held = g.O.AnswerRecipient.contents c.args.output.now in
    let written = g.O.AnswerRecipient.contents c.write_answers.new.self in
    let first = answered g here w known written c.as_slice-3.result.now c.as_slice-3.ensures.value c.in-Ok-write_answers.ensures.whole in
    subst (λ fs. Breaks functions last w g.D.Disk.state c.renew_if_due.new.store held written fs c.in-Err-renew_if_due.ended) (all_of g here)
    (breaks_unrenewed functions last w (sound_tidy w (c.its_world_is_sound.ensures w known)) g.D.Disk.state c.answer_first_asked.new.store c.renew_if_due.new.store held written
    (taken g here) (drop (count_of g here) (map sent_frame c.args.frames.now)) c.in-Ok-answer_first_asked.replies.last first c.in-Err-renew_if_due.ended
    (c.in-Err-renew_if_due.ensures.renews first.after.left first.after.known))

pub returns-in_default-bytes_of-clause-takes : goal.returns-in_default-bytes_of-clause-takes
returns-in_default-bytes_of-clause-takes g c = λ w known.
    let functions = g.R.Meaning.Meaning.functions in
    let last = c.args.course.now.last in
    let held = g.O.AnswerRecipient.contents c.args.output.now in
    let frames = map sent_frame c.args.frames.now in
    let count = c.len-count.result in
    let asked = of_first functions g.D.Disk.state c.args.store.now c.answer_first_asked.new.store w last frames c.as_slice.result.now
    c.in-Ok-answer_first_asked.replies c.len-count.result (omega (arith, c.len-count.ensures, c.in-Ok-answer_first_asked.replies.answers.ok.0)) (subst (λ all. AskAlike all frames) (sym c.as_slice.ensures.value) c.in-Ok.ensures.pairs)
    (c.in-Ok-answer_first_asked.ensures.answer w known) in
    subst (λ fs. Breaks functions last w g.D.Disk.state c.answer_first_asked.new.store held held fs (Fault 90)) (take-append-drop count frames)
    (breaks_silent functions last w (sound_tidy w (c.its_world_is_sound.ensures w known)) g.D.Disk.state c.answer_first_asked.new.store held
    (take count frames) (drop count frames) (
      c.in-Ok-answer_first_asked.replies.last,
      carried_out functions g.D.Disk.state c.args.store.now c.answer_first_asked.new.store w last
          (c.its_world_is_sound.ensures w known) (take count frames) asked.0 asked.1 c.in-Ok-answer_first_asked.replies asked.2.0,
    ))

pub returns-in-Err-clause-takes : goal.returns-in-Err-clause-takes
returns-in-Err-clause-takes g c = λ w known.
    let functions = g.R.Meaning.Meaning.functions in
    untaken functions c.args.course.now.last w (sound_tidy w (c.its_world_is_sound.ensures w known)) g.D.Disk.state c.args.store.now c.answer_first_asked.new.store known
    (g.O.AnswerRecipient.contents c.args.output.now) (map sent_frame c.args.frames.now) c.as_slice.result.now
    (subst (λ all. AskAlike all (map sent_frame c.args.frames.now)) (sym c.as_slice.ensures.value) c.in-Ok.ensures.pairs) c.in-Err.number
    (c.in-Err.ensures.answer w known) (omega (arith, ap length c.as_slice.ensures.value, c.in-Ok.ensures.many, c.requires.any)) c.in-Err.ensures.unchanged c.stop_after.result c.stop_after.ensures

-- ---- the recipient

come : (g : Over) (c : In-Ok-bytes_of g) → FramesComeNext (g.O.AnswerRecipient.account c.args.output.now) (taken g c)
come g c account is = next_taken account (map sent_frame c.args.frames.now) (count_of g c) (c.requires.next account is)

pub write_answers-requires : goal.write_answers-requires
write_answers-requires g c =
    let here = (goal.at.write_answers-requires g c).In-Ok-bytes_of in
    record {
      stored = subst (λ fs. (account : MessageAccount g.row.D.Denot) → g.O.AnswerRecipient.account c.args.output.now ≡ Some account
          → AnswersAreStored g.R.Meaning.Meaning.functions g.D.Disk.state account c.answer_first_asked.new.store fs c.as_slice-3.result.now) (sym (as_taken g here))
          (answers_stored g.R.Meaning.Meaning.functions g.D.Disk.state g.met.D.Disk.sound (g.O.AnswerRecipient.account c.args.output.now) c.args.store.now c.answer_first_asked.new.store c.args.course.now.last
          c.requires.rests (taken g here) (come g here) c.in-Ok-answer_first_asked.replies (given g here) c.as_slice-3.result.now
          (λ w known. c.as_slice-3.ensures.value ∙ bytes_made g here w known));
    }

-- where it stands once the answers were handed on
kept : (g : Over) (c : In-Ok-bytes_of g) (now : Option (MessageAccount g.row.D.Denot))
    → ((later : MessageAccount g.row.D.Denot) → now ≡ Some later
    → option_map (with_frames g.R.Meaning.Meaning.functions (map sent_frame (take (count_of g c) c.args.frames.now)) c.answer_first_asked.new.store) (g.O.AnswerRecipient.account c.args.output.now) ≡ Some later)
    → (later : MessageAccount g.row.D.Denot) → now ≡ Some later
    → option_map (with_frames g.R.Meaning.Meaning.functions (taken g c) c.answer_first_asked.new.store) (g.O.AnswerRecipient.account c.args.output.now) ≡ Some later
kept g c now handed later is =
    subst (λ fs. option_map (with_frames g.R.Meaning.Meaning.functions fs c.answer_first_asked.new.store) (g.O.AnswerRecipient.account c.args.output.now) ≡ Some later) (as_taken g c) (handed later is)

handed : (g : Over) (c : In-Ok-bytes_of g) (now : Option (MessageAccount g.row.D.Denot))
    → ((later : MessageAccount g.row.D.Denot) → now ≡ Some later
    → option_map (with_frames g.R.Meaning.Meaning.functions (map sent_frame (take (count_of g c) c.args.frames.now)) c.answer_first_asked.new.store) (g.O.AnswerRecipient.account c.args.output.now) ≡ Some later)
    → ((w : WorldState) → c.answer_first_asked.new.store.world ≡ Some w → IsHonest (g.D.Disk.state c.answer_first_asked.new.store.disk) → Keeps g.R.Meaning.Meaning.functions (g.D.Disk.state c.answer_first_asked.new.store.disk) w)
    → RestsAt g.R.Meaning.Meaning.functions g.D.Disk.state now c.answer_first_asked.new.store c.in-Ok-answer_first_asked.replies.last
handed g c now hands keeps =
    rests_handed g.R.Meaning.Meaning.functions g.D.Disk.state g.met.D.Disk.sound (g.O.AnswerRecipient.account c.args.output.now) c.args.store.now c.answer_first_asked.new.store c.args.course.now.last
    c.requires.rests (taken g c) (come g c) c.in-Ok-answer_first_asked.replies (given g c) now (kept g c now hands) keeps

pub returns-in-Err-clause-rests : goal.returns-in-Err-clause-rests
returns-in-Err-clause-rests g c =
    unanswered g.R.Meaning.Meaning.functions g.D.Disk.state g.met.D.Disk.sound (g.O.AnswerRecipient.account c.args.output.now) c.args.store.now c.answer_first_asked.new.store c.args.course.now.last
    c.requires.rests (map sent_frame c.args.frames.now) c.requires.next c.as_slice.result.now
    (subst (λ all. AskAlike all (map sent_frame c.args.frames.now)) (sym c.as_slice.ensures.value) c.in-Ok.ensures.pairs) c.in-Err.number c.in-Err.ensures.answer c.in-Err.ensures.unchanged c.stop_after.result c.stop_after.ensures

pub returns-in_default-bytes_of-clause-rests : goal.returns-in_default-bytes_of-clause-rests
returns-in_default-bytes_of-clause-rests g c =
    let frames = map sent_frame c.args.frames.now in
    let count = c.len-count.result in
    none_told g.R.Meaning.Meaning.functions g.D.Disk.state g.met.D.Disk.sound (g.O.AnswerRecipient.account c.args.output.now) c.args.store.now c.answer_first_asked.new.store c.args.course.now.last
    c.requires.rests (take count frames) (λ account is. next_taken account frames count (c.requires.next account is)) c.in-Ok-answer_first_asked.replies
    (λ w known. of_first g.R.Meaning.Meaning.functions g.D.Disk.state c.args.store.now c.answer_first_asked.new.store w c.args.course.now.last frames c.as_slice.result.now
    c.in-Ok-answer_first_asked.replies c.len-count.result (omega (arith, c.len-count.ensures, c.in-Ok-answer_first_asked.replies.answers.ok.0)) (subst (λ all. AskAlike all frames) (sym c.as_slice.ensures.value) c.in-Ok.ensures.pairs)
    (c.in-Ok-answer_first_asked.ensures.answer w known))

pub returns-in-Err-write_answers-clause-rests : goal.returns-in-Err-write_answers-clause-rests
returns-in-Err-write_answers-clause-rests g c =
    let now = g.O.AnswerRecipient.account c.write_answers.new.self in
    none_at_rest g.R.Meaning.Meaning.functions g.D.Disk.state g.met.D.Disk.sound now c.answer_first_asked.new.store c.in-Ok-answer_first_asked.replies.last
    (handed g (goal.at.returns-in-Err-write_answers-clause-rests g c).In-Ok-bytes_of now c.write_answers.ensures.kept c.keeps_its_world.ensures)

pub returns-in-Ok-renew_if_due-clause-rests : goal.returns-in-Ok-renew_if_due-clause-rests
returns-in-Ok-renew_if_due-clause-rests g c =
    let now = g.O.AnswerRecipient.account c.write_answers.new.self in
    subst (λ n. RestsAt g.R.Meaning.Meaning.functions g.D.Disk.state now c.renew_if_due.new.store n) (sym c.in-Ok-renew_if_due.ensures.last)
    (rests_further g.R.Meaning.Meaning.functions g.D.Disk.state g.met.D.Disk.sound now c.answer_first_asked.new.store c.renew_if_due.new.store c.in-Ok-answer_first_asked.replies.last
    (handed g (goal.at.returns-in-Ok-renew_if_due-clause-rests g c).In-Ok-bytes_of now c.write_answers.ensures.kept c.keeps_its_world.ensures)
    (λ w known. (c.in-Ok-renew_if_due.ensures.renews w known).0) (λ w known. (c.in-Ok-renew_if_due.ensures.renews w known).1))

pub returns-clause-rests : goal.returns-clause-rests
returns-clause-rests g c =
    let now = g.O.AnswerRecipient.account c.write_answers.new.self in
    none_further g.R.Meaning.Meaning.functions g.D.Disk.state g.met.D.Disk.sound now c.answer_first_asked.new.store c.renew_if_due.new.store c.in-Ok-answer_first_asked.replies.last
    (handed g (goal.at.returns-clause-rests g c).In-Ok-bytes_of now c.write_answers.ensures.kept c.keeps_its_world.ensures)
    (λ w known. due_survives g.R.Meaning.Meaning.functions g.D.Disk.state c.answer_first_asked.new.store c.renew_if_due.new.store w (Err c.in-Err-renew_if_due.ended) (c.in-Err-renew_if_due.ensures.renews w known))

pub returns-in-Ok-renew_if_due-clause-more : goal.returns-in-Ok-renew_if_due-clause-more
returns-in-Ok-renew_if_due-clause-more g c =
    let here = (goal.at.returns-in-Ok-renew_if_due-clause-more g c).In-Ok-bytes_of in
    let now = g.O.AnswerRecipient.account c.write_answers.new.self in
    more_handed g.R.Meaning.Meaning.functions (g.O.AnswerRecipient.account c.args.output.now) now (taken g here) c.answer_first_asked.new.store (kept g here now c.write_answers.ensures.kept)
