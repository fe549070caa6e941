use Rattle.std.proofs.Common.{◌≡◌, ℕ, ◌<◌, List, [], ◌∷◌, ◌++◌, length, map, sym, ◌∙◌, arith}
use Rattle.std.specs.List.{flat_map}
use Rattle.std.proofs.lemmas.List.{append-nil}
use Rattle.message_frames.specs.Frames.{answer_bytes, sent_frame}
use Rattle.message_frames.specs.declared.frame.MessageFrame.{MessageFrame}
use Rattle.message_session.specs.FrameAnswers.{frame_of_each_answer}
use Rattle.messages.specs.declared.request.RequestAnswer.{RequestAnswer}
use Rattle.messages.specs.Rounds.{told_in}
use Rattle.message_session.proofs.answer.bytes_of.Goals as goal

abbrev texts_of : List MessageFrame → List RequestAnswer → List ℕ
texts_of frames answers = flat_map answer_bytes (frame_of_each_answer (map sent_frame frames) (map told_in answers))

no_frame : (bytes whole : List ℕ) (frames : List MessageFrame) (answers : List RequestAnswer) → length frames < 1 → bytes ++ texts_of frames answers ≡ whole → bytes ≡ whole
no_frame bytes whole [] answers short parts = sym (append-nil bytes) ∙ parts
no_frame bytes whole (frame ∷ frames) answers short parts = absurd (omega (arith, short))

pub returns : goal.returns
returns c = no_frame _ _ c.frames.frames.now c.frames.answers.now c.in_default.len_below c.frames.invariant.parts
