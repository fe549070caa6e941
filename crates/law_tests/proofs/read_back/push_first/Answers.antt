use Rattle.std.proofs.Common.{◌∙◌, ◌++◌, ◌∷◌, [], List, ℕ, append-nil, get_or, refl, sym, ap}
use Rattle.message_frames.specs.Frames.{Sent, answer_bytes}
use Rattle.law_tests.proofs.read_back.push_first.Goals as goal

pub returns : goal.returns
returns c = λ limit other after fits frame others_frame is.
    let one : Sent = (c.args.kind, c.args.answer.now) in
    let bytes = answer_bytes one in
    let same = c.answers_are_read_back.ensures limit fits (one ∷ []) (other ∷ []) [] after (frame, tt) (others_frame, tt) refl
    (append-nil (bytes ++ []) ∙ (append-nil bytes ∙ (ap (λ (l : List ℕ). l ++ bytes) (sym c.requires) ∙ (sym c.in_ok-push_answer.ensures.whole
    ∙ (is ∙ ap (λ (l : List ℕ). l ++ after) (sym (append-nil (answer_bytes other)))))))) in
    (sym (ap (λ (l : List Sent). get_or l 0 other) same.0), sym same.1)
