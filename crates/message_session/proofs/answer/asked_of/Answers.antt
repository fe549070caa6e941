use Rattle.std.proofs.Common.{◌≡◌, ℕ, ◌+◌, ◌<◌, List, [], ◌∷◌, ◌++◌, length, get_or, map, take, sym, ap, ◌∙◌, arith}
use Rattle.std.proofs.lemmas.List.{length-map, map-append, take_all, take_more}
use Rattle.client_table.specs.declared.asked.AnyRequest.{AnyRequest}
use Rattle.message_frames.specs.Frames.{sent_frame}
use Rattle.message_frames.specs.declared.frame.MessageFrame.{MessageFrame}
use Rattle.message_session.specs.FrameAnswers.{frame_of_request}
use Rattle.message_session.proofs.Requests.{as_many}
use Rattle.message_session.proofs.answer.asked_of.Goals as goal

-- one frame more
one_more : (frames : List MessageFrame) (n : ℕ) (default : MessageFrame) (all later : List AnyRequest) (one : AnyRequest) → n < length frames → later ≡ all ++ one ∷ []
    → frame_of_request one ≡ sent_frame (get_or frames n default) → map frame_of_request all ≡ map sent_frame (take n frames) → map frame_of_request later ≡ map sent_frame (take (n + 1) frames)
one_more frames n default all later one within is same pairs =
    ap (map frame_of_request) is
    ∙ map-append frame_of_request all (one ∷ [])
    ∙ (λ i. pairs i ++ same i ∷ [])
    ∙ sym (map-append sent_frame (take n frames) (get_or frames n default ∷ []))
    ∙ ap (map sent_frame) (sym (take_more frames n default within))

pub loop-frame-preserved : goal.loop-frame-preserved
loop-frame-preserved c = record {
  pairs = one_more c.args.frames.now c.loop-frame.frame-index _ c.loop-frame.asked.items c.push.new.self.items c.asked_by.result
      (omega arith) c.in_ok-push.ensures.items c.asked_by.ensures c.loop-frame.invariant.pairs;
}

pub returns : goal.returns
returns c =
    let index_end = c.loop-frame-test.false in
    let alike = c.loop-frame.invariant.pairs ∙ ap (map sent_frame) (take_all c.loop-frame.frame-index c.args.frames.now (omega arith)) in
    record {
      pairs = alike;
      many = as_many c.loop-frame.asked.items (map sent_frame c.args.frames.now) alike ∙ length-map c.args.frames.now sent_frame;
    }
