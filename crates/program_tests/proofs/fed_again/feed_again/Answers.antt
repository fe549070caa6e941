use Rattle.std.proofs.Common.{Some, subst}
use Rattle.std.specs.List.{flat_map}
use Rattle.feeding_laws.specs.Feeding.{over}
use Rattle.message_frames.specs.Frames.{frame_bytes}
use Rattle.message_session.specs.MessageSessions.{ServesMessages}
use Rattle.message_session.specs.declared.ended.MessagesEnd.{MessagesEnd}
use Rattle.program_tests.proofs.fed_again.feed_again.Goals as goal

pub returns-clause-again : goal.returns-clause-again
returns-clause-again g c = λ last p first now frames known feeds told each has ends.
    c.fed_sessions.ensures g.M.Meaning.Meaning.functions c.args.store.now c.serve_messages-ended.new.store last p first now frames
    (g.I.Read.remaining c.serve_messages-ended.new.input) (g.O.Write.contents c.args.output.now) (g.O.Write.contents c.serve_messages-ended.new.output) feeds told each
    (subst (λ (e : MessagesEnd). ServesMessages g.M.Meaning.Meaning.functions g.D.Disk.state c.args.store.now c.serve_messages-ended.new.store now (Some (flat_map frame_bytes (over p frames))) (g.I.Read.remaining c.serve_messages-ended.new.input)
    (g.O.Write.contents c.args.output.now) (g.O.Write.contents c.serve_messages-ended.new.output) e) ends
    (subst (λ o. ServesMessages g.M.Meaning.Meaning.functions g.D.Disk.state c.args.store.now c.serve_messages-ended.new.store now o (g.I.Read.remaining c.serve_messages-ended.new.input)
    (g.O.Write.contents c.args.output.now) (g.O.Write.contents c.serve_messages-ended.new.output) c.serve_messages-ended.result) has (c.serve_messages-ended.ensures.serves now known)))

pub returns-clause-twice : goal.returns-clause-twice
returns-clause-twice g c = λ last p first middle now frames known before after told each has ends.
    returns-clause-again g c last p first now frames known (c.feeding_on.ensures g.M.Meaning.Meaning.functions last first middle now frames before after) told each has ends
