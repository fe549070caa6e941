use Rattle.std.proofs.Common.{◌≡◌, ◌≤◌, ◌*◌, ◌-◌, Some, length}
use Rattle.std.specs.Prelude.{◌^◌}
use Rattle.message_frames.specs.Frames.{IsBegunFrame}
use Rattle.message_session.specs.MessageSessions.{text_limit}
use Rattle.message_session.specs.Standing.{IsReadIn, RestsAt}
use Rattle.message_session.proofs.Pieces.{HasCome}
use Rattle.plist_state.specs.State.{WorldState}
use Rattle.message_session.proofs.serve.serve_frames.Given as goal

-- all frames were answered that stand whole in what came, and the macro functions stay
abbrev pub invariant-pieces : goal.invariant-pieces
invariant-pieces g l = record {
  macros : l.store.macros ≡ l.fn.store.macros;
  buffer : length l.piece.items ≡ 65536;
  reads : l.reads ≤ 2 ^ 40;
  count : l.came ≤ l.reads * 65536;
  answered : (w : WorldState) → l.fn.store.world ≡ Some w
      → HasCome g.R.Meaning.Meaning.functions l.fn.course.last w g.D.Disk.state (g.I.Read.remaining l.fn.input) (g.I.Read.remaining l.input)
      (g.O.AnswerRecipient.contents l.fn.output) (g.O.AnswerRecipient.contents l.output) l.store l.session.course.last l.session.held l.came
      × IsBegunFrame text_limit l.session.held;
  rests : RestsAt g.R.Meaning.Meaning.functions g.D.Disk.state (g.O.AnswerRecipient.account l.output) l.store l.session.course.last;
  read : IsReadIn (g.O.AnswerRecipient.account l.output) (g.I.Read.remaining l.input) l.session.held;
  input : g.O.AnswerRecipient.input l.output ≡ g.O.AnswerRecipient.input l.fn.output;
}

abbrev pub decreases-pieces : goal.decreases-pieces
decreases-pieces g l = 2 ^ 40 - l.reads
