use Rattle.std.proofs.Common.{◌≡◌, ℕ, ◌+◌, ◌≤◌, List, ◌++◌, length, Some, IsSome}
use Rattle.plist_state.specs.State.{WorldState}
use Rattle.form_reader.specs.Reader.{fed}
use Rattle.sessions.specs.steps.Input.{IsPending}
use Rattle.sessions.specs.steps.Serve.{SessionGoesOn}
use Rattle.sessions.specs.steps.Course.{course_of}
use Rattle.sessions.specs.steps.Standing.{HandsOn}
use Rattle.sessions.proofs.Pieces.{to_take}
use Rattle.sessions.proofs.serving.answer_piece.Given as goal

-- what the bytes so far decided was answered, and the rest of the piece is left
abbrev pub invariant-forms : goal.invariant-forms
invariant-forms g l = record {
  is_open : IsSome l.store.world;
  honest : (g.D.Disk.state l.store.disk).honest ≡ (g.D.Disk.state l.fn.store.disk).honest;
  forms : (course_of l.course).forms ≤ (course_of l.course).bytes;
  count : (course_of l.course).bytes + fed l.pending.reader + length l.rest ≤ (course_of l.fn.course).bytes + fed l.fn.pending.reader + length l.piece;
  goes : (w : WorldState) → l.fn.store.world ≡ Some w → (bytes : List ℕ)
      → IsPending g.R.Meaning.Meaning.functions w l.wanted.mode l.fn.pending bytes
      → SessionGoesOn g.R.Meaning.Meaning.functions g.D.Disk.state l.wanted.strict (course_of l.fn.course) (course_of l.course) l.fn.store l.store w l.wanted.mode (bytes ++ l.piece)
      (g.W.Recipient.contents l.fn.writer) (g.W.Recipient.contents l.writer) l.pending l.rest;
  first : g.W.Recipient.first l.writer ≡ g.W.Recipient.first l.fn.writer;
  hands : HandsOn g.R.Meaning.Meaning.functions g.D.Disk.state (course_of l.fn.course).forms (course_of l.course).forms (g.W.Recipient.account l.fn.writer) (g.W.Recipient.account l.writer) l.store;
}

abbrev pub decreases-forms : goal.decreases-forms
decreases-forms g l = to_take (fed l.pending.reader) (length l.rest)
