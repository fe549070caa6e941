use Rattle.std.proofs.Common.{◌≡◌, ℕ, ◌+◌, ◌*◌, ◌-◌, ◌≤◌, List, [], ◌++◌, Some, IsSome}
use Rattle.plist_state.specs.State.{WorldState}
use Rattle.form_reader.specs.Reader.{fed}
use Rattle.sessions.specs.Serve.{pace_wanted}
use Rattle.sessions.specs.steps.Serve.{SessionGoesOn}
use Rattle.sessions.specs.steps.Course.{course_of, first_course}
use Rattle.sessions.specs.steps.Standing.{HandsOn}
use Rattle.sessions.proofs.serving.serve_wanted.Given as goal

-- what was read was answered, as far as it decides; and what is left to read
abbrev pub invariant-reads : goal.invariant-reads
invariant-reads g l = record {
  is_open : IsSome l.store.world;
  honest : (g.D.Disk.state l.store.disk).honest ≡ (g.D.Disk.state l.fn.store.disk).honest;
  most : l.reads ≤ 1099511627776;
  forms : (course_of l.course).forms ≤ (course_of l.course).bytes;
  count : (course_of l.course).bytes + fed l.pending.reader ≤ 65536 * l.reads;
  far : (w : WorldState) → l.fn.store.world ≡ Some w → (text : List ℕ)
      × (SessionGoesOn g.R.Meaning.Meaning.functions g.D.Disk.state l.wanted.strict (first_course (pace_wanted l.wanted)) (course_of l.course) l.fn.store l.store w l.wanted.mode text
      (g.W.Recipient.contents l.fn.writer) (g.W.Recipient.contents l.writer) l.pending []
      × ((all : List ℕ) → g.I.Read.remaining l.fn.reader ≡ Some all → (left : List ℕ) × ((g.I.Read.remaining l.reader ≡ Some left) × (all ≡ text ++ left))));
  first : g.W.Recipient.first l.writer ≡ g.W.Recipient.first l.fn.writer;
  hands : HandsOn g.R.Meaning.Meaning.functions g.D.Disk.state 0 (course_of l.course).forms (g.W.Recipient.account l.fn.writer) (g.W.Recipient.account l.writer) l.store;
}

abbrev pub decreases-reads : goal.decreases-reads
decreases-reads g l = 1099511627776 - l.reads
