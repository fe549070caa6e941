use Rattle.std.proofs.Common.{◌≡◌, ℕ, ◌+◌, ◌≤◌, List, ◌++◌, take}
use Rattle.form_reader.specs.Reader.{fed}
use Rattle.sessions.specs.steps.Input.{IsPending}
use Rattle.sessions.proofs.input.Pending.feed.Given as goal

-- the bytes so far decide nothing, and are pending
abbrev pub invariant-bytes : goal.invariant-bytes
invariant-bytes g l = record {
  counted : l.count ≡ l.byte-index;
  count : fed l.self.reader ≤ fed l.fn.self.reader + l.byte-index;
  goes : (bytes : List ℕ)
      → IsPending g.R.Meaning.Meaning.functions l.world.0 l.mode l.fn.self bytes
      → IsPending g.R.Meaning.Meaning.functions l.world.0 l.mode l.self (bytes ++ take l.byte-index l.piece);
}
