use Rattle.std.proofs.Common.{◌≡◌, ◌++◌, drop}
use Rattle.program_streams.specs.AnswerText.{after_all, counted_on, refusals_in}
use Rattle.program_streams.proofs.refusals.Refusals.note_all.Given as goal

-- what is left of the bytes brings it where all of them do
abbrev pub invariant-loop-byte : goal.invariant-loop-byte
invariant-loop-byte g l =
    (l.self.output ≡ l.fn.self.output)
    × (after_all l.self.at (drop l.byte-index l.bytes) ≡ after_all l.fn.self.at l.bytes)
    × (l.self.refusals.items ++ refusals_in l.self.at (drop l.byte-index l.bytes) ≡ refusals_in l.fn.self.at l.bytes)
    × (counted_on l.self.at l.self.counts (drop l.byte-index l.bytes) ≡ counted_on l.fn.self.at l.fn.self.counts l.bytes)
