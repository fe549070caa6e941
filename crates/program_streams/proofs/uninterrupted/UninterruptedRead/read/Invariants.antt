use Rattle.std.specs.Io.KnownBytes.{Keeps}
use Rattle.program_streams.proofs.uninterrupted.UninterruptedRead.read.Given as goal

-- nothing was read so far
abbrev pub invariant-again : goal.invariant-again
invariant-again g l = Keeps (g.S.Read.remaining l.fn.self.stream) (g.S.Read.remaining l.self.stream)
