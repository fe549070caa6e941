use Rattle.std.specs.Io.KnownBytes.{Keeps}
use Rattle.program_streams.proofs.uninterrupted.UninterruptedWrite.write.Given as goal

-- nothing was written so far
abbrev pub invariant-again : goal.invariant-again
invariant-again g l = Keeps (g.S.Write.contents l.fn.self.stream) (g.S.Write.contents l.self.stream)
