use Rattle.store_commands.proofs.Turns.{DropsTo}
use Rattle.store_commands.proofs.terminal.Terminal.drop_line.Given as goal

-- these bytes of a line were dropped so far
abbrev pub invariant-line : goal.invariant-line
invariant-line g l = DropsTo l.self.last (g.I.Read.remaining l.fn.self.input) (g.I.Read.remaining l.self.input)
