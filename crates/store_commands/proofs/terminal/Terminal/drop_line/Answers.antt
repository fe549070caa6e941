use Rattle.store_commands.proofs.Turns.{drops_from, drops_none, drops_one}
use Rattle.store_commands.proofs.terminal.Terminal.drop_line.Goals as goal

pub line-init : goal.line-init
line-init g c = drops_from _ _

pub line-preserved : goal.line-preserved
line-preserved g c =
    drops_one c.line.self.last c.drop_byte.new.self.last (g.I.Read.remaining c.args.self.now.input) (g.I.Read.remaining c.line.self.input)
    (g.I.Read.remaining c.drop_byte.new.self.input) c.drop_byte.result c.line.invariant c.if-self-eq10.false c.if-not-drop_byte.false c.drop_byte.ensures

pub returns-then-not-drop_byte : goal.returns-then-not-drop_byte
returns-then-not-drop_byte g c =
    drops_none c.line.self.last c.drop_byte.new.self.last (g.I.Read.remaining c.args.self.now.input) (g.I.Read.remaining c.line.self.input)
    (g.I.Read.remaining c.drop_byte.new.self.input) c.drop_byte.result c.line.invariant c.if-not-drop_byte.true c.drop_byte.ensures
