use Rattle.form_reader.specs.Context.{setting}
use Rattle.form_reader.proofs.Objects.{state_moves}
use Rattle.form_reader.proofs.step.advance.Goals as goal

pub returns-in-Token-clause-moves : goal.returns-in-Token-clause-moves
returns-in-Token-clause-moves g c = λ cs.
    let setting = setting g.R.MacroFunctions.functions c.args.with.now in
    state_moves setting c.args.stack.now c.args.at c.args.c cs c.args.state _ c.in_token.result c.in-Token.is (c.in_token.ensures.moves c.args.stack.now cs)
