use Rattle.std.proofs.Common.{[]}
use Rattle.form_reader.specs.Context.{setting}
use Rattle.form_reader.proofs.EndOfText.{waits_last}
use Rattle.form_reader.proofs.end_of_text.settle_last.Goals as goal

pub returns-in-Waits-clause-settles : goal.returns-in-Waits-clause-settles
returns-in-Waits-clause-settles g c =
    let setting = setting g.R.MacroFunctions.functions c.args.with.now in
    waits_last setting c.return_value.new.stack c.args.at c.args.stack.now c.in-Gives.found _ _ c.in-Waits.field-0 _ _ c.in-Gives.is
    (c.in_ok-last.ensures.brings c.args.stack.now c.len.ensures) c.in-Waits.is (c.in_ok-return_value-in-Gives.ensures.value [])
    (c.end_at_object-in-Waits.ensures.settles setting c.return_value.new.stack c.len-in-Waits.ensures c.requires.within)
