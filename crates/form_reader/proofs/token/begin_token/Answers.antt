use Rattle.form_reader.specs.Context.{setting}
use Rattle.form_reader.proofs.Objects.{token_goes, first_told}
use Rattle.form_reader.proofs.token.begin_token.Goals as goal

pub returns-in-More-clause-brings : goal.returns-in-More-clause-brings
returns-in-More-clause-brings g c = λ stack cs le.
    let setting = setting g.R.MacroFunctions.functions c.args.with.now in
    token_goes setting c.args.at c.args.c cs stack _ le c.requires.begins (first_told c.args.with.now.readtable.now c.args.with.now.limits c.args.at cs _ _ _ c.in-More.is (c.in_ok-scan.ensures.feeds cs))

pub returns-in-Refused-clause-brings : goal.returns-in-Refused-clause-brings
returns-in-Refused-clause-brings g c = λ stack cs le.
    let setting = setting g.R.MacroFunctions.functions c.args.with.now in
    token_goes setting c.args.at c.args.c cs stack _ le c.requires.begins (first_told c.args.with.now.readtable.now c.args.with.now.limits c.args.at cs _ _ _ c.in-Refused.is (c.in_ok-scan.ensures.feeds cs))
