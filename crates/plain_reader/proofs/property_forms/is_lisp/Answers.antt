use Rattle.std.proofs.Common.{◌≡◌, true, false, sym, subst}
use Rattle.std.specs.List.{list_any}
use Rattle.package_table.specs.Table.{common_lisp}
use Rattle.readtable_core.specs.Characters.{is_lower_case}
use Rattle.plain_reader.specs.Written.{lisp}
use Rattle.plain_reader.specs.Tokens.{IsToken}
use Rattle.plain_reader.specs.Words.{is_word}
use Rattle.plain_reader.proofs.There.{found_there}
use Rattle.plain_reader.proofs.Writing.{capital_token}
use Rattle.plain_reader.proofs.property_forms.is_lisp.Goals as goal

pub returns-then-is_name-clause-token : goal.returns-then-is_name-clause-token
returns-then-is_name-clause-token c = λ finds.
    let with = c.args.with.now in
    let name = c.args.name.now in
    let same = sym (c.is_name.ensures c.if-is_name.true) in
    subst (λ bytes. IsToken with bytes (lisp name)) same
    (capital_token with name common_lisp c.requires.standard (subst (λ bytes. is_word bytes ≡ true) (sym same) c.requires.word) c.requires.capitals (c.finds_lisp.ensures finds))

pub returns-then-is_name-clause-there : goal.returns-then-is_name-clause-there
returns-then-is_name-clause-there c = λ finds.
    found_there c.args.with.now.packages.now.0 c.args.with.now.current.now c.args.name.now common_lisp c.soundness.ensures (c.finds_lisp.ensures finds)
