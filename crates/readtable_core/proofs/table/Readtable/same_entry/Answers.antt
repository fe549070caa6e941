use Rattle.std.proofs.Common.{◌≡◌, ◌∙◌, sym, rules}
use Rattle.readtable_core.proofs.Named.{same_is, same_itself}
use Rattle.readtable_core.specs.Tables.{entry_at}
use Rattle.readtable_core.specs.NamedFunctions.{same_entry}
use Rattle.readtable_core.proofs.table.Readtable.same_entry.Goals as goal

pub returns-in-Some-get-clause-equal : goal.returns-in-Some-get-clause-equal
returns-in-Some-get-clause-equal c =
    let value : c.is_same.result ≡ same_entry (entry_at c.args.self.now c.args.c) (entry_at c.args.other.now c.args.c) = search rules in
    (λ h. same_is _ _ (sym value ∙ h), λ e. value ∙ same_itself _ _ e)
