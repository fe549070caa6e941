-- Forms are read with no macro function but those of the standard: a registry without functions comes to the same.
use Rattle.std.proofs.Common.{◌≡◌, ◌∙◌, ℕ, List, [], ap, ap₂, subst}
use Rattle.readtable_core.specs.Tables.{Table, standard}
use Rattle.package_table.specs.Table.{Name, Table as Packages, common_lisp_user}
use Rattle.user_macros.specs.Functions.{Functions, no_functions}
use Rattle.lisp_reading.specs.Reading.{reads}
use Rattle.lisp_reading.specs.Setting.{Setting, setting_of}
use Rattle.lisp_reading.specs.declared.limits.Limits.{Limits}
use Rattle.form_reader.specs.Reader.{IsOutcome}
use Rattle.world_forms.specs.Properties.{form_setting}

-- functions with no name among them are none
unnamed : (limits : Limits) (table : Table) (base : ℕ) (packages : Packages) (current : Name) (functions : Functions)
    → functions.names ≡ []
    → setting_of limits table base packages current functions ≡ setting_of limits table base packages current no_functions
unnamed limits table base packages current functions none =
    ap (λ names. setting_of limits table base packages current (record { names = names; way = functions.way; answer = functions.answer })) none

-- what was read with such functions was read as the forms are
pub read_so : (read : _) (limits : Limits) (table : Table) (packages : Packages) (functions : Functions) (text : List ℕ)
    → limits ≡ record { text = 1048576; token = 4096; nesting = 100 } → table ≡ standard → functions.names ≡ []
    → IsOutcome read (reads (setting_of limits table 10 packages common_lisp_user functions) text)
    → IsOutcome read (reads (form_setting packages) text)
read_so read limits table packages functions text same_limits same_table none is =
    subst (λ (setting : Setting). IsOutcome read (reads setting text))
    (ap₂ (λ (l : Limits) (t : Table). setting_of l t 10 packages common_lisp_user functions) same_limits same_table
    ∙ unnamed _ standard 10 packages common_lisp_user functions none)
    is
