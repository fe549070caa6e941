-- Under which setting a text is read in a world.
use Rattle.std.proofs.Common.{◌≡◌, ℕ, true, List, ◌++◌, Option, Some, IfSome, IsTrue, subst, ◌∙◌}
use Rattle.lisp_object.specs.Datum.{object_of}
use Rattle.readtable_core.specs.Names.{is_among}
use Rattle.readtable_core.specs.Tables.{Table}
use Rattle.package_table.specs.Table.{Name, Table as Packages}
use Rattle.lisp_reading.specs.declared.limits.Limits.{Limits}
use Rattle.lisp_reading.specs.Reading.{form, reads}
use Rattle.lisp_reading.specs.Setting.{Setting, setting_of}
use Rattle.lisp_reading.proofs.Registered.{setting_same}
use Rattle.plain_reader.specs.declared.plain.PlainForm.{PlainForm}
use Rattle.plist_state.specs.State.{WorldState}
use Rattle.session_words.specs.declared.mode.Mode.{Mode}
use Rattle.prevalence_store.specs.meaning.Acceptance.{base_in, form_limits, package_in, setting_in, table_in}
use Rattle.prevalence_store.proofs.steps.Fitting.{among_same}
use Rattle.user_macros.specs.Functions.{Functions, are_registered, named_among}

-- the setting of a call, with the functions that are registered, is that of the world
pub called_setting : (w : WorldState) (mode : Mode) (functions registered : Functions) (limits : Limits) (table : Table) (base : ℕ) (packages : Packages) (current : Name)
    → registered ≡ named_among registered.names functions → are_registered functions registered ≡ true
    → ((name : List ℕ) → IsTrue (is_among registered.names name) → IsTrue (is_among functions.names name))
    → limits ≡ form_limits → table ≡ table_in w mode → base ≡ base_in w mode → packages ≡ w.packages → current ≡ package_in w mode
    → setting_of limits table base packages current registered ≡ setting_in functions w mode
called_setting w mode functions registered limits table base packages current meant whole known limits_is table_is base_is packages_is current_is =
    (λ i. setting_of (limits_is i) (table_is i) (base_is i) (packages_is i) (current_is i) (meant i))
    ∙ setting_same form_limits (table_in w mode) (base_in w mode) w.packages (package_in w mode) functions registered.names
    (among_same functions.names registered.names whole known)

-- what was read of a plain form, under the setting of the world
pub plain_reads : (functions : Functions) (w : WorldState) (mode : Mode) (limits : Limits) (table : Table) (base : ℕ) (packages : Packages) (current : Name) (front : List ℕ) (o : Option PlainForm) (f : PlainForm)
    → limits ≡ form_limits → table ≡ table_in w mode → base ≡ base_in w mode → packages ≡ w.packages → current ≡ package_in w mode → o ≡ Some f
    → ((functions : Functions) (more : List ℕ) → IfSome o (λ f. reads (setting_of limits table base packages current functions) (front ++ more) ≡ form (object_of f.datum) 0 f.end f.end))
    → (more : List ℕ) → reads (setting_in functions w mode) (front ++ more) ≡ form (object_of f.datum) 0 f.end f.end
plain_reads functions w mode limits table base packages current front o f limits_is table_is base_is packages_is current_is is read more =
    subst (λ (s : Setting). reads s (front ++ more) ≡ form (object_of f.datum) 0 f.end f.end)
    (λ i. setting_of (limits_is i) (table_is i) (base_is i) (packages_is i) (current_is i) functions)
    (subst (λ (o : Option PlainForm). IfSome o (λ f. reads (setting_of limits table base packages current functions) (front ++ more) ≡ form (object_of f.datum) 0 f.end f.end)) is (read functions more))
