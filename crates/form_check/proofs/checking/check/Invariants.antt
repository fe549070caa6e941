use Rattle.std.proofs.Common.{◌≡◌, ◌≤◌, length}
use Rattle.form_check.specs.Checking.{check_of_text, checked_in, setting_under}
use Rattle.form_check.proofs.Turns.{after_found, left}
use Rattle.form_check.proofs.checking.check.Given as goal

-- what was found, and what is found in the rest, is what is found in the text
abbrev pub invariant-forms : goal.invariant-forms
invariant-forms g l =
    let setting = setting_under l.under.readtable.now l.under.base l.under.packages.now.0 l.under.current.now (g.M.MacroFunctions.functions l.macros) in
    (length l.rest ≤ length l.text)
    × (l.found.forms ≡ l.turn)
    × (after_found l.found.unreadable.items (checked_in setting (left (length l.text) l.turn) l.turn (length l.text) l.rest) ≡ check_of_text setting l.text)
