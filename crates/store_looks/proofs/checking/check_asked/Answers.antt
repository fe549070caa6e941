use Rattle.std.proofs.Common.{◌∙◌, ◌==◌, List, ap, length, subst}
use Rattle.form_check.specs.declared.checking.Unreadable.{Unreadable}
use Rattle.store_looks.specs.CheckReports.{FindsIn}
use Rattle.store_looks.proofs.CheckedTexts.{forms_told}
use Rattle.store_looks.proofs.checking.check_asked.Goals as goal

pub returns-clause-tells : goal.returns-clause-tells
returns-clause-tells g c =
    forms_told _ _ _ _ _ _ c.args.asked c.in_ok-text.text.items c.as_slice.result.now c.in_ok-world.world.0 (c.in_ok-found.found.forms, c.in_ok-found.found.unreadable.items) c.in_ok-lines.lines.items
    c.as_slice-3.result.now c.is_empty-all_are_readable.result c.write_lines.result c.as_slice.ensures.value c.as_slice-3.ensures.value c.in_ok-text.ensures c.in_ok-world.ensures.world
    (subst (λ (m : g.row.M.Denot). FindsIn (g.M.MacroFunctions.functions m) c.in_ok-world.world.0 c.as_slice.result.now (c.in_ok-found.found.forms, c.in_ok-found.found.unreadable.items)) c.in_ok-world.ensures.macros c.in_ok-found.ensures)
    c.notation_for.result c.notation_for.ensures c.in_ok-lines.ensures (c.is_empty-all_are_readable.ensures ∙ ap (λ (us : List Unreadable). length us == 0) c.as_slice-unreadable.ensures.value) c.write_lines.ensures
