use Rattle.std.proofs.Common.{◌++◌, ◌∷◌, [], map, ap, sym, ◌∙◌}
use Rattle.std.proofs.lemmas.List.{map-append}
use Rattle.lisp_object.specs.Datum.{object_of}
use Rattle.lisp_object.proofs.Objects.{object_of-Symbol}
use Rattle.plist_state.specs.Readers.{borrowed_symbol}
use Rattle.package_table.specs.Symbols.{symbols}
use Rattle.form_eval.proofs.symbols.+adding.Goals as goal

pub add-returns-in_ok-push-in-Symbol : goal.add-returns-in_ok-push-in-Symbol
add-returns-in_ok-push-in-Symbol t c =
    let before = c.args.found.now.items in
    ap (map borrowed_symbol) {y = before ++ (c.as_slice.result, c.as_slice-in-Symbol.result) ∷ []} c.in_ok-push-in-Symbol.ensures.items
    ∙ map-append borrowed_symbol before ((c.as_slice.result, c.as_slice-in-Symbol.result) ∷ [])
    ∙ (λ i. map borrowed_symbol before ++ (c.as_slice.ensures i, c.as_slice-in-Symbol.ensures i) ∷ [])
    ∙ ap (λ x. map borrowed_symbol before ++ symbols x) (sym (ap object_of c.in-Symbol.is ∙ object_of-Symbol c.in-Symbol.package c.in-Symbol.name))
