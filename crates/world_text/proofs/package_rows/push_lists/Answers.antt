use Rattle.std.proofs.Common.{List, ℕ, ◌++◌, codes, map, ap, ◌∙◌}
use Rattle.lisp_object.specs.Object.{Object, list_of}
use Rattle.package_table.specs.Table.{common_lisp_user}
use Rattle.package_table.specs.Readers.{used_names, imports}
use Rattle.canon_printer.specs.Printed.{printed}
use Rattle.world_text.specs.KeptNames.{kept_names}
use Rattle.world_text.specs.Snapshot.{shown_names, imported_name, texts}
use Rattle.world_text.proofs.RowsWritten.{four_added}
use Rattle.world_text.proofs.package_rows.push_lists.Goals as goal

pub returns : goal.returns
returns g c =
    let t = c.args.packages.now.0 in
    let p = c.args.owner.now in
    let added : Object → List ℕ = λ x. codes " " ++ printed t common_lisp_user x in
    four_added c.args.text.now.items (added (texts (used_names t p))) (added (texts (kept_names (g.T.NameTest.keeps c.args.test.now) t p))) (added (texts (shown_names t p)))
    (added (list_of (map imported_name (imports t p))))
    (c.in_ok-push_after_space.ensures ∙ ap (λ x. c.args.text.now.items ++ (codes " " ++ printed t common_lisp_user x)) c.in_ok-used.ensures.object)
    c.in_ok-push_own.ensures c.in_ok-push_shown.ensures
    (c.in_ok-push_after_space-2.ensures ∙ ap (λ x. c.push_shown.new.text.items ++ (codes " " ++ printed t common_lisp_user x)) c.in_ok-imported.ensures.object)
