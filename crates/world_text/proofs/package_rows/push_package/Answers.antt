use Rattle.std.proofs.Common.{[], ◌∷◌, ◌++◌, codes, map, ap, ◌∙◌}
use Rattle.std.specs.List.{flat_map}
use Rattle.lisp_object.specs.Object.{text, list_of}
use Rattle.package_table.specs.Table.{Name, common_lisp_user}
use Rattle.package_table.specs.Readers.{used_names, imports}
use Rattle.canon_printer.specs.Printed.{printed, printed_prefix}
use Rattle.world_text.specs.KeptNames.{kept_names}
use Rattle.world_text.specs.Snapshot.{shown_names, imported_name, texts}
use Rattle.world_text.proofs.RowsWritten.{parts_written}
use Rattle.world_text.proofs.package_rows.push_package.Goals as goal

pub returns : goal.returns
returns g c =
    let t = c.args.packages.now.0 in
    let lists = λ (p : Name). texts (used_names t p) ∷ texts (kept_names (g.T.NameTest.keeps c.args.test.now) t p) ∷ texts (shown_names t p) ∷ list_of (map imported_name (imports t p)) ∷ [] in
    parts_written (printed_prefix t common_lisp_user) (λ x. x)
    c.args.text.now.items c.push.new.self.items c.push_text.new.text.items c.push_lists.new.text.items c.push-2.new.self.items
    (text c.args.owner.now) (lists c.args.owner.now) c.in_ok-push.ensures.items
    (c.in_ok-push_text.ensures ∙ ap (λ p. c.push.new.self.items ++ printed t common_lisp_user (text p)) c.as_slice.ensures)
    (c.in_ok-push_lists.ensures
    ∙ ap (λ p. c.push_text.new.text.items ++ flat_map (λ x. codes " " ++ printed t common_lisp_user x) (lists p)) c.as_slice-2.ensures)
    c.in_ok-push-2.ensures.items
