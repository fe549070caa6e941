use Rattle.std.proofs.Common.{[], ◌∷◌, ◌++◌, length, take, drop, get_or, map, codes, append_assoc, refl, sym, ap, ◌∙◌}
use Rattle.std.specs.Prelude.{◌-◌}
use Rattle.std.proofs.lemmas.Bool.{and_parts}
use Rattle.std.proofs.lemmas.List.Folds.{list_all-map}
use Rattle.lisp_object.specs.Object as object
use Rattle.lisp_object.specs.Object.{list_of}
use Rattle.package_table.specs.Table.{common_lisp_user}
use Rattle.canon_printer.specs.Printed.{printed, printed_prefix}
use Rattle.world_text.specs.Snapshot.{texts}
use Rattle.world_text.proofs.Ascii.{is_ascii_name}
use Rattle.world_text.proofs.RowsWritten.{parts_written, first_and_others, first_either, each_passes, each_mapped}
use Rattle.world_text.proofs.texts.push_texts.Goals as goal

pub push_text-requires : goal.push_text-requires
push_text-requires c =
    (and_parts _ _ (each_passes is_ascii_name c.args.names.now c.args.names.now (get_or c.args.names.now 0 (record { ref_ptr = (0, 0); now = [] })) (λ n. n.now)
    c.in-len1-up.len_at_least (first_either c.args.names.now _ _ c.in-len1-up.len_at_least) refl refl (list_all-map is_ascii_name (λ n. n.now) c.args.names.now ∙ c.requires))).0

pub push_later-requires : goal.push_later-requires
push_later-requires c =
    (and_parts _ _ (each_passes is_ascii_name c.args.names.now c.args.names.now (get_or c.args.names.now 0 (record { ref_ptr = (0, 0); now = [] })) (λ n. n.now)
    c.in-len1-up.len_at_least (first_either c.args.names.now _ _ c.in-len1-up.len_at_least) refl refl (list_all-map is_ascii_name (λ n. n.now) c.args.names.now ∙ c.requires))).1

pub returns : goal.returns
returns c =
    let packages = c.args.packages.now.0 in
    let xs = c.args.names.now in
    let first = (get_or c.args.names.now 0 (record { ref_ptr = (0, 0); now = [] })) in
    let others = take (length xs - 1) (drop 1 xs) in
    let split = first_and_others xs first c.in-len1-up.len_at_least (first_either c.args.names.now _ _ c.in-len1-up.len_at_least) in
    parts_written (printed_prefix packages common_lisp_user) (λ n. object.text n.now)
    c.push.new.self.items c.push-2.new.self.items c.push_text.new.text.items c.push_later.new.text.items c.push-3.new.self.items
    first others c.in_ok-push-2.ensures.items c.in_ok-push_text.ensures c.in_ok-push_later.ensures c.in_ok-push-3.ensures.items
    ∙ ap (λ ys. c.push.new.self.items ++ printed packages common_lisp_user (list_of ys))
    (each_mapped (λ n. object.text n) (first ∷ others) xs (λ n. n.now) (sym split) refl)
    ∙ ap (λ t. t ++ printed packages common_lisp_user (texts (map (λ n. n.now) xs))) c.in_ok-push.ensures.items
    ∙ append_assoc c.args.text.now.items (codes " ") (printed packages common_lisp_user (texts (map (λ n. n.now) xs)))
