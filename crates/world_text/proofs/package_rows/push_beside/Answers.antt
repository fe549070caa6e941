use Rattle.std.proofs.Common.{◌∷◌, ◌++◌, not, length, take, drop, filter, sym, ap, ◌∙◌}
use Rattle.std.specs.Prelude.{◌-◌}
use Rattle.std.specs.Str.{bytes_eq}
use Rattle.std.proofs.lemmas.Bool.{and_parts}
use Rattle.lisp_object.specs.Object.{list_of}
use Rattle.package_table.specs.Table.{Name, common_lisp, common_lisp_user}
use Rattle.package_table.specs.Readers.{package_names}
use Rattle.canon_printer.specs.Printed.{printed, printed_prefix}
use Rattle.world_text.specs.KeptNames.{kept_names}
use Rattle.world_text.specs.Snapshot.{package_with}
use Rattle.world_text.proofs.Ascii.{is_ascii_name, all_filtered, package_names_ascii}
use Rattle.world_text.proofs.RowsWritten.{parts_written, first_and_others, each_passes, each_mapped}
use Rattle.world_text.proofs.package_rows.push_beside.Goals as goal

pub push_package-requires-clause-name : goal.push_package-requires-clause-name
push_package-requires-clause-name g c =
    let t = c.args.packages.now.0 in
    (and_parts _ _ (each_passes is_ascii_name c.as_slice-2.result.now c.in_ok-others.others.items c.one-item.result (λ n. n.now)
    c.in-len1-up.len_at_least c.one-item.is c.as_slice-2.ensures.value
    (c.in_ok-others.ensures ∙ ap (filter (λ p. not (bytes_eq p common_lisp))) (c.as_slice.ensures ∙ c.in_ok-names.ensures))
    (all_filtered is_ascii_name (λ p. not (bytes_eq p common_lisp)) (package_names t) (package_names_ascii t c.soundness.ensures)))).0

pub push_later-requires-clause-names : goal.push_later-requires-clause-names
push_later-requires-clause-names g c =
    let t = c.args.packages.now.0 in
    (and_parts _ _ (each_passes is_ascii_name c.as_slice-2.result.now c.in_ok-others.others.items c.one-item.result (λ n. n.now)
    c.in-len1-up.len_at_least c.one-item.is c.as_slice-2.ensures.value
    (c.in_ok-others.ensures ∙ ap (filter (λ p. not (bytes_eq p common_lisp))) (c.as_slice.ensures ∙ c.in_ok-names.ensures))
    (all_filtered is_ascii_name (λ p. not (bytes_eq p common_lisp)) (package_names t) (package_names_ascii t c.soundness.ensures)))).1

pub returns : goal.returns
returns g c =
    let t = c.args.packages.now.0 in
    let row = λ (p : Name). package_with t p (kept_names (g.T.NameTest.keeps c.args.test.now) t p) in
    let xs = c.as_slice-2.result.now in
    let first = c.one-item.result in
    let others = take (length xs - 1) (drop 1 xs) in
    let split = first_and_others xs first c.in-len1-up.len_at_least c.one-item.is in
    parts_written (printed_prefix t common_lisp_user) (λ n. row n.now)
    c.args.text.now.items c.push.new.self.items c.push_package.new.text.items c.push_later.new.text.items c.push-2.new.self.items
    first others c.in_ok-push.ensures.items c.in_ok-push_package.ensures c.in_ok-push_later.ensures c.in_ok-push-2.ensures.items
    ∙ ap (λ ys. c.args.text.now.items ++ printed t common_lisp_user (list_of ys))
    (each_mapped row (first ∷ others) c.in_ok-others.others.items (λ n. n.now) (sym split ∙ c.as_slice-2.ensures.value)
    (c.in_ok-others.ensures ∙ ap (filter (λ p. not (bytes_eq p common_lisp))) (c.as_slice.ensures ∙ c.in_ok-names.ensures)))
