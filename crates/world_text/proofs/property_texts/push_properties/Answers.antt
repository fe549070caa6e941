use Rattle.std.proofs.Common.{◌∷◌, ◌++◌, [], length, take, drop, get_or, sym, ap, ◌∙◌}
use Rattle.std.specs.Prelude.{◌-◌}
use Rattle.std.proofs.lemmas.Bool.{and_parts}
use Rattle.lisp_object.specs.Object.{list_of}
use Rattle.package_table.specs.Table.{common_lisp_user}
use Rattle.canon_printer.specs.Printed.{printed, printed_prefix}
use Rattle.plist_state.specs.Changes.{plist}
use Rattle.world_text.specs.Snapshot.{plist_object}
use Rattle.world_text.proofs.RowsWritten.{parts_written, first_and_others, first_either, each_passes, each_mapped}
use Rattle.world_text.proofs.Worlds.{is_ascii_symbol, symbols_ascii}
use Rattle.world_text.proofs.property_texts.push_properties.Goals as goal

pub push_row-requires : goal.push_row-requires
push_row-requires c =
    let xs = c.as_slice.result.now in
    let first = get_or xs 0 (record { ref_ptr = (0, 0); now = [] }, record { ref_ptr = (0, 0); now = [] }) in
    (and_parts _ _ (each_passes is_ascii_symbol xs c.in_ok-symbols.symbols.items first (λ s. (s.0.now, s.1.now))
    c.in-len1-up.len_at_least (first_either xs _ first c.in-len1-up.len_at_least) c.as_slice.ensures.value c.in_ok-symbols.ensures (symbols_ascii c.args.world.now.0 c.soundness.ensures.present))).0

pub push_others-requires : goal.push_others-requires
push_others-requires c =
    let xs = c.as_slice.result.now in
    let first = get_or xs 0 (record { ref_ptr = (0, 0); now = [] }, record { ref_ptr = (0, 0); now = [] }) in
    (and_parts _ _ (each_passes is_ascii_symbol xs c.in_ok-symbols.symbols.items first (λ s. (s.0.now, s.1.now))
    c.in-len1-up.len_at_least (first_either xs _ first c.in-len1-up.len_at_least) c.as_slice.ensures.value c.in_ok-symbols.ensures (symbols_ascii c.args.world.now.0 c.soundness.ensures.present))).1

pub returns : goal.returns
returns c =
    let w = c.args.world.now.0 in
    let xs = c.as_slice.result.now in
    let first = get_or xs 0 (record { ref_ptr = (0, 0); now = [] }, record { ref_ptr = (0, 0); now = [] }) in
    let others = take (length xs - 1) (drop 1 xs) in
    let split = first_and_others xs first c.in-len1-up.len_at_least (first_either xs _ first c.in-len1-up.len_at_least) in
    parts_written (printed_prefix w.packages common_lisp_user) (λ s. plist_object (s.0.now, s.1.now) (plist w (s.0.now, s.1.now)))
    c.args.text.now.items c.push.new.self.items c.push_row.new.text.items c.push_others.new.text.items c.push-2.new.self.items
    first others c.in_ok-push.ensures.items c.in_ok-push_row.ensures c.in_ok-push_others.ensures c.in_ok-push-2.ensures.items
    ∙ ap (λ ys. c.args.text.now.items ++ printed w.packages common_lisp_user (list_of ys))
    (each_mapped (λ x. plist_object x (plist w x)) (first ∷ others) c.in_ok-symbols.symbols.items (λ s. (s.0.now, s.1.now)) (sym split ∙ c.as_slice.ensures.value) c.in_ok-symbols.ensures)
