use Rattle.std.proofs.Common.{◌++◌, codes, map, ap, ◌∙◌}
use Rattle.package_table.specs.Table.{common_lisp_user}
use Rattle.canon_printer.specs.Printed.{printed}
use Rattle.world_text.specs.Snapshot.{texts}
use Rattle.world_text.proofs.Ascii.{is_ascii_name, shown_names_ascii}
use Rattle.world_text.proofs.RowsWritten.{images_pass}
use Rattle.world_text.proofs.package_rows.push_shown.Goals as goal

pub push_texts-requires : goal.push_texts-requires
push_texts-requires c =
    images_pass is_ascii_name c.as_slice.result.now c.in_ok-names.names.items (λ n. n.now) c.as_slice.ensures.value
    c.in_ok-names.ensures (shown_names_ascii c.args.packages.now.0 c.soundness.ensures c.args.owner.now)

pub returns : goal.returns
returns c =
    c.in_ok-push_texts.ensures
    ∙ ap (λ ns. c.args.text.now.items ++ (codes " " ++ printed c.args.packages.now.0 common_lisp_user (texts ns)))
    (ap (map (λ n. n.now)) c.as_slice.ensures.value ∙ c.in_ok-names.ensures)
