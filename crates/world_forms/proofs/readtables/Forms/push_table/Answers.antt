use Rattle.std.proofs.Common.{◌++◌, ◌∙◌, ap, codes}
use Rattle.std.specs.List.{flat_map, range_with_len}
use Rattle.world_forms.specs.Readtables.{table_lines, table_end, case_line, changed_lines}
use Rattle.world_forms.proofs.Added.{four_added}
use Rattle.world_forms.proofs.readtables.Forms.push_table.Goals as goal

pub returns : goal.returns
unfolding table_lines
returns c =
    let name = c.args.self.now.name.now in
    four_added c.args.text.now.items (codes "(COPY-READTABLE :STANDARD") (table_end name) (case_line name c.args.table.now.letters)
    (flat_map (changed_lines name c.args.table.now) (range_with_len 0 128)) c.in_ok-extend_from_slice.ensures.items c.in_ok-push_end.ensures
    (c.in_ok-push_case.ensures ∙ ap (λ letters. c.push_end.new.text.items ++ case_line name letters) c.case.ensures) c.in_ok-push_characters.ensures
