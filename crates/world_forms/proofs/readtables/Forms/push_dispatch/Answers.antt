use Rattle.std.proofs.Common.{◌++◌, ◌∙◌, ap, codes, get_or, None}
use Rattle.std.specs.List.{flat_map, range_with_len}
use Rattle.world_forms.specs.NameTokens.{character_argument}
use Rattle.world_forms.specs.Readtables.{dispatch_lines, kind_argument, sub_line, table_end}
use Rattle.world_forms.proofs.Added.{five_added}
use Rattle.world_forms.proofs.readtables.Forms.push_dispatch.Goals as goal

pub returns : goal.returns
unfolding dispatch_lines
returns c =
    let name = c.args.self.now.name.now in
    five_added c.args.text.now.items (codes "(MAKE-DISPATCH-MACRO-CHARACTER") (character_argument c.args.c) (kind_argument c.args.entry.now.syntax) (table_end name)
    (flat_map (λ sub. sub_line name c.args.c sub (get_or c.args.entry.now.dispatch sub None)) (range_with_len 0 128))
    c.in_ok-extend_from_slice.ensures.items c.in_ok-push_character.ensures
    (c.in_ok-push_kind.ensures ∙ ap (λ syntax. c.push_character.new.text.items ++ kind_argument syntax) c.syntax.ensures)
    c.in_ok-push_end.ensures c.in_ok-push_subs.ensures
