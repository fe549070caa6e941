use Rattle.std.proofs.Common.{◌∙◌, ◌++◌, [], ap, codes}
use Rattle.package_table.specs.Table.{keyword}
use Rattle.world_forms.specs.Forms.{readtable_form}
use Rattle.world_forms.specs.NameTokens.{value_text}
use Rattle.world_forms.proofs.Added.{three_added}
use Rattle.world_forms.proofs.export.push_readtable.Goals as goal

pub returns : goal.returns
unfolding readtable_form
returns c =
    let value = value_text [] [] keyword in
    three_added c.args.forms.now.items (codes "(IN-READTABLE ") (value c.args.world.now.0.current_readtable) (codes ")") c.in_ok-extend_from_slice.ensures.items
    (c.in_ok-push_value.ensures ∙ ap (λ n. c.extend_from_slice.new.self.items ++ value n) c.current_readtable.ensures) c.in_ok-extend_from_slice-2.ensures.items
