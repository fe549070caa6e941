use Rattle.std.proofs.Common.{◌∙◌, ◌++◌, ap, codes, decimal}
use Rattle.world_forms.specs.Forms.{base_form}
use Rattle.world_forms.proofs.Added.{three_added}
use Rattle.world_forms.proofs.export.push_base.Goals as goal

pub returns : goal.returns
unfolding base_form
returns c =
    three_added c.args.forms.now.items (codes "(SETF *READ-BASE* ") (decimal c.args.world.now.0.read_base) (codes ")") c.in_ok-extend_from_slice.ensures.items
    (c.in_ok-push_decimal.ensures ∙ ap (λ n. c.extend_from_slice.new.self.items ++ decimal n) c.read_base.ensures.base) c.in_ok-extend_from_slice-2.ensures.items
