use Rattle.std.proofs.Common.{◌∙◌, ap, length, sym}
use Rattle.store_looks.proofs.Refusals.{whole_text}
use Rattle.store_looks.proofs.checking.lines_of.Goals as goal

pub returns : goal.returns
returns c =
    whole_text c.args.notation c.args.found.now.forms c.args.found.now.unreadable.items c.as_slice.result.now c.new-lines.result.items c.push_refusals.new.lines.items c.push_counts.new.text.items c.len-unreadable.result
    c.new-lines.ensures.items c.as_slice.ensures.value (c.len-unreadable.ensures ∙ sym c.as_slice.ensures.len ∙ ap length c.as_slice.ensures.value) c.in_ok-push_refusals.ensures
    c.in_ok-push_counts.ensures
