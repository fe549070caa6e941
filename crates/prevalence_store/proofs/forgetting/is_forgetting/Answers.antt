use Rattle.std.proofs.Common.{sym, ◌∙◌}
use Rattle.prevalence_store.proofs.steps.ForgettingForms.{alone_form, dotted_form, head_proper, longer_form}
use Rattle.prevalence_store.proofs.forgetting.is_forgetting.Goals as goal

pub returns-then-is_some : goal.returns-then-is_some
returns-then-is_some c = sym (dotted_form c.args.form.now c.in-List.items c.in-List.tail c.in-List.is c.requires (sym c.is_some.ensures ∙ c.if-is_some.true))

pub returns-then-items-ne1 : goal.returns-then-items-ne1
returns-then-items-ne1 c =
    sym (longer_form c.args.form.now c.in-List.items c.as_slice-items.result.now c.in-List.tail c.in-List.is c.requires (sym c.is_some.ensures ∙ c.if-is_some.false) c.as_slice-items.ensures c.if-items-ne1.true)

pub is_forget_names-requires : goal.is_forget_names-requires
is_forget_names-requires c =
    head_proper c.args.form.now c.in-List.items c.as_slice-items.result.now c.in-List.tail c.index-items-0.result c.in-List.is c.requires c.as_slice-items.ensures c.if-items-ne1.false c.index-items-0.is

pub returns-else-items-ne1 : goal.returns-else-items-ne1
returns-else-items-ne1 c =
    c.is_forget_names.ensures
    ∙ sym (alone_form c.args.form.now c.in-List.items c.as_slice-items.result.now c.in-List.tail c.index-items-0.result c.in-List.is c.requires (sym c.is_some.ensures ∙ c.if-is_some.false) c.as_slice-items.ensures c.if-items-ne1.false c.index-items-0.is)
