use Rattle.std.proofs.Common.{Bor, [], map, ap, ◌∙◌}
use Rattle.std.specs.List.{list_all}
use Rattle.lisp_object.specs.Datum.{object_of, is_proper}
use Rattle.package_table.specs.Table.{Name}
use Rattle.lisp_operators.proofs.LookUpSteps.{name_at, texts_more, one_more_proper}
use Rattle.lisp_operators.proofs.look_ups.texts.Goals as goal

pub loop-name-preserved : goal.loop-name-preserved
loop-name-preserved c =
    let ns = c.args.names.now in
    let i = c.loop-name.name-index in
    let vs = c.loop-name.texts.items in
    let d = c.in_ok-text.field-0 in
    let e : Bor Name = record { ref_ptr = (0, 0); now = [] } in (
      ap (map object_of) c.in_ok-push.ensures.items ∙ texts_more ns i e vs d c.loop-name-test.true c.loop-name.invariant.0 c.in_ok-text.ensures.value,
      ap (list_all is_proper) c.in_ok-push.ensures.items
          ∙ one_more_proper vs d c.loop-name.invariant.1 (c.in_ok-text.ensures.proper (name_at ns i e c.loop-name-test.true c.requires)),
    )
