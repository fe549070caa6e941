use Rattle.std.proofs.Common.{◌≡◌, ◌<◌, ◌++◌, [], ◌∷◌, true, ap, map, length, subst, ◌∙◌}
use Rattle.std.specs.List.{list_all}
use Rattle.std.proofs.lemmas.Option.{slice_get_within, get_or_from_slice_get}
use Rattle.lisp_object.specs.Object as object
use Rattle.lisp_object.specs.Datum.{object_of, is_proper}
use Rattle.plist_state.specs.Properties.{Symbol}
use Rattle.plist_state.specs.Views.{property_of}
use Rattle.lisp_operators.specs.EvaluationAnswers.{object_of_symbol}
use Rattle.lisp_operators.proofs.PropertyRows.{in_turn_more, turn_proper, ascii_home, ascii_name}
use Rattle.lisp_operators.proofs.properties.in_turn.Goals as goal

pub loop-index-preserved : goal.loop-index-preserved
loop-index-preserved c =
    let vs = c.loop-index.values.items in
    let p = property_of c.at-property.result in
    let key_datum = c.in_ok-symbol.field-0 in
    let datum = c.in_ok-copy.field-0 in
    let same : c.push-in-loop-index.new.self.items ≡ (vs ++ key_datum ∷ []) ++ datum ∷ [] = c.in_ok-push-2.ensures.items ∙ ap (λ xs. xs ++ datum ∷ []) c.in_ok-push.ensures.items in
    let key : object_of key_datum ≡ object_of_symbol p.0 = c.in_ok-symbol.ensures.value in
    let within : c.loop-index.index < length c.args.row.now = slice_get_within c.args.row.now c.loop-index.index p c.at-property.ensures.property in
    let sound : object.IsSound (object_of_symbol p.0) =
    subst (λ (q : Symbol × object.Object). object.IsSound (object_of_symbol q.0)) (get_or_from_slice_get c.args.row.now c.loop-index.index p p c.at-property.ensures.property) (c.requires c.loop-index.index p within) in
    let key_proper : is_proper key_datum ≡ true = c.in_ok-symbol.ensures.proper (ascii_home p.0.0 p.0.1 sound) (ascii_name p.0.0 p.0.1 sound) in
    let value_proper : is_proper datum ≡ true = ap is_proper c.in_ok-copy.ensures ∙ c.at-property.ensures.proper in (
      ap (map object_of) same ∙ in_turn_more c.args.row.now c.loop-index.index p vs key_datum datum within c.at-property.ensures.property c.loop-index.invariant.0 key (ap object_of c.in_ok-copy.ensures),
      ap (list_all is_proper) same ∙ turn_proper vs key_datum datum c.loop-index.invariant.1 key_proper value_proper,
    )
