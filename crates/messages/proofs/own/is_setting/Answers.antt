use Rattle.std.proofs.Common.{[], ◌∷◌, None, sym, ◌∙◌}
use Rattle.std.proofs.lemmas.Bool.{false≢true}
use Rattle.lisp_object.specs.declared.datum.Datum
use Rattle.messages.proofs.Shapes.{last_same, of_three}
use Rattle.messages.proofs.own.is_setting.Goals as goal
use Rattle.messages.proofs.own.is_setting.Goals.{then-is_symbol, else-is_symbol}

pub returns-then-is_property : goal.returns-then-is_property
returns-then-is_property c =
    let l = c.in-List in
    let listed = of_three c.args.datum.now l.items l.tail c.as_slice.result.now c.is_some.result l.is c.as_slice.ensures c.is_some.ensures c.if-is_some.false
    c.name-item.result c.place-item.result c.value-item.result c.in-len3.len_at_least c.in-len3.len_below c.name-item.is c.place-item.is c.value-item.is in
    elim c.if-is_symbol.branch [
      | then-is_symbol w ↦
          let operator = c.is_symbol.ensures.0 w.if-is_symbol.true in
          let place = w.is_property.ensures.0 (sym w.value-is ∙ c.if-is_property.true) in
          let last = c.is_number.ensures in (
            λ true. listed ∙ (λ i. Datum.List (operator i ∷ place i ∷ last.0 true i ∷ []) None),
            λ is. last.1 (last_same c.args.datum.now (c.name-item.result ∷ c.place-item.result ∷ c.value-item.result ∷ []) _ (sym listed ∙ is)),
          )
      | else-is_symbol w ↦ absurd (false≢true (sym w.if-is_symbol.false ∙ sym w.value-is ∙ c.if-is_property.true))
    ]
