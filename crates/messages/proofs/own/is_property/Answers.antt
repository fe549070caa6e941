use Rattle.std.proofs.Common.{[], ◌∷◌, None, sym, ◌∙◌}
use Rattle.std.proofs.lemmas.Bool.{false≢true}
use Rattle.lisp_object.specs.declared.datum.Datum
use Rattle.messages.proofs.Shapes.{last_same, of_three}
use Rattle.messages.proofs.own.is_property.Goals as goal
use Rattle.messages.proofs.own.is_property.Goals.{then-is_symbol, else-is_symbol}

pub returns-then-is_quoted_position : goal.returns-then-is_quoted_position
returns-then-is_quoted_position c =
    let l = c.in-List in
    let listed = of_three c.args.datum.now l.items l.tail c.as_slice.result.now c.is_some.result l.is c.as_slice.ensures c.is_some.ensures c.if-is_some.false
    c.name-item.result c.owner-item.result c.indicator-item.result c.in-len3.len_at_least c.in-len3.len_below c.name-item.is c.owner-item.is c.indicator-item.is in
    elim c.if-is_symbol.branch [
      | then-is_symbol w ↦
          let operator = c.is_symbol.ensures.0 w.if-is_symbol.true in
          let owner = w.is_quoted_position.ensures.0 (sym w.value-is ∙ c.if-is_quoted_position.true) in
          let last = c.is_quoted_position-then-is_quoted_position.ensures in (
            λ true. listed ∙ (λ i. Datum.List (operator i ∷ owner i ∷ last.0 true i ∷ []) None),
            λ is. last.1 (last_same c.args.datum.now (c.name-item.result ∷ c.owner-item.result ∷ c.indicator-item.result ∷ []) _ (sym listed ∙ is)),
          )
      | else-is_symbol w ↦ absurd (false≢true (sym w.if-is_symbol.false ∙ sym w.value-is ∙ c.if-is_quoted_position.true))
    ]
