use Rattle.std.proofs.Common.{[], ◌∷◌, None, sym, ◌∙◌}
use Rattle.lisp_object.specs.declared.datum.Datum
use Rattle.messages.proofs.Shapes.{last_same, of_two}
use Rattle.messages.proofs.own.is_quoted_position.Goals as goal

pub returns-then-is_symbol : goal.returns-then-is_symbol
returns-then-is_symbol c =
    let l = c.in-List in
    let listed = of_two c.args.datum.now l.items l.tail c.as_slice.result.now c.is_some.result l.is c.as_slice.ensures c.is_some.ensures c.if-is_some.false
    c.quote-item.result c.position-item.result c.in-len2.len_at_least c.in-len2.len_below c.quote-item.is c.position-item.is in
    let quote = c.is_symbol.ensures.0 c.if-is_symbol.true in
    let last = c.is_symbol-then-is_symbol.ensures in (
      λ true. listed ∙ (λ i. Datum.List (quote i ∷ last.0 true i ∷ []) None),
      λ is. last.1 (last_same c.args.datum.now (c.quote-item.result ∷ c.position-item.result ∷ []) _ (sym listed ∙ is)),
    )
