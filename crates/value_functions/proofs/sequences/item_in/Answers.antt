use Rattle.std.proofs.Common.{Ok, sym, ap, ◌∙◌, arith}
use Rattle.lisp_object.specs.Datum.{object_of}
use Rattle.value_functions.proofs.Places.{item_there, item_past}
use Rattle.value_functions.proofs.sequences.item_in.Goals as goal

pub returns-then-at-items-clause-value : goal.returns-then-at-items-clause-value
returns-then-at-items-clause-value c = item_past c.args.items.now c.args.at c.if-at-items.true

pub returns-clause-value : goal.returns-clause-value
returns-clause-value c =
    item_there c.args.items.now c.args.at c.index-items-at.result (omega (arith, c.if-at-items.false))
    ∙ ap (λ d. Ok (object_of d)) (sym c.index-items-at.is ∙ sym c.in_ok-copy.ensures)
