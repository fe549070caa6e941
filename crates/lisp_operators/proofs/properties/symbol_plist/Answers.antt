use Rattle.std.proofs.Common.{All, sym, subst}
use Rattle.lisp_object.specs.Object as object
use Rattle.plist_state.specs.Properties.{Plist}
use Rattle.plist_state.specs.Views.{symbol_of}
use Rattle.lisp_operators.specs.EvaluationAnswers.{object_of_symbol}
use Rattle.lisp_operators.proofs.PropertyRows.{indicators_sound}
use Rattle.lisp_operators.proofs.properties.symbol_plist.Goals as goal

pub in_turn-requires : goal.in_turn-requires
in_turn-requires c =
    subst (λ (ps : Plist). All (λ p. object.IsSound (object_of_symbol p.0)) ps) (sym c.plist-row.ensures)
    (indicators_sound c.args.world.now.0 (symbol_of c.in_ok-symbol.symbol) c.soundness.ensures.present)
