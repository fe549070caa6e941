use Rattle.plist_state.specs.Sound.{IsValue}
use Rattle.lexical_evaluation.proofs.Safe.{answered_holds, symbol_safe}
use Rattle.std.proofs.Common.{◌≡◌, ◌∷◌, sym, ap, subst}
use Rattle.lisp_object.specs.declared.refusal.TheConstants.{NOT_A_FORM}
use Rattle.lisp_object.specs.Object.{symbol}
use Rattle.lisp_object.specs.Datum.{object_of}
use Rattle.evaluator.specs.Value.{symbol_value}
use Rattle.kept_functions.specs.Counting.{at_point}
use Rattle.lexical_evaluation.specs.Machine.{global_value, point_of}
use Rattle.lexical_evaluation.specs.Ways.{ways}
use Rattle.evaluator.proofs.Heads.{symbol_of_some}
use Rattle.lexical_evaluation.proofs.Finishing.{keeps_as, keeps_refused, other_global}
use Rattle.lexical_evaluation.proofs.machine.Machine.give_global.Goals as goal

pub returns-in-Ok-clause-gives : goal.returns-in-Ok-clause-gives
returns-in-Ok-clause-gives c = λ names xs.
    let m = c.args.self.now in
    let s = c.args.world.now.0 in
    let w = ways names in
    let x = object_of c.args.symbol.now in
    let h = c.in-Ok._home.now in
    let n = c.in-Ok._name.now in
    let named : x ≡ symbol h n = symbol_of_some x (h, n) (sym c.in-Ok.ensures) in
    keeps_as w s s m c.made.new.self (λ rules seen p. global_value rules (x ∷ xs) p) c.made.result (λ rules seen p. at_point p (symbol_value h n p.state))
    (ap (λ y. global_value (w.rules m.deeper) (y ∷ xs) (point_of m s)) named)
    (c.made.ensures.gives w s s (symbol_value h n s) (c.symbol_value-value.ensures.gives h n (sym c.in-Ok.ensures)))

pub returns-in-Err-clause-gives : goal.returns-in-Err-clause-gives
returns-in-Err-clause-gives c = λ names xs.
    let m = c.args.self.now in
    let s = c.args.world.now.0 in
    let w = ways names in
    let x = object_of c.args.symbol.now in
    keeps_refused w s s m m (λ rules seen p. global_value rules (x ∷ xs) p) NOT_A_FORM (other_global (w.rules m.deeper) xs (point_of m s) x c.in-Err.ensures.1)

pub returns-in-Ok-clause-arguments : goal.returns-in-Ok-clause-arguments
returns-in-Ok-clause-arguments c = λ hand.
    let s = c.args.world.now.0 in
    let h = c.in-Ok._home.now in
    let n = c.in-Ok._name.now in
    c.made.ensures.arguments s.packages
    (answered_holds c.args.self.now s s (symbol_value h n s) (symbol_safe s h n c.soundness.ensures.present (subst (IsValue s.packages) (symbol_of_some (object_of c.args.symbol.now) (h, n) (sym c.in-Ok.ensures)) c.requires.value))
    hand c.symbol_value-value.result (c.symbol_value-value.ensures.gives h n (sym c.in-Ok.ensures)) c.symbol_value-value.ensures.proper)
