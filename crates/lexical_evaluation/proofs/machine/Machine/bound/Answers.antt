use Rattle.lexical_evaluation.specs.Arguments.{HaveArguments}
use Rattle.lexical_evaluation.proofs.Handing.{one_more, none_made}
use Rattle.std.proofs.Common.{◌++◌, ◌∷◌, true, false, sym, subst}
use Rattle.lexical_evaluation.specs.Machine.{around, point_of, to_come, bound_then, variables_seen}
use Rattle.kept_functions.specs.KeptFunctions.{binding_shown}
use Rattle.lexical_evaluation.proofs.Bindings.{turned, at_once}
use Rattle.lexical_evaluation.proofs.Going.{Meaning, goes_as, goes_over, goes_seen}
use Rattle.lexical_evaluation.proofs.machine.Machine.bound.Goals as goal

pub returns-then-in_turn-clause-gives : goal.returns-then-in_turn-clause-gives
returns-then-in_turn-clause-gives c =
    let m = c.args.self.now in
    let made = c.args.made.items in
    let more = c.push.new.self.items in
    let others = to_come c.args.others.items in
    let forms = to_come c.args.forms.items in
    let f : Meaning = λ does rules seen p. bound_then rules c.args.in_turn seen (binding_shown c.args.binding ∷ (variables_seen made ++ seen)) others forms p in
    let g : Meaning = λ does rules seen p. bound_then rules true seen (variables_seen c.new-none.result.items ++ seen) others forms p in
    goes_over m c.bind_next.new.self c.bind_next.result f g c.scope.new.self
    (λ w s. goes_seen m c.scope.new.self more f g w s c.in_ok-scope.ensures.sees
    (turned (w.rules m.deeper) (around m) (point_of m s) c.args.in_turn c.args.binding made more c.new-none.result.items others forms c.in_ok-push.ensures.items c.if-in_turn.true c.new-none.ensures.items))
    c.bind_next.ensures.gives

pub returns-clause-gives : goal.returns-clause-gives
returns-clause-gives c =
    let m = c.args.self.now in
    let made = c.args.made.items in
    let more = c.push.new.self.items in
    let others = to_come c.args.others.items in
    let forms = to_come c.args.forms.items in
    goes_as m c.bind_next-2.new.self c.bind_next-2.result
    (λ does rules seen p. bound_then rules c.args.in_turn seen (binding_shown c.args.binding ∷ (variables_seen made ++ seen)) others forms p)
    (λ does rules seen p. bound_then rules false seen (variables_seen more ++ seen) others forms p)
    (λ w s. at_once (w.rules m.deeper) (around m) (point_of m s) c.args.in_turn c.args.binding made more more others forms c.in_ok-push.ensures.items c.if-in_turn.false)
    c.bind_next-2.ensures.gives

pub returns-then-in_turn-clause-arguments : goal.returns-then-in_turn-clause-arguments
returns-then-in_turn-clause-arguments c = λ u hand given.
    let more = one_more u c.args.made.items c.push.new.self.items c.args.binding c.in_ok-push.ensures.items given.2 given.0 in
    c.bind_next.ensures.arguments u (c.in_ok-scope.ensures.arguments u hand more) (given.1, subst (HaveArguments u) (sym c.new-none.ensures.items) (none_made u), given.3)

pub returns-clause-arguments : goal.returns-clause-arguments
returns-clause-arguments c = λ u hand given.
    c.bind_next-2.ensures.arguments u hand (given.1, one_more u c.args.made.items c.push.new.self.items c.args.binding c.in_ok-push.ensures.items given.2 given.0, given.3)
