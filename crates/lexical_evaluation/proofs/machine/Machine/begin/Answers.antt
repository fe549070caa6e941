use Rattle.plist_state.specs.Sound.{IsValue}
use Rattle.std.proofs.Common.{length, ap, sym, subst, ◌∙◌, arith}
use Rattle.lisp_object.specs.Datum.{object_of, is_proper}
use Rattle.lisp_object.specs.declared.refusal.TheConstants.{NOT_A_FORM}
use Rattle.lisp_object.proofs.ProperLists.{items_of_proper}
use Rattle.lisp_object.specs.Object.{list_of}
use Rattle.lisp_operators.specs.EvaluationAnswers.{AreProper, objects, IsArgument}
use Rattle.lexical_evaluation.specs.Values.{value_in}
use Rattle.lexical_evaluation.specs.Machine.{KeepsOutcome, comes_to, around, point_of}
use Rattle.lexical_evaluation.specs.Ways.{ways}
use Rattle.lexical_evaluation.proofs.Apart.{items_proper}
use Rattle.lexical_evaluation.proofs.Continuing.{refused}
use Rattle.lexical_evaluation.proofs.Forms.{dotted_value, listed}
use Rattle.lexical_evaluation.proofs.Going.{comes_as}
use Rattle.lexical_evaluation.proofs.machine.Machine.begin.Goals as goal

pub returns-then-is_some-clause-gives : goal.returns-then-is_some-clause-gives
returns-then-is_some-clause-gives c = λ names.
    let m = c.args.self.now in
    let w = ways names in
    ap (comes_to w m)
    (dotted_value (w.rules m.deeper) (around m) (point_of m c.args.world.now.0) c.args.form c.in-Ok.items c.in-Ok.tail c.in-Ok.ensures.list c.requires.form (sym c.is_some.ensures ∙ c.if-is_some.true))
    ∙ refused w m NOT_A_FORM

pub begin_list-requires-clause-some : goal.begin_list-requires-clause-some
begin_list-requires-clause-some c =
    omega (arith, (items_of_proper c.in-Ok.items c.in-Ok.tail (ap is_proper (sym c.in-Ok.ensures.list) ∙ c.requires.form)).0, ap length c.into_vec.ensures)

pub begin_list-requires-clause-items : goal.begin_list-requires-clause-items
begin_list-requires-clause-items c = subst AreProper (sym c.into_vec.ensures) (items_proper c.args.form c.in-Ok.items c.in-Ok.tail c.in-Ok.ensures.list c.requires.form)

pub returns-else-is_some-clause-gives : goal.returns-else-is_some-clause-gives
returns-else-is_some-clause-gives c = λ names.
    let m = c.args.self.now in
    let w = ways names in
    let s = c.args.world.now.0 in
    let items = c.into_vec.result.items in
    comes_as w s (comes_to w m (value_in (w.rules m.deeper) (around m) (point_of m s) (object_of c.args.form))) (comes_to w m (value_in (w.rules m.deeper) (around m) (point_of m s) (list_of (objects items))))
    c.begin_list.new.self c.begin_list.result
    (ap (λ x. comes_to w m (value_in (w.rules m.deeper) (around m) (point_of m s) x)) (listed c.args.form c.in-Ok.items items c.in-Ok.tail c.in-Ok.ensures.list (sym c.is_some.ensures ∙ c.if-is_some.false) c.into_vec.ensures))
    (c.begin_list.ensures.gives names)

pub returns-in-Err-clause-gives : goal.returns-in-Err-clause-gives
returns-in-Err-clause-gives c = λ names.
    let s = c.args.world.now.0 in
    subst (λ d. KeepsOutcome (ways names) s s c.args.self.now c.begin_atom.new.self c.begin_atom.result (λ rules seen p. value_in rules seen p (object_of d))) c.in-Err.ensures.same (c.begin_atom.ensures.gives (ways names) s)

pub returns-else-is_some-clause-arguments : goal.returns-else-is_some-clause-arguments
returns-else-is_some-clause-arguments c = λ u hand argument.
    c.begin_list.ensures.arguments u hand (subst (IsValue u) (listed c.args.form c.in-Ok.items c.into_vec.result.items c.in-Ok.tail c.in-Ok.ensures.list (sym c.is_some.ensures ∙ c.if-is_some.false) c.into_vec.ensures) argument.value)

pub returns-in-Err-clause-arguments : goal.returns-in-Err-clause-arguments
returns-in-Err-clause-arguments c = λ u hand argument. c.begin_atom.ensures.arguments u hand (subst (IsArgument u) (sym c.in-Err.ensures.same) argument)
