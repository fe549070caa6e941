use Rattle.lexical_evaluation.proofs.Handing.{spent_holds}
use Rattle.std.proofs.Common.{◌≡◌, Err, refl, ap, sym, subst, ◌∙◌}
use Rattle.std.proofs.lemmas.Result.{err_from_is_err_and}
use Rattle.lisp_object.specs.Object.{symbol, pair, list_of}
use Rattle.lisp_object.specs.Datum.{object_of}
use Rattle.lisp_object.specs.declared.refusal.TheConstants.{NOT_A_FORM}
use Rattle.lisp_operators.specs.EvaluationAnswers.{objects}
use Rattle.lisp_operators.specs.declared.error.EvaluationError.{EvaluationError}
use Rattle.evaluator.specs.Operators.{first}
use Rattle.evaluator.specs.ArgumentValues.{arguments_in}
use Rattle.evaluator.proofs.Forms.{head_at, arguments_proper}
use Rattle.evaluator.proofs.Heads.{symbol_of_some}
use Rattle.kept_functions.specs.Counting.{spending}
use Rattle.lexical_evaluation.specs.Values.{value_in, form_value}
use Rattle.lexical_evaluation.specs.Machine.{Spends, comes_to, around, point_of}
use Rattle.lexical_evaluation.specs.Ways.{ways, head_shown, head_in, parts_in}
use Rattle.lexical_evaluation.proofs.Continuing.{refused}
use Rattle.lexical_evaluation.proofs.Forms.{other_head, begun_form, list_begun, step_stops, step_taken}
use Rattle.lexical_evaluation.proofs.Going.{comes_as}
use Rattle.lexical_evaluation.proofs.machine.Machine.begin_list.Goals as goal

pub returns-in_default-clause-gives : goal.returns-in_default-clause-gives
returns-in_default-clause-gives c = λ names.
    let m = c.args.self.now in
    let w = ways names in
    let s = c.args.world.now.0 in
    ap (comes_to w m)
    (ap (value_in (w.rules m.deeper) (around m) (point_of m s)) (head_at c.args.items.items c.as_slice.result.now c.index-as_slice-0.result c.as_slice.ensures.value c.requires.some c.index-as_slice-0.is)
    ∙ other_head (w.rules m.deeper) (around m) (point_of m s) (object_of c.index-as_slice-0.result) (arguments_in c.as_slice.result.now) c.in_default.ensures.1)
    ∙ refused w m NOT_A_FORM

pub returns-in_err-spend-clause-gives : goal.returns-in_err-spend-clause-gives
returns-in_err-spend-clause-gives c =
    let m = c.args.self.now in
    let s = c.args.world.now.0 in
    let h = c.in-Ok.home.now in
    let n = c.in-Ok.name.now in
    let items = c.args.items.items in
    let slice = c.as_slice.result.now in
    let arguments = arguments_in slice in
    let parted : list_of (objects items) ≡ pair (object_of c.index-as_slice-0.result) arguments = head_at items slice c.index-as_slice-0.result c.as_slice.ensures.value c.requires.some c.index-as_slice-0.is in
    let named : object_of c.index-as_slice-0.result ≡ symbol h n = symbol_of_some (object_of c.index-as_slice-0.result) (h, n) (sym c.in-Ok.ensures) in
    let r = err_from_is_err_and c.from_residual.result c.from_residual.ensures.1 in
    rw r.1 (λ names.
    let w = ways names in
    let f = begun_form (symbol h n) arguments in
    comes_as w s (comes_to w m (value_in (w.rules m.deeper) (around m) (point_of m s) (list_of (objects items))))
    (comes_to w m (spending 1 (point_of m s) (f (w.rules m.deeper) (around m)))) c.spend.new.self (Err r.0)
    (ap (λ x. comes_to w m (value_in (w.rules m.deeper) (around m) (point_of m s) x)) (parted ∙ ap (λ x. pair x arguments) named)
    ∙ ap (comes_to w m) (list_begun (w.rules m.deeper) (around m) (point_of m s) h n arguments (arguments_proper slice)))
    (step_stops w s 1 m c.spend.new.self f c.spend.new.self r.0
    (subst (λ (e : EvaluationError). Spends 1 m c.spend.new.self (Err e)) (sym r.2) (c.in_err-spend.ensures 1 refl))))

pub returns-clause-gives : goal.returns-clause-gives
returns-clause-gives c = λ names.
    let m = c.args.self.now in
    let s = c.args.world.now.0 in
    let h = c.in-Ok.home.now in
    let n = c.in-Ok.name.now in
    let items = c.args.items.items in
    let slice = c.as_slice.result.now in
    let arguments = arguments_in slice in
    let parted : list_of (objects items) ≡ pair (object_of c.index-as_slice-0.result) arguments = head_at items slice c.index-as_slice-0.result c.as_slice.ensures.value c.requires.some c.index-as_slice-0.is in
    let named : object_of c.index-as_slice-0.result ≡ symbol h n = symbol_of_some (object_of c.index-as_slice-0.result) (h, n) (sym c.in-Ok.ensures) in
    let mid = c.spend.new.self in
    let w = ways names in
    let f = begun_form (symbol h n) arguments in
    let rules = w.rules mid.deeper in
    let p = point_of mid s in
    let head = head_shown names c.head_at-head.result in
    comes_as w s (comes_to w m (value_in (w.rules m.deeper) (around m) (point_of m s) (list_of (objects items))))
    (comes_to w mid (form_value rules p (head_in items) head (arguments_in items) (parts_in rules (around mid) p (arguments_in items)))) c.begin_form.new.self c.begin_form.result
    (ap (λ x. comes_to w m (value_in (w.rules m.deeper) (around m) (point_of m s) x)) (parted ∙ ap (λ x. pair x arguments) named)
    ∙ ap (comes_to w m) (list_begun (w.rules m.deeper) (around m) (point_of m s) h n arguments (arguments_proper slice))
    ∙ step_taken w s 1 m mid f tt (c.in_ok-spend.ensures 1 refl)
    ∙ ap (λ k. comes_to w mid (form_value rules p (symbol h n) k arguments (parts_in rules (around mid) p arguments))) (c.head_at-head.ensures names mid.deeper)
    ∙ ap (λ x. comes_to w mid (form_value rules p x head arguments (parts_in rules (around mid) p arguments))) (sym (ap first parted ∙ named))
    ∙ ap (λ a. comes_to w mid (form_value rules p (head_in items) head a (parts_in rules (around mid) p a))) (ap arguments_in c.as_slice.ensures.value))
    (c.begin_form.ensures.gives names s)

pub returns-clause-arguments : goal.returns-clause-arguments
returns-clause-arguments c = λ u hand value. c.begin_form.ensures.arguments u (spent_holds u 1 c.args.self.now c.spend.new.self tt (c.in_ok-spend.ensures 1 refl) hand) value

pub returns-in_err-spend-clause-arguments : goal.returns-in_err-spend-clause-arguments
returns-in_err-spend-clause-arguments c =
    let r = err_from_is_err_and c.from_residual.result c.from_residual.ensures.1 in
    rw r.1 (λ u hand value. tt)
