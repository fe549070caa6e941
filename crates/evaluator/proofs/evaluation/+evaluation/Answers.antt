-- What each call answers.
use Rattle.std.proofs.Common.{◌≡◌, [], ◌∷◌, ◌++◌, true, false, cond, Ok, Err, None, drop, map, refl, sym, ap, subst, ◌∙◌, arith}
use Rattle.lisp_object.specs.Object.{nil, list_of}
use Rattle.lisp_operators.specs.Evaluation.{gives}
use Rattle.lisp_object.specs.Datum.{object_of}
use Rattle.lisp_object.proofs.Objects.{object_of-Symbol, object_of-List}
use Rattle.lisp_object.specs.declared.datum.Datum.TheViews.{sized-List, the_lemmas}
use Rattle.lisp_object.proofs.datum.Datum.TheLaws.{the_size}
use Rattle.lisp_operators.specs.ArgumentKinds.{is_pair}
use Rattle.evaluator.specs.ArgumentValues.{arguments_of, operation_value, values_after, subforms, sequence_value, asserted}
use Rattle.evaluator.specs.declared.wanted.ValueUse.TheVariants.{Value, Nothing}
use Rattle.evaluator.specs.StandIns.{stand_in, seen}
use Rattle.evaluator.proofs.ListItems.{held_so}
use Rattle.evaluator.proofs.Seen.{seen_value, refused_seen, refused_so, evaluated_so, evaluated_good}
use Rattle.evaluator.proofs.Sequences.{same_last, sequence_step, sequence_stops, sequence_last, no_forms, answered, refused_after, step_after}
use Rattle.evaluator.specs.Value.{value, sought, selected, has_truth}
use Rattle.lisp_operators.specs.Properties.{list}
use Rattle.plist_state.specs.Views.{symbol_named}
use Rattle.std.specs.Prelude.{◌==◌}
use Rattle.std.proofs.lemmas.Bool.{and_parts}
use Rattle.lisp_object.specs.declared.refusal.TheConstants.{ARGUMENT_KIND}
use Rattle.evaluator.specs.declared.operation.Operation.TheVariants.{Get}
use Rattle.evaluator.proofs.QuotedKeys.{get_of_key}
use Rattle.evaluator.proofs.Lists.{list_stops, list_given}
use Rattle.lisp_operators.specs.EvaluationAnswers.{Answers, done}
use Rattle.evaluator.proofs.Steps.{value_dotted, followed_stops, followed_at_end, argument_grown, all_more, list_arguments, followed_both}
use Rattle.evaluator.proofs.Forms.{head_form, head_refused, place_first, place_given, push_no_place, push_refused, push_given, same_item, subforms_given, performed, gathered_from_none, followed_more}
use Rattle.evaluator.proofs.ClauseShapes.{clause_at}
use Rattle.evaluator.proofs.Deciding.{assert_answers, later_items, proper_test, none_sought, sought_stops, sought_here, sought_next, sought_last, each_clause, conditional_is, selected_stops, selected_test, selected_forms, selected_next, none_selected, guarded_stops, guarded_passes, guarded_forms, first_stops, first_kept, first_others_stop}
use Rattle.evaluator.proofs.Branches.{choice_refused, choice_true, choice_none, choice_other}
use Rattle.evaluator.proofs.evaluation.+evaluation.Goals as goal

pub act-set_directly-requires : goal.act-set_directly-requires
act-set_directly-requires t c = c.in-Some-literal_assignment.ensures.storable c.args.world.now.0.packages c.requires.items

pub act-returns-in-Some-clause-gives : goal.act-returns-in-Some-clause-gives
act-returns-in-Some-clause-gives t c =
    let names = c.args.names.now in
    let s = c.args.world.now.0 in
    let p = c.in-Some.property in
    subst (λ o. Answers done c.get_directly.result s (seen c.args.task.wanted o))
    (sym (ap (λ o. operation_value names o (arguments_of (map object_of c.args.items.now)) s) c.in-Get.is
    ∙ ap (λ a. operation_value names Get a s) c.in-Some.ensures
    ∙ get_of_key names s (symbol_named p.symbol) (symbol_named p.indicator)))
    c.get_directly.ensures.gives

pub act-returns-in-Some-literal_assignment-clause-gives : goal.act-returns-in-Some-literal_assignment-clause-gives
act-returns-in-Some-literal_assignment-clause-gives t c =
    let names = c.args.names.now in
    let s = c.args.world.now.0 in
    subst (λ o. Answers done c.set_directly.result c.set_directly.new.world.0 (seen c.args.task.wanted o))
    (sym (ap (λ o. operation_value names o (arguments_of (map object_of c.args.items.now)) s) c.in-Setf.is
    ∙ c.in-Some-literal_assignment.ensures.value names s))
    c.set_directly.ensures.gives

pub gathered-returns-in_default : goal.gathered-returns-in_default
gathered-returns-in_default t c =
    record {
      gives = gathered_from_none c.args.names.now c.args.world.now.0 c.extended.new.world.0 c.args.operation c.args.items.now c.none.result.values.items c.none.result.wrote c.extended.result
          c.in_default.not-Setf c.in_default.not-Incf c.in_default.not-Push c.in_default.not-Changes c.none.ensures.values c.none.ensures.wrote c.extended.ensures.gives;
      values = c.extended.ensures.values;
      marked = c.extended.ensures.marked;
    }

pub any_form-returns-then-is_some-clause-gives : goal.any_form-returns-then-is_some-clause-gives
any_form-returns-then-is_some-clause-gives t c =
    ap (seen c.args.wanted) (value_dotted c.args.names.now c.args.world.now.0 c.args.form.now c.in-List.items c.in-List.tail c.in-List.is c.requires.form.proper (sym c.is_some.ensures ∙ c.if-is_some.true))

pub any_form-atom-requires-clause-atom : goal.any_form-atom-requires-clause-atom
any_form-atom-requires-clause-atom t c = c.in_default.not-List

pub any_form-returns-in_default-clause-gives : goal.any_form-returns-in_default-clause-gives
any_form-returns-in_default-clause-gives t c =
    c.seen.ensures.gives c.args.world.now.0 (value c.args.names.now c.args.world.now.0 (object_of c.args.form.now)) (c.atom.ensures.gives c.args.names.now)

pub any_form-list_form-requires : goal.any_form-list_form-requires
any_form-list_form-requires t c =
    let so = list_arguments c.args.world.now.0.packages c.args.form.now c.in-List.items c.in-List.items c.in-List.tail c.in-List.is c.requires.form refl in
    (grind (arith, the_lemmas, sized-List c.in-List.items c.in-List.tail, ap the_size c.in-List.is), (so.0, (c.requires.names, so.1)))

pub at_place-returns-in-Ok-clause-gives : goal.at_place-returns-in-Ok-clause-gives
at_place-returns-in-Ok-clause-gives t c =
    place_given c.args.names.now c.args.world.now.0 c.subforms.new.world.0 c.extended.new.world.0 c.args.items.now c.index-items-1.result c.none-values.result.values.items c.none-values.result.wrote c.in-Ok.values c.extended.result
    c.requires.counted c.index-items-1.is c.none-values.ensures.values c.none-values.ensures.wrote c.in-Ok.ensures.gives c.extended.ensures.gives

pub at_place-returns-in-Err-clause-gives : goal.at_place-returns-in-Err-clause-gives
at_place-returns-in-Err-clause-gives t c =
    place_first c.args.names.now c.args.world.now.0 c.subforms.new.world.0 c.subforms.new.world.0 c.args.items.now c.index-items-1.result c.none-values.result.values.items c.none-values.result.wrote c.in-Err.error
    c.requires.counted c.index-items-1.is c.none-values.ensures.values c.none-values.ensures.wrote c.in-Err.ensures.gives

pub before_place-returns-then-not-is_pair-clause-gives : goal.before_place-returns-then-not-is_pair-clause-gives
before_place-returns-then-not-is_pair-clause-gives t c =
    push_no_place c.args.names.now c.args.world.now.0 c.args.items.now c.index-items-2.result c.requires.counted c.index-items-2.is (sym c.is_pair.ensures ∙ c.if-not-is_pair.true)

pub before_place-returns-in-Err-clause-gives : goal.before_place-returns-in-Err-clause-gives
before_place-returns-in-Err-clause-gives t c =
    push_refused c.args.names.now c.args.world.now.0 c.evaluate_for.new.world.0 c.evaluate_for.new.world.0 c.args.items.now c.index-items-1.result c.index-items-2.result c.in-Err.error
    c.requires.counted c.index-items-1.is c.index-items-2.is (sym c.is_pair.ensures ∙ c.if-not-is_pair.false) (refused_so Value c.in-Err.error c.evaluate_for.new.world.0 c.evaluate_for.new.world.0 (value c.args.names.now c.args.world.now.0 (object_of c.index-items-1.result)) c.in-Err.ensures.gives)

pub before_place-returns-clause-gives : goal.before_place-returns-clause-gives
before_place-returns-clause-gives t c =
    let same : c.index-items-2.result ≡ c.index-items-2-2.result = same_item c.args.items.now 2 c.index-items-2.result c.index-items-2-2.result c.requires.counted c.index-items-2.is c.index-items-2-2.is in
    push_given c.args.names.now c.args.world.now.0 c.evaluate_for.new.world.0 c.subforms.new.world.0 c.args.items.now c.index-items-1.result c.index-items-2-2.result c.in-Ok.evaluated c.in_ok-first-in-Ok.first.values.items c.in_ok-first-in-Ok.first.wrote c.subforms.result
    c.requires.counted c.index-items-1.is c.index-items-2-2.is (subst (λ d. is_pair (object_of d) ≡ true) same (sym c.is_pair.ensures ∙ c.if-not-is_pair.false)) (sym (seen_value (value c.args.names.now c.args.world.now.0 (object_of c.index-items-1.result))) ∙ c.in-Ok.ensures.gives) c.in_ok-first-in-Ok.ensures.0 c.in_ok-first-in-Ok.ensures.1 c.subforms.ensures.gives

pub deciding::chosen-returns-in-Err-clause-gives : goal.deciding::chosen-returns-in-Err-clause-gives
deciding::chosen-returns-in-Err-clause-gives t c =
    choice_refused c.args.wanted c.args.names.now c.args.world.now.0 c.evaluate_for.new.world.0 c.evaluate_for.new.world.0 c.args.items.now c.index-items-1.result c.in-Err.error c.requires.counted c.index-items-1.is c.in-Err.ensures.gives

pub deciding::chosen-returns-then-is_true-clause-gives : goal.deciding::chosen-returns-then-is_true-clause-gives
deciding::chosen-returns-then-is_true-clause-gives t c =
    choice_true c.args.wanted c.args.names.now c.args.world.now.0 c.evaluate_for.new.world.0 c.evaluate_for-then-is_true.new.world.0 c.args.items.now c.index-items-1.result c.index-items-2.result c.in-Ok.test c.after.result
    c.requires.counted c.index-items-1.is c.index-items-2.is c.in-Ok.ensures.gives (sym c.is_true.ensures ∙ c.if-is_true.true)
    (c.after.ensures.gives c.evaluate_for-then-is_true.new.world.0 (seen c.args.wanted (value c.args.names.now c.evaluate_for.new.world.0 (object_of c.index-items-2.result))) c.evaluate_for-then-is_true.ensures.gives)

pub deciding::chosen-returns-then-items-eq3-clause-gives : goal.deciding::chosen-returns-then-items-eq3-clause-gives
deciding::chosen-returns-then-items-eq3-clause-gives t c =
    let s = c.evaluate_for.new.world.0 in
    choice_none c.args.wanted c.args.names.now c.args.world.now.0 s s c.args.items.now c.index-items-1.result c.in-Ok.test c.after-then-items-eq3.result
    c.requires.counted c.if-items-eq3.true c.index-items-1.is c.in-Ok.ensures.gives (sym c.is_true.ensures ∙ c.if-is_true.false)
    (c.after-then-items-eq3.ensures.gives s (seen c.args.wanted (gives nil s)) (c.seen.ensures.gives s (gives nil s) (c.nothing.ensures.gives s)))

pub deciding::chosen-returns-clause-gives : goal.deciding::chosen-returns-clause-gives
deciding::chosen-returns-clause-gives t c =
    choice_other c.args.wanted c.args.names.now c.args.world.now.0 c.evaluate_for.new.world.0 c.evaluate_for-2.new.world.0 c.args.items.now c.index-items-1.result c.index-items-3.result c.in-Ok.test c.after-2.result
    c.requires.counted c.if-items-eq3.false c.index-items-1.is c.index-items-3.is c.in-Ok.ensures.gives (sym c.is_true.ensures ∙ c.if-is_true.false)
    (c.after-2.ensures.gives c.evaluate_for-2.new.world.0 (seen c.args.wanted (value c.args.names.now c.evaluate_for.new.world.0 (object_of c.index-items-3.result))) c.evaluate_for-2.ensures.gives)

pub evaluate_for-returns-in-Ok-clause-value : goal.evaluate_for-returns-in-Ok-clause-value
evaluate_for-returns-in-Ok-clause-value t c =
    record {
      proper = c.in-Ok.ensures.proper;
      value = (evaluated_good c.args.wanted c.args.names.now c.args.world.now.0 c.any_form.new.world.0 (object_of c.args.form.now) c.in-Ok.evaluated c.requires.names c.soundness.ensures.present c.requires.form.value c.in-Ok.ensures.gives).0;
    }

pub evaluate_for-returns-in-Ok-clause-kept : goal.evaluate_for-returns-in-Ok-clause-kept
evaluate_for-returns-in-Ok-clause-kept t c =
    argument_grown c.args.world.now.0.packages c.any_form.new.world.0.packages
    (evaluated_good c.args.wanted c.args.names.now c.args.world.now.0 c.any_form.new.world.0 (object_of c.args.form.now) c.in-Ok.evaluated c.requires.names c.soundness.ensures.present c.requires.form.value c.in-Ok.ensures.gives).1

pub extended-returns-in-Err-clause-gives : goal.extended-returns-in-Err-clause-gives
extended-returns-in-Err-clause-gives t c =
    followed_stops c.args.names.now (map object_of c.loop-i.values.values.items) c.loop-i.values.wrote c.loop-i.world.0 c.evaluate_for.new.world.0 c.evaluate_for.new.world.0 c.args.forms.now c.loop-i.i c.index-forms-i.result c.in-Err.error
    (values_after c.args.names.now (map object_of c.args.values.values.items) c.args.values.wrote c.args.world.now.0 (list_of (map object_of (drop c.args.from c.args.forms.now)))) c.loop-i.invariant.same c.loop-i-test.true c.index-forms-i.is
    (refused_so Value c.in-Err.error c.evaluate_for.new.world.0 c.evaluate_for.new.world.0 (value c.args.names.now c.loop-i.world.0 (object_of c.index-forms-i.result)) c.in-Err.ensures.gives)

pub extended-loop-i-preserved : goal.extended-loop-i-preserved
extended-loop-i-preserved t c =
    let more = c.in_ok-values.ensures in
    record {
      same = followed_more c.args.names.now c.loop-i.values.values.items c.in_ok-values.values.values.items c.loop-i.values.wrote c.in_ok-values.values.wrote c.loop-i.world.0 c.evaluate_for.new.world.0 c.args.forms.now c.loop-i.i c.index-forms-i.result c.in-Ok.evaluated _
          c.loop-i.invariant.same c.loop-i-test.true c.index-forms-i.is c.in-Ok.ensures.gives more.0 more.1;
      values = all_more c.evaluate_for.new.world.0.packages c.loop-i.values.values.items c.in_ok-values.values.values.items c.in-Ok.evaluated.value more.0 (λ k d h. c.in-Ok.ensures.kept _ (c.loop-i.invariant.values k d h)) c.in-Ok.ensures.value;
      forms = λ k d h. c.in-Ok.ensures.kept _ (c.loop-i.invariant.forms k d h);
      kept = λ d is. c.in-Ok.ensures.kept d (c.loop-i.invariant.kept d is);
      marked = c.in-Ok.ensures.marked ∙ c.loop-i.invariant.marked;
    }

pub extended-returns-clause-gives : goal.extended-returns-clause-gives
extended-returns-clause-gives t c =
    c.loop-i.invariant.same ∙ followed_at_end c.args.names.now (map object_of c.loop-i.values.values.items) c.loop-i.values.wrote c.loop-i.world.0 c.args.forms.now c.loop-i.i (omega arith)

pub list_form-returns-in-Ok-clause-gives : goal.list_form-returns-in-Ok-clause-gives
list_form-returns-in-Ok-clause-gives t c =
    subst (λ o. Answers done c.act.result c.act.new.world.0 (seen c.args.wanted o))
    (sym (head_form c.args.names.now c.args.world.now.0 c.args.items.now c.as_slice-items.result.now c.index-items-0.result c.in-Ok.operation c.as_slice-items.ensures c.requires.some c.index-items-0.is (c.in-Ok.ensures.head c.args.names.now)))
    c.act.ensures.gives

pub list_form-returns-in-Err-clause-gives : goal.list_form-returns-in-Err-clause-gives
list_form-returns-in-Err-clause-gives t c =
    refused_seen c.args.wanted c.in-Err.error c.args.world.now.0 (value c.args.names.now c.args.world.now.0 (list_of (map object_of c.args.items.now)))
    (head_refused c.args.names.now c.args.world.now.0 c.args.world.now.0 c.args.items.now c.as_slice-items.result.now c.index-items-0.result c.in-Err.error c.as_slice-items.ensures c.requires.some c.index-items-0.is (c.in-Err.ensures.head c.args.names.now))

pub subforms-extended-requires : goal.subforms-extended-requires
subforms-extended-requires t c =
    let so = list_arguments c.args.world.now.0.packages c.args.place.now c.in-List.items c.as_slice.result.now c.in-List.tail c.in-List.is c.requires.place c.as_slice.ensures in
    (grind (arith, the_lemmas, sized-List c.in-List.items c.in-List.tail, ap the_size c.in-List.is), (so.0, (c.requires.names, (c.requires.values, so.1))))

pub subforms-returns-in-List-clause-gives : goal.subforms-returns-in-List-clause-gives
subforms-returns-in-List-clause-gives t c =
    subforms_given c.args.names.now c.args.world.now.0 c.extended.new.world.0 c.args.place.now c.in-List.items c.as_slice.result.now c.in-List.tail (map object_of c.args.values.values.items) c.args.values.wrote c.extended.result
    c.in-List.is c.requires.place.proper c.as_slice.ensures c.extended.ensures.gives

pub subforms-returns-in-Symbol-clause-gives : goal.subforms-returns-in-Symbol-clause-gives
subforms-returns-in-Symbol-clause-gives t c =
    ap (subforms c.args.names.now (map object_of c.args.values.values.items) c.args.values.wrote c.args.world.now.0) (ap object_of c.in-Symbol.is ∙ object_of-Symbol c.in-Symbol.package c.in-Symbol.name)

pub sequence-returns-then-last-eq0-clause-gives : goal.sequence-returns-then-last-eq0-clause-gives
sequence-returns-then-last-eq0-clause-gives t c =
    let s = c.args.world.now.0 in
    let o = sequence_value c.args.names.now s (arguments_of (map object_of c.args.items.now)) in
    c.seen.ensures.gives s o (subst (Answers done c.nothing.result s) (sym (no_forms c.args.names.now s c.args.items.now (omega (arith, c.if-last-eq0.true)))) (c.nothing.ensures.gives s))

pub sequence-returns-in-Err-clause-gives : goal.sequence-returns-in-Err-clause-gives
sequence-returns-in-Err-clause-gives t c =
    refused_after c.args.wanted c.in-Err.error c.evaluate_for.new.world.0 c.loop-i.wrote _ _ c.loop-i.invariant.same
    (sequence_stops c.args.names.now c.loop-i.world.0 c.evaluate_for.new.world.0 c.evaluate_for.new.world.0 c.args.items.now c.loop-i.i c.index-items-i.result c.in-Err.error (omega (arith, c.loop-i-test.true)) c.index-items-i.is
    (refused_so Nothing c.in-Err.error c.evaluate_for.new.world.0 c.evaluate_for.new.world.0 (value c.args.names.now c.loop-i.world.0 (object_of c.index-items-i.result)) c.in-Err.ensures.gives))

pub sequence-loop-i-preserved : goal.sequence-loop-i-preserved
sequence-loop-i-preserved t c =
    let so = evaluated_so Nothing (value c.args.names.now c.loop-i.world.0 (object_of c.index-items-i.result)) (done c.in-Ok.evaluated c.evaluate_for.new.world.0) c.in-Ok.ensures.gives in
    record {
      same = step_after c.loop-i.wrote c.in-Ok.evaluated.wrote c.either-wrote.result _ _ _ c.loop-i.invariant.same
          (sequence_step c.args.names.now c.loop-i.world.0 c.evaluate_for.new.world.0 c.args.items.now c.loop-i.i c.index-items-i.result so.0 c.in-Ok.evaluated.wrote (omega (arith, c.loop-i-test.true)) c.index-items-i.is so.1) c.either-wrote.ensures;
      forms = λ k d h. c.in-Ok.ensures.kept _ (c.loop-i.invariant.forms k d h);
      marked = c.in-Ok.ensures.marked ∙ c.loop-i.invariant.marked;
    }

pub sequence-returns-clause-gives : goal.sequence-returns-clause-gives
sequence-returns-clause-gives t c =
    let last = value c.args.names.now c.loop-i.world.0 (object_of c.index-items-last.result) in
    answered c.args.wanted c.loop-i.wrote _ _ last c.after.result c.evaluate_for-2.new.world.0 c.loop-i.invariant.same
    (sequence_last c.args.names.now c.loop-i.world.0 c.args.items.now c.loop-i.i c.index-items-last.result (omega (arith, c.requires.counted)) (same_last c.args.items.now c.loop-i.i c.index-items-last.result (omega (arith, c.requires.counted)) c.index-items-last.is))
    (c.after.ensures.gives c.evaluate_for-2.new.world.0 (seen c.args.wanted last) c.evaluate_for-2.ensures.gives)

pub ordinary-returns-in-Ok-gathered-clause-gives : goal.ordinary-returns-in-Ok-gathered-clause-gives
ordinary-returns-in-Ok-gathered-clause-gives t c =
    performed c.args.task.wanted c.args.names.now c.args.task.operation c.in-Ok.place c.args.world.now.0 c.gathered.new.world.0 c.perform.new.world.0 (arguments_of (map object_of c.args.items.now)) c.in-Ok-gathered.values c.perform.result
    c.requires.ordinary c.in-Ok.ensures.refusal c.in-Ok.ensures.value c.in-Ok-gathered.ensures.gives c.perform.ensures.gives

pub listed-returns-in-Err-clause-gives : goal.listed-returns-in-Err-clause-gives
listed-returns-in-Err-clause-gives t c =
    let so = c.loop-i.invariant.listed in
    list_stops c.args.names.now c.args.world.now.0 c.evaluate_for.new.world.0 c.args.items.now c.in-Err.error
    (followed_stops c.args.names.now so.0 c.loop-i.wrote c.loop-i.world.0 c.evaluate_for.new.world.0 c.evaluate_for.new.world.0 c.args.items.now c.loop-i.i c.index-items-i.result c.in-Err.error
    (values_after c.args.names.now [] false c.args.world.now.0 (list_of (map object_of (drop 1 c.args.items.now)))) so.2 c.loop-i-test.true c.index-items-i.is
    (refused_so c.wanted_for-wanted.result c.in-Err.error c.evaluate_for.new.world.0 c.evaluate_for.new.world.0 (value c.args.names.now c.loop-i.world.0 (object_of c.index-items-i.result)) c.in-Err.ensures.gives))

pub listed-loop-i-preserved : goal.listed-loop-i-preserved
listed-loop-i-preserved t c =
    let so = c.loop-i.invariant.listed in
    let given = evaluated_so c.wanted_for-wanted.result (value c.args.names.now c.loop-i.world.0 (object_of c.index-items-i.result)) (done c.in-Ok.evaluated c.evaluate_for.new.world.0) c.in-Ok.ensures.gives in
    record {
      listed = (
        so.0 ++ given.0 ∷ [],
        held_so so.0 given.0 (object_of c.in-Ok.evaluated.value) c.loop-i.values c.in_ok-values.values (subst (λ w. stand_in w given.0 ≡ object_of c.in-Ok.evaluated.value) c.wanted_for-wanted.ensures given.2) so.1 (c.in_ok-values.ensures so.0 so.1),
        followed_both c.args.names.now so.0 c.loop-i.wrote c.in-Ok.evaluated.wrote c.either-wrote.result c.loop-i.world.0 c.evaluate_for.new.world.0 c.args.items.now c.loop-i.i c.index-items-i.result given.0 _ so.2 c.loop-i-test.true c.index-items-i.is given.1 c.either-wrote.ensures,
      );
      forms = λ k d h. c.in-Ok.ensures.kept _ (c.loop-i.invariant.forms k d h);
      marked = c.in-Ok.ensures.marked ∙ c.loop-i.invariant.marked;
    }

pub listed-returns-clause-gives : goal.listed-returns-clause-gives
listed-returns-clause-gives t c =
    let so = c.loop-i.invariant.listed in
    list_given c.args.names.now c.args.world.now.0 c.loop-i.world.0 c.args.items.now so.0 c.loop-i.wrote c.loop-i.i c.after.result so.2 (omega arith)
    (c.after.ensures.gives c.loop-i.world.0 (list so.0 c.loop-i.world.0) ((c.list.ensures so.0 so.1).0 c.loop-i.world.0))

pub listed-returns-clause-proper : goal.listed-returns-clause-proper
listed-returns-clause-proper t c =
    let so = c.loop-i.invariant.listed in
    c.after.ensures.proper (c.list.ensures so.0 so.1).1

pub deciding::sought-returns-then-last-eq0-clause-gives : goal.deciding::sought-returns-then-last-eq0-clause-gives
deciding::sought-returns-then-last-eq0-clause-gives t c =
    let s = c.args.world.now.0 in
    let o = sought c.args.names.now c.args.truth s (arguments_of (map object_of c.args.items.now)) in
    c.seen.ensures.gives s o
    (subst (Answers done c.none_sought.result s) (sym (none_sought c.args.names.now c.args.truth s c.args.items.now (omega (arith, c.if-last-eq0.true)))) (c.none_sought.ensures.gives s))

pub deciding::sought-returns-in-Err-clause-gives : goal.deciding::sought-returns-in-Err-clause-gives
deciding::sought-returns-in-Err-clause-gives t c =
    refused_after c.args.wanted c.in-Err.error c.evaluate_for.new.world.0 c.loop-i.wrote _ _ c.loop-i.invariant.same
    (sought_stops c.args.names.now c.args.truth c.loop-i.world.0 c.evaluate_for.new.world.0 c.args.items.now c.loop-i.i c.index-items-i.result (omega (arith, c.loop-i-test.true)) c.index-items-i.is c.wanted_of_test-asked.result c.in-Err.error c.evaluate_for.new.world.0 c.in-Err.ensures.gives)

pub deciding::sought-returns-then-has_truth-clause-gives : goal.deciding::sought-returns-then-has_truth-clause-gives
deciding::sought-returns-then-has_truth-clause-gives t c =
    let u = c.evaluate_for.new.world.0 in
    let o = Ok (done c.in-Ok.test u) in
    answered c.args.wanted c.loop-i.wrote _ _ o c.after.result u c.loop-i.invariant.same
    (sought_here c.args.names.now c.args.truth c.loop-i.world.0 c.evaluate_for.new.world.0 c.args.items.now c.loop-i.i c.index-items-i.result (omega (arith, c.loop-i-test.true)) c.index-items-i.is c.wanted_of_test-asked.result c.in-Ok.test c.wanted_of_test-asked.ensures.truth c.wanted_of_test-asked.ensures.kept c.in-Ok.ensures.gives (sym c.has_truth.ensures ∙ c.if-has_truth.true))
    (c.after.ensures.gives u (seen c.args.wanted o) (c.seen-then-has_truth.ensures.gives u o refl))

pub deciding::sought-loop-i-preserved : goal.deciding::sought-loop-i-preserved
deciding::sought-loop-i-preserved t c =
    record {
      same = step_after c.loop-i.wrote c.in-Ok.test.wrote c.either-wrote.result _ _ _ c.loop-i.invariant.same
          (sought_next c.args.names.now c.args.truth c.loop-i.world.0 c.evaluate_for.new.world.0 c.args.items.now c.loop-i.i c.index-items-i.result (omega (arith, c.loop-i-test.true)) c.index-items-i.is c.wanted_of_test-asked.result c.in-Ok.test c.wanted_of_test-asked.ensures.truth (omega (arith, c.loop-i-test.true)) c.in-Ok.ensures.gives (sym c.has_truth.ensures ∙ c.if-has_truth.false)) c.either-wrote.ensures;
      forms = λ k d h. c.in-Ok.ensures.kept _ (c.loop-i.invariant.forms k d h);
      marked = c.in-Ok.ensures.marked ∙ c.loop-i.invariant.marked;
    }

pub deciding::sought-returns-clause-gives : goal.deciding::sought-returns-clause-gives
deciding::sought-returns-clause-gives t c =
    let last = value c.args.names.now c.loop-i.world.0 (object_of c.index-items-last.result) in
    answered c.args.wanted c.loop-i.wrote _ _ last c.after-2.result c.evaluate_for-2.new.world.0 c.loop-i.invariant.same
    (sought_last c.args.names.now c.args.truth c.loop-i.world.0 c.loop-i.world.0 c.args.items.now c.loop-i.i c.index-items-last.result (omega (arith, c.requires.counted)) (same_last c.args.items.now c.loop-i.i c.index-items-last.result (omega (arith, c.requires.counted)) c.index-items-last.is) (omega (arith, c.requires.counted)))
    (c.after-2.ensures.gives c.evaluate_for-2.new.world.0 (seen c.args.wanted last) c.evaluate_for-2.ensures.gives)

pub deciding::selected-returns-then-not-are_clauses-clause-gives : goal.deciding::selected-returns-then-not-are_clauses-clause-gives
deciding::selected-returns-then-not-are_clauses-clause-gives t c =
    ap (λ b. seen c.args.wanted (cond b (selected c.args.names.now c.args.world.now.0 (arguments_of (map object_of c.args.items.now))) (Err ARGUMENT_KIND))) (sym c.are_clauses.ensures ∙ c.if-not-are_clauses.true)

pub deciding::selected-returns-in-Err-clause-gives : goal.deciding::selected-returns-in-Err-clause-gives
deciding::selected-returns-in-Err-clause-gives t c =
    refused_after c.args.wanted c.in-Err.error c.evaluate_for.new.world.0 c.loop-i.wrote _ _ (conditional_is c.args.names.now c.args.world.now.0 (arguments_of (map object_of c.args.items.now)) (sym c.are_clauses.ensures ∙ c.if-not-are_clauses.false) ∙ c.loop-i.invariant.same)
    (selected_stops c.args.names.now c.loop-i.world.0 c.evaluate_for.new.world.0 c.args.items.now c.in-Some.clause.now c.loop-i.i c.index-items-i.result c.index-clause-0.result (omega (arith, c.loop-i-test.true)) c.index-items-i.is (ap object_of c.in-Some.ensures.0 ∙ object_of-List c.in-Some.clause.now) c.in-Some.ensures.1 c.index-clause-0.is c.wanted_of_test-asked.result c.in-Err.error c.evaluate_for.new.world.0 c.in-Err.ensures.gives)

pub deciding::selected-returns-then-clause-eq1-clause-gives : goal.deciding::selected-returns-then-clause-eq1-clause-gives
deciding::selected-returns-then-clause-eq1-clause-gives t c =
    let u = c.evaluate_for.new.world.0 in
    let o = Ok (done c.in-Ok.test u) in
    answered c.args.wanted c.loop-i.wrote _ _ o c.after.result u (conditional_is c.args.names.now c.args.world.now.0 (arguments_of (map object_of c.args.items.now)) (sym c.are_clauses.ensures ∙ c.if-not-are_clauses.false) ∙ c.loop-i.invariant.same)
    (selected_test c.args.names.now c.loop-i.world.0 c.evaluate_for.new.world.0 c.args.items.now c.in-Some.clause.now c.loop-i.i c.index-items-i.result c.index-clause-0.result (omega (arith, c.loop-i-test.true)) c.index-items-i.is (ap object_of c.in-Some.ensures.0 ∙ object_of-List c.in-Some.clause.now) c.in-Some.ensures.1 c.index-clause-0.is c.wanted_of_test-asked.result c.in-Ok.test c.wanted_of_test-asked.ensures.truth (λ z h. c.wanted_of_test-asked.ensures.kept z (subst (λ n. has_truth (n == 1) z ≡ true) (sym c.if-clause-eq1.true) h))
    c.if-clause-eq1.true c.in-Ok.ensures.gives (sym c.is_true.ensures ∙ c.if-is_true.true))
    (c.after.ensures.gives u (seen c.args.wanted o) (c.seen.ensures.gives u o refl))

pub deciding::selected-returns-then-is_true-clause-gives : goal.deciding::selected-returns-then-is_true-clause-gives
deciding::selected-returns-then-is_true-clause-gives t c =
    let forms = sequence_value c.args.names.now c.evaluate_for.new.world.0 (arguments_of (map object_of c.in-Some.clause.now)) in
    answered c.args.wanted c.either-wrote.result _ _ forms c.after-then-is_true.result c.sequence.new.world.0
    (step_after c.loop-i.wrote c.in-Ok.test.wrote c.either-wrote.result _ _ forms (conditional_is c.args.names.now c.args.world.now.0 (arguments_of (map object_of c.args.items.now)) (sym c.are_clauses.ensures ∙ c.if-not-are_clauses.false) ∙ c.loop-i.invariant.same)
    (selected_forms c.args.names.now c.loop-i.world.0 c.evaluate_for.new.world.0 c.args.items.now c.in-Some.clause.now c.loop-i.i c.index-items-i.result c.index-clause-0.result (omega (arith, c.loop-i-test.true)) c.index-items-i.is (ap object_of c.in-Some.ensures.0 ∙ object_of-List c.in-Some.clause.now) c.in-Some.ensures.1 c.index-clause-0.is c.wanted_of_test-asked.result c.in-Ok.test c.wanted_of_test-asked.ensures.truth (let some = c.in-Some.ensures.1 in let more = c.if-clause-eq1.false in omega arith) c.in-Ok.ensures.gives (sym c.is_true.ensures ∙ c.if-is_true.true))
    c.either-wrote.ensures) refl (c.after-then-is_true.ensures.gives c.sequence.new.world.0 (seen c.args.wanted forms) c.sequence.ensures.gives)

pub deciding::selected-loop-i-preserved : goal.deciding::selected-loop-i-preserved
deciding::selected-loop-i-preserved t c =
    record {
      same = step_after c.loop-i.wrote c.in-Ok.test.wrote c.either-wrote-in-loop-i.result _ _ _ c.loop-i.invariant.same
          (selected_next c.args.names.now c.loop-i.world.0 c.evaluate_for.new.world.0 c.args.items.now c.in-Some.clause.now c.loop-i.i c.index-items-i.result c.index-clause-0.result (omega (arith, c.loop-i-test.true)) c.index-items-i.is (ap object_of c.in-Some.ensures.0 ∙ object_of-List c.in-Some.clause.now) c.in-Some.ensures.1 c.index-clause-0.is c.wanted_of_test-asked.result c.in-Ok.test c.wanted_of_test-asked.ensures.truth c.in-Ok.ensures.gives (sym c.is_true.ensures ∙ c.if-is_true.false)) c.either-wrote-in-loop-i.ensures;
      clauses = (and_parts _ _ (sym (each_clause c.args.items.now c.loop-i.i c.index-items-i.result (omega (arith, c.loop-i-test.true)) c.index-items-i.is) ∙ c.loop-i.invariant.clauses)).1;
      forms = λ k d h. c.in-Ok.ensures.kept _ (c.loop-i.invariant.forms k d h);
      marked = c.in-Ok.ensures.marked ∙ c.loop-i.invariant.marked;
    }

pub deciding::selected-returns-clause-gives : goal.deciding::selected-returns-clause-gives
deciding::selected-returns-clause-gives t c =
    let s = c.loop-i.world.0 in
    answered c.args.wanted c.loop-i.wrote _ _ (gives nil s) c.after-2.result s (conditional_is c.args.names.now c.args.world.now.0 (arguments_of (map object_of c.args.items.now)) (sym c.are_clauses.ensures ∙ c.if-not-are_clauses.false) ∙ c.loop-i.invariant.same)
    (none_selected c.args.names.now s c.args.items.now c.loop-i.i (omega arith))
    (c.after-2.ensures.gives s (seen c.args.wanted (gives nil s)) (c.seen-2.ensures.gives s (gives nil s) (c.nothing.ensures.gives s)))

pub deciding::guarded-returns-in-Err-clause-gives : goal.deciding::guarded-returns-in-Err-clause-gives
deciding::guarded-returns-in-Err-clause-gives t c =
    guarded_stops c.args.wanted c.args.names.now c.args.truth c.args.world.now.0 c.evaluate_for.new.world.0 c.args.items.now c.index-items-1.result c.requires.counted c.index-items-1.is c.in-Err.error c.evaluate_for.new.world.0 c.in-Err.ensures.gives

pub deciding::guarded-returns-then-not-has_truth-clause-gives : goal.deciding::guarded-returns-then-not-has_truth-clause-gives
deciding::guarded-returns-then-not-has_truth-clause-gives t c =
    let s = c.evaluate_for.new.world.0 in
    guarded_passes c.args.wanted c.args.names.now c.args.truth c.args.world.now.0 s c.args.items.now c.index-items-1.result c.requires.counted c.index-items-1.is c.in-Ok.guard c.after.result s c.in-Ok.ensures.gives
    (sym c.has_truth.ensures ∙ c.if-not-has_truth.true) (c.after.ensures.gives s (seen c.args.wanted (gives nil s)) (c.seen.ensures.gives s (gives nil s) (c.nothing.ensures.gives s)))

pub deciding::guarded-returns-clause-gives : goal.deciding::guarded-returns-clause-gives
deciding::guarded-returns-clause-gives t c =
    let forms = sequence_value c.args.names.now c.evaluate_for.new.world.0 (arguments_of (map object_of c.arguments.result.now)) in
    guarded_forms c.args.wanted c.args.names.now c.args.truth c.args.world.now.0 c.evaluate_for.new.world.0 c.args.items.now c.index-items-1.result c.requires.counted c.index-items-1.is c.arguments.result.now c.arguments.ensures c.in-Ok.guard c.after-2.result c.sequence.new.world.0
    c.in-Ok.ensures.gives (sym c.has_truth.ensures ∙ c.if-not-has_truth.false) (c.after-2.ensures.gives c.sequence.new.world.0 (seen c.args.wanted forms) c.sequence.ensures.gives)

pub deciding::first_kept-returns-in-Err-clause-gives : goal.deciding::first_kept-returns-in-Err-clause-gives
deciding::first_kept-returns-in-Err-clause-gives t c =
    first_stops c.args.wanted c.args.names.now c.args.world.now.0 c.evaluate_for.new.world.0 c.args.items.now c.index-items-1.result c.requires.counted c.index-items-1.is c.in-Err.error c.evaluate_for.new.world.0 c.in-Err.ensures.gives

pub deciding::first_kept-returns-in-Ok-sequence-clause-gives : goal.deciding::first_kept-returns-in-Ok-sequence-clause-gives
deciding::first_kept-returns-in-Ok-sequence-clause-gives t c =
    first_kept c.args.wanted c.args.names.now c.args.world.now.0 c.evaluate_for.new.world.0 c.args.items.now c.index-items-1.result c.requires.counted c.index-items-1.is c.arguments.result.now c.arguments.ensures c.in-Ok.first c.in-Ok-sequence.others c.sequence.new.world.0 c.either.result
    c.in-Ok.ensures.gives c.in-Ok-sequence.ensures.gives c.either.ensures

pub deciding::first_kept-returns-in-Err-sequence-clause-gives : goal.deciding::first_kept-returns-in-Err-sequence-clause-gives
deciding::first_kept-returns-in-Err-sequence-clause-gives t c =
    first_others_stop c.args.wanted c.args.names.now c.args.world.now.0 c.evaluate_for.new.world.0 c.args.items.now c.index-items-1.result c.requires.counted c.index-items-1.is c.arguments.result.now c.arguments.ensures c.in-Ok.first c.in-Err-sequence.error c.sequence.new.world.0
    c.in-Ok.ensures.gives c.in-Err-sequence.ensures.gives

pub deciding::decided-asserted-requires : goal.deciding::decided-asserted-requires
deciding::decided-asserted-requires t c = proper_test c.evaluate_for-test.new.world.0.packages c.evaluate_for-test.result c.evaluate_for-test.ensures.value

pub deciding::decided-returns-in-Assert-clause-gives : goal.deciding::decided-returns-in-Assert-clause-gives
deciding::decided-returns-in-Assert-clause-gives t c =
    let u = c.evaluate_for-test.new.world.0 in
    let test = value c.args.names.now c.args.world.now.0 (object_of c.index-items-1.result) in
    assert_answers c.args.wanted c.args.names.now c.args.world.now.0 u c.args.items.now c.index-items-1.result c.args.decision c.seen.result c.in-Assert.is c.requires.counted c.index-items-1.is
    (c.seen.ensures.gives u (asserted test) (c.asserted.ensures.gives u test c.evaluate_for-test.ensures.gives))

pub deciding::guarded-sequence-requires : goal.deciding::guarded-sequence-requires
deciding::guarded-sequence-requires t c =
    let so = later_items c.args.world.now.0.packages c.evaluate_for.new.world.0.packages c.args.items.now c.arguments.result.now c.requires.counted c.arguments.ensures c.in-Ok.ensures.kept c.requires.items in
    (grind (arith, the_lemmas, c.arguments.ensures, c.decreases), (so.0, (c.requires.names, so.1)))

pub deciding::first_kept-sequence-requires : goal.deciding::first_kept-sequence-requires
deciding::first_kept-sequence-requires t c =
    let so = later_items c.args.world.now.0.packages c.evaluate_for.new.world.0.packages c.args.items.now c.arguments.result.now c.requires.counted c.arguments.ensures c.in-Ok.ensures.kept c.requires.items in
    (grind (arith, the_lemmas, c.arguments.ensures, c.decreases), (so.0, (c.requires.names, so.1)))

pub deciding::selected-evaluate_for-requires : goal.deciding::selected-evaluate_for-requires
deciding::selected-evaluate_for-requires t c =
    let so = clause_at c.loop-i.world.0.packages c.args.items.now c.in-Some.clause.now c.loop-i.i c.index-items-i.result c.index-clause-0.result (omega (arith, c.loop-i-test.true)) c.index-items-i.is c.in-Some.ensures.0 c.in-Some.ensures.1 c.index-clause-0.is c.loop-i.invariant.forms in
    (grind (arith, the_lemmas, sized-List c.in-Some.clause.now None, ap the_size c.in-Some.ensures.0), (c.requires.names, so.1))

pub deciding::selected-sequence-requires : goal.deciding::selected-sequence-requires
deciding::selected-sequence-requires t c =
    let so = clause_at c.loop-i.world.0.packages c.args.items.now c.in-Some.clause.now c.loop-i.i c.index-items-i.result c.index-clause-0.result (omega (arith, c.loop-i-test.true)) c.index-items-i.is c.in-Some.ensures.0 c.in-Some.ensures.1 c.index-clause-0.is c.loop-i.invariant.forms in
    (grind (arith, the_lemmas, sized-List c.in-Some.clause.now None, ap the_size c.in-Some.ensures.0), (c.in-Some.ensures.1, (c.requires.names, λ k d h. c.in-Ok.ensures.kept _ (so.2 k d h))))
