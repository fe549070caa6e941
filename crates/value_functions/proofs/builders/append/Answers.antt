use Rattle.std.proofs.Common.{rules, ◌≡◌, suc, subst, ◌<◌, ◌+◌, ◌++◌, true, length, drop, Some, None, Ok, sym, ap, ◌∙◌, arith}
use Rattle.std.proofs.lemmas.List.{map-append}
use Rattle.std.proofs.lemmas.List.Elements.{All-append}
use Rattle.std.proofs.lemmas.List.Sums.{list_all-from_AllPass}
use Rattle.lisp_object.specs.Object.{pairs}
use Rattle.lisp_object.specs.Datum.{object_of, is_proper}
use Rattle.lisp_operators.specs.EvaluationAnswers.{IsProper, AreProper, objects}
use Rattle.value_functions.specs.FunctionAnswers.{then_value, if_within}
use Rattle.value_functions.specs.Sequences.{items_of}
use Rattle.value_functions.specs.Building.{appended_lists}
use Rattle.value_functions.proofs.Appended.{append_next, append_stops}
use Rattle.value_functions.proofs.builders.append.Goals as goal

pub returns-in_default-clause-value : goal.returns-in_default-clause-value
returns-in_default-clause-value c =
    let ds = c.args.values.now in
    let none : items_of (object_of c.index-values-at.result) ≡ None = search rules in
    let there = ap (λ d. items_of (object_of d)) (sym c.index-values-at.is) ∙ none in
    let inner : c.loop-at.at + 1 < length ds = omega (arith, c.loop-at-test.true) in
    ap (λ v. then_value v if_within)
    (c.loop-at.invariant.left ∙ append_stops ds c.loop-at.at c.index-values-at.result (objects c.loop-at.joined.items) inner there)

pub loop-at-preserved : goal.loop-at-preserved
loop-at-preserved c =
    let ds = c.args.values.now in
    let at = c.loop-at.at in
    let front = c.loop-at.joined.items in
    let more = c.in_ok-more.more.items in
    let some : items_of (object_of c.index-values-at.result) ≡ Some (objects more) = search rules in
    let there = ap (λ d. items_of (object_of d)) (sym c.index-values-at.is) ∙ some in
    let inner : at + 1 < length ds = omega (arith, c.loop-at-test.true) in
    let next : suc at ≡ at + 1 = omega arith in
    let proper = subst AreProper (sym c.in_ok-more.ensures) c.in-Some.ensures.proper in
    let both : objects front ++ objects more ≡ objects c.append.new.self.items = sym (ap objects c.in_ok-append.ensures.items ∙ map-append object_of front more) in
    record {
      left = c.loop-at.invariant.left ∙ append_next ds at c.index-values-at.result (objects front) (objects more) inner there
          ∙ ap (λ n. then_value (appended_lists (objects (drop n ds))) (λ end. Ok (pairs (objects front ++ objects more) end))) next
          ∙ ap (λ xs. then_value (appended_lists (objects (drop (at + 1) ds))) (λ end. Ok (pairs xs end))) both;
      proper = subst AreProper (sym c.in_ok-append.ensures.items) (All-append IsProper front more c.loop-at.invariant.proper proper);
    }

pub within-requires : goal.within-requires
within-requires c =
    let tail : is_proper c.in_ok-copy.field-0 ≡ true = search rules in
    c.in_ok-list.ensures.proper (list_all-from_AllPass is_proper c.loop-at.joined.items c.loop-at.invariant.proper) tail
