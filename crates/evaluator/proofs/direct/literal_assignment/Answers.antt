use Rattle.std.proofs.Common.{codes, sym, subst, arith}
use Rattle.lisp_object.specs.Object.{symbol}
use Rattle.lisp_object.specs.Datum.{object_of}
use Rattle.package_table.specs.Table.{common_lisp}
use Rattle.plist_state.specs.Views.{symbol_named}
use Rattle.plist_state.specs.Sound.{IsValue}
use Rattle.lisp_operators.specs.EvaluationAnswers.{IsArgument}
use Rattle.evaluator.specs.ArgumentValues.{arguments_in}
use Rattle.evaluator.proofs.QuotedKeys.{both_arguments, assignment_given, key_symbols}
use Rattle.evaluator.proofs.direct.literal_assignment.Goals as goal

pub returns-clause-value : goal.returns-clause-value
returns-clause-value c = λ names s.
    let p = c.in-Some-place_property.property in
    assignment_given names s (arguments_in c.args.items.now) (object_of c.index-items-1.result) (object_of c.index-items-2.result) (object_of c.in-Some.literal.now) (symbol_named p.symbol) (symbol_named p.indicator)
    (both_arguments c.args.items.now c.index-items-1.result c.index-items-2.result c.requires.counted c.index-items-1.is c.index-items-2.is)
    c.in-Some-place_property.ensures c.in-Some.ensures.value

pub returns-clause-storable : goal.returns-clause-storable
returns-clause-storable c = λ u all.
    let p = c.in-Some-place_property.property in
    let place : IsArgument u c.index-items-1.result = subst (IsArgument u) (sym c.index-items-1.is) (all 1 c.index-items-1.result (omega (arith, c.requires.counted))) in
    let form : IsArgument u c.index-items-2.result = subst (IsArgument u) (sym c.index-items-2.is) (all 2 c.index-items-2.result (omega (arith, c.requires.counted))) in
    let both = key_symbols u (symbol_named p.symbol) (symbol_named p.indicator) (symbol common_lisp (codes "GET"))
    (subst (IsValue u) c.in-Some-place_property.ensures place.value) in
    record {
      symbol = both.0;
      indicator = both.1;
      value = c.in-Some.ensures.argument u form;
    }
