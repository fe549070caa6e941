use Rattle.std.proofs.Common.{All, sym, subst, ◌∙◌, arith}
use Rattle.std.specs.Option.{IsSome}
use Rattle.std.proofs.lemmas.List.{take_all}
use Rattle.std.proofs.lemmas.List.Elements.{All-more}
use Rattle.lisp_object.specs.Datum.{object_of}
use Rattle.kept_functions.specs.Environments.{a_variable}
use Rattle.kept_functions.proofs.Members.{no_member}
use Rattle.kept_functions.proofs.Variables.{is_none}
use Rattle.kept_functions.proofs.definition.are_variables.Goals as goal

pub loop-item-preserved : goal.loop-item-preserved
loop-item-preserved c =
    All-more (λ d. IsSome (a_variable (object_of d))) c.args.items.now c.loop-item.item-index c.item-item.result c.loop-item-test.true c.loop-item.invariant
    (subst (λ d. IsSome (a_variable (object_of d))) c.item-item.is (sym c.is_variable.ensures ∙ c.if-not-is_variable.false))

pub returns-then-not-is_variable-clause-none : goal.returns-then-not-is_variable-clause-none
returns-then-not-is_variable-clause-none c = λ _.
    no_member a_variable c.args.items.now c.loop-item.item-index c.item-item.result c.loop-item-test.true c.item-item.is
    (is_none (a_variable (object_of c.item-item.result)) (sym c.is_variable.ensures ∙ c.if-not-is_variable.true))

pub returns-clause-each : goal.returns-clause-each
returns-clause-each c = λ _. subst (All (λ d. IsSome (a_variable (object_of d)))) (take_all c.loop-item.item-index c.args.items.now (omega arith)) c.loop-item.invariant
