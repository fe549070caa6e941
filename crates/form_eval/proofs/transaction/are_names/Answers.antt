use Rattle.std.proofs.Common.{IsTrue, subst, arith}
use Rattle.std.proofs.lemmas.List.{take_all}
use Rattle.std.proofs.lemmas.List.Elements.{All-more}
use Rattle.readtable_core.specs.Names.{is_function_name}
use Rattle.lisp_operators.specs.Readtables.{AreFunctionNames}
use Rattle.form_eval.proofs.transaction.are_names.Goals as goal

pub loop-name-preserved : goal.loop-name-preserved
loop-name-preserved c =
    All-more (λ f. IsTrue (is_function_name f)) c.args.names.now c.loop-name.name-index c.name-item.result c.loop-name-test.true c.loop-name.invariant
    (subst (λ f. IsTrue (is_function_name f)) c.name-item.is c.as_bytes.ensures.sound)

pub returns : goal.returns
returns c = subst AreFunctionNames (take_all c.loop-name.name-index c.args.names.now (omega arith)) c.loop-name.invariant
