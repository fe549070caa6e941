use Rattle.std.proofs.Common.{[], reverse, sym, ap, subst, ◌∙◌}
use Rattle.lisp_object.specs.Datum.{object_of}
use Rattle.lisp_operators.specs.EvaluationAnswers.{IsArgument, objects}
use Rattle.lisp_operators.specs.Members.{symbols_in}
use Rattle.kept_functions.specs.declared.environment.Binding.{Binding}
use Rattle.kept_functions.specs.Environments.{binding}
use Rattle.lexical_evaluation.specs.Machine.{variables_seen}
use Rattle.lexical_evaluation.specs.Arguments.{AreArguments, HaveArguments}
use Rattle.lexical_evaluation.proofs.Apart.{reversed_all}
use Rattle.lexical_evaluation.proofs.Bound.{bound_first, bound_more}
use Rattle.lexical_evaluation.proofs.Handing.{none_made, one_more, popped}
use Rattle.lexical_evaluation.proofs.machine.binding.bound_to.Goals as goal

pub loop-datum-init : goal.loop-datum-init
loop-datum-init c =
    let xs = symbols_in c.args.variables.now in
    let turned = c.reverse.new.self.items in
    record {
      same = ap (λ b. binding xs (objects (reverse turned)) (variables_seen b)) c.new-made.ensures.items ∙ bound_first xs c.args.values.items turned [] c.reverse.ensures.items;
      arguments = λ u are. (
        subst (AreArguments u) (sym c.reverse.ensures.items) (reversed_all (IsArgument u) c.args.values.items are),
        subst (HaveArguments u) (sym c.new-made.ensures.items) (none_made u),
      );
    }

pub loop-datum-preserved : goal.loop-datum-preserved
loop-datum-preserved c =
    let l = c.loop-datum in
    let made : Binding = record { variable = c.in_ok-variable-in-Some.variable; value = c.in-Some.value } in
    record {
      same =
          sym (bound_more c.args.variables.now l.datum-index c.datum-item.result l.values.items c.pop.new.self.items c.pop.result c.in-Some.value l.made.items c.push.new.self.items made
          c.loop-datum-test.true c.datum-item.is c.pop.ensures.items c.in-Some.is c.in_ok-push-in-Some.ensures.items (ap (λ y. (y, object_of c.in-Some.value)) c.in_ok-variable-in-Some.ensures))
          ∙ l.invariant.same;
      arguments = λ u are.
          let both = l.invariant.arguments u are in
          let parts = popped u l.values.items c.pop.new.self.items c.pop.result c.in-Some.value c.pop.ensures.items c.in-Some.is both.0 in
          (parts.0, one_more u l.made.items c.push.new.self.items made c.in_ok-push-in-Some.ensures.items both.1 parts.1);
    }

pub returns-in-None-clause-arguments : goal.returns-in-None-clause-arguments
returns-in-None-clause-arguments c = λ u are. (c.loop-datum.invariant.arguments u are).1

pub returns-clause-arguments : goal.returns-clause-arguments
returns-clause-arguments c = λ u are. (c.loop-datum.invariant.arguments u are).1
