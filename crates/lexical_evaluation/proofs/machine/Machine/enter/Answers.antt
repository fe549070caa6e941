use Rattle.std.proofs.Common.{sym, subst}
use Rattle.std.specs.Global.{Vec}
use Rattle.kept_functions.specs.declared.environment.Binding.{Binding}
use Rattle.lexical_evaluation.specs.declared.frame.Awaiting.TheVariants.{Call}
use Rattle.lexical_evaluation.specs.Arguments.{HaveArguments}
use Rattle.lexical_evaluation.proofs.Handing.{waits_more}
use Rattle.lexical_evaluation.proofs.machine.Machine.enter.Goals as goal

pub returns-clause-arguments : goal.returns-clause-arguments
returns-clause-arguments c = λ u hand made.
    let m = c.args.self.now in
    let before = subst (λ (v : Vec Binding). HaveArguments u v.items) (sym c.replace-before.ensures.value) hand.bindings in
    record {
      sound = hand.sound;
      frames = (waits_more u m c.push.new.self (Call c.replace-before.result m.deeper) hand c.in_ok-push.ensures.items before).frames;
      bindings = subst (λ (v : Vec Binding). HaveArguments u v.items) (sym c.replace-before.ensures.after) made;
    }
