use Rattle.lexical_evaluation.specs.declared.frame.Awaiting.TheVariants.{Scope}
use Rattle.lexical_evaluation.proofs.Handing.{waits_more, bindings_more}
use Rattle.lexical_evaluation.proofs.machine.Machine.scope.Goals as goal

pub returns-clause-arguments : goal.returns-clause-arguments
returns-clause-arguments c = λ u hand made.
    let m = c.args.self.now in
    record {
      sound = hand.sound;
      frames = (waits_more u m c.push.new.self (Scope c.len-length.result) hand c.in_ok-push.ensures.items tt).frames;
      bindings = bindings_more u m.bindings.items c.args.made.items c.append.new.self.items c.in_ok-append.ensures.items hand.bindings made;
    }
