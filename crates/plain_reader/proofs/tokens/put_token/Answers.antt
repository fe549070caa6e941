use Rattle.std.proofs.Common.{true, take, sym, subst, arith, IfSome}
use Rattle.lisp_reading.specs.declared.attempt.Found.TheVariants.{One as one}
use Rattle.lisp_reading.specs.Plans.{gives}
use Rattle.lisp_reading.specs.Reading.{attempt}
use Rattle.plain_reader.specs.Coming.{ReadsOnAs}
use Rattle.plain_reader.specs.Plain.{setting, AreSymbolsThere, IfStill}
use Rattle.plain_reader.specs.Tokens.{IsToken}
use Rattle.plain_reader.proofs.Fronts.{rest_is}
use Rattle.plain_reader.proofs.Runs.{token_taken, parts_ascii}
use Rattle.plain_reader.proofs.There.{one_put}
use Rattle.plain_reader.proofs.tokens.put_token.Goals as goal

pub meaning-requires-clause-ascii : goal.meaning-requires-clause-ascii
meaning-requires-clause-ascii c = parts_ascii c.args.with.now.readtable.now (take c.in-Some.count c.args.text.now) c.in-Some.ensures.run.parts

pub returns-in_ok-push-in-Some-2-clause-puts : goal.returns-in_ok-push-in-Some-2-clause-puts
returns-in_ok-push-in-Some-2-clause-puts c = λ room.
    let text = c.args.text.now in
    let count = c.in-Some.count in
    record {
      token = true;
      object = c.in-Some-2.object;
      items = c.in_ok-push-in-Some-2.ensures;
      takes = λ functions.
          let setting = setting c.args.with.now functions in
          subst (λ rest. ReadsOnAs setting (attempt setting room) text (gives (one true c.in-Some-2.object)) rest) (sym (rest_is count text))
          (token_taken setting room count text c.in-Some-2.object c.in-Some.ensures.run (omega arith) c.in-Some.ensures.within c.if-count-with.false
          (subst (λ o. IfSome o (IsToken c.args.with.now (take count text))) c.in-Some-2.is c.in_ok-meaning.ensures.token));
    }

pub returns-in_ok-push-in-Some-2-clause-known : goal.returns-in_ok-push-in-Some-2-clause-known
returns-in_ok-push-in-Some-2-clause-known c =
    one_put c.args.with.now c.args.items.now c.push.new.self c.in-Some-2.object _ _ c.in_ok-push-in-Some-2.ensures
    (subst (λ o. IfStill c.args.known.now c.meaning.new.known (IfSome o (AreSymbolsThere c.args.with.now))) c.in-Some-2.is c.in_ok-meaning.ensures.known)
