use Rattle.std.proofs.Common.{arith, rules}
use Rattle.messages.specs.Rounds.{round_in}
use Rattle.messages.proofs.Fronts.{at_fault, at_first, at_last, at_next, at_none_left}
use Rattle.messages.proofs.round.Round.answer_each.Goals as goal

pub loop-request-init : goal.loop-request-init
loop-request-init g c = record {
  at = at_first g.R.Meaning.Meaning.functions c.args.most (round_in c.args.self.now c.args.world.now.0) c.args.requests.now c.requires.none;
  made = λ first made. made;
  marks = λ first marked. marked;
}

pub loop-request-preserved : goal.loop-request-preserved
loop-request-preserved g c = record {
  at =
      at_next g.R.Meaning.Meaning.functions c.args.most (round_in c.args.self.now c.args.world.now.0) c.args.requests.now c.loop-request.request-index (round_in c.loop-request.self c.loop-request.world.0) c.loop-request.room
      c.loop-request.invariant.at _ c.loop-request-test.true (round_in c.answer_one.new.self c.answer_one.new.world.0) c.in-Ok.ensures.answered c.last_length.result c.less-room.result
      c.last_length.ensures c.less-room.ensures (search rules);
  made = λ first made. c.in-Ok.ensures.made first (c.loop-request.invariant.made first made);
  marks = λ first marked. c.answer_one.ensures.marks first (c.loop-request.invariant.marks first marked);
}

pub returns-in-Err-clause-refused : goal.returns-in-Err-clause-refused
returns-in-Err-clause-refused g c =
    at_fault g.R.Meaning.Meaning.functions c.args.most (round_in c.args.self.now c.args.world.now.0) c.args.requests.now c.loop-request.request-index (round_in c.loop-request.self c.loop-request.world.0) c.loop-request.room
    c.loop-request.invariant.at _ c.loop-request-test.true c.in-Err.failure c.in-Err.ensures.refused

pub returns-then-is_used_up-clause-answered : goal.returns-then-is_used_up-clause-answered
returns-then-is_used_up-clause-answered g c =
    at_last g.R.Meaning.Meaning.functions c.args.most (round_in c.args.self.now c.args.world.now.0) c.args.requests.now c.loop-request.request-index (round_in c.loop-request.self c.loop-request.world.0) c.loop-request.room
    c.loop-request.invariant.at _ c.loop-request-test.true (round_in c.answer_one.new.self c.answer_one.new.world.0) c.in-Ok.ensures.answered c.last_length.result c.less-room.result
    c.last_length.ensures c.less-room.ensures (search rules)

pub returns-clause-answered : goal.returns-clause-answered
returns-clause-answered g c =
    let over = c.loop-request-test.false in
    at_none_left g.R.Meaning.Meaning.functions c.args.most (round_in c.args.self.now c.args.world.now.0) c.args.requests.now c.loop-request.request-index (round_in c.loop-request.self c.loop-request.world.0) c.loop-request.room
    c.loop-request.invariant.at (omega (arith, over))
