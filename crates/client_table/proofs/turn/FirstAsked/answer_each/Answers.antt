use Rattle.std.proofs.Common.{Some, ap, arith, rules}
use Rattle.client_table.proofs.Fronts.{at_fault, at_first, at_last, at_next, at_none_left, kept_last, kept_none_left}
use Rattle.client_table.proofs.turn.FirstAsked.answer_each.Goals as goal
use Rattle.messages.specs.Rounds.{round_in}
use Rattle.messages.specs.declared.request.TheConstants.{ANSWER_BYTES}

pub loop-one-init : goal.loop-one-init
loop-one-init g c = record {
  at = at_first g.R.Meaning.Meaning.functions c.args.self.now.most (Some ANSWER_BYTES) (round_in c.args.round.now c.args.world.now.0) c.args.self.now.asked.now c.requires.none;
  made = λ first made. made;
  marks = λ first marked. marked;
}

pub loop-one-preserved : goal.loop-one-preserved
loop-one-preserved g c = record {
  at =
      at_next g.R.Meaning.Meaning.functions c.args.self.now.most (Some ANSWER_BYTES) (round_in c.args.round.now c.args.world.now.0) c.args.self.now.asked.now c.loop-one.one-index (round_in c.loop-one.round c.loop-one.world.0) (Some c.loop-one.room)
      c.loop-one.invariant.at _ c.loop-one-test.true (round_in c.answer_one.new.round c.answer_one.new.world.0) c.in-Ok.ensures.answered c.last_length.result (Some c.saturating_sub-room.result)
      c.last_length.ensures (ap Some c.saturating_sub-room.ensures) c.in-Ok.ensures.kept (search rules);
  made = λ first made. c.in-Ok.ensures.made first (c.loop-one.invariant.made first made);
  marks = λ first marked. c.answer_one.ensures.marks first (c.loop-one.invariant.marks first marked);
}

pub returns-in-Err-clause-refused : goal.returns-in-Err-clause-refused
returns-in-Err-clause-refused g c =
    at_fault g.R.Meaning.Meaning.functions c.args.self.now.most (Some ANSWER_BYTES) (round_in c.args.round.now c.args.world.now.0) c.args.self.now.asked.now c.loop-one.one-index (round_in c.loop-one.round c.loop-one.world.0) (Some c.loop-one.room)
    c.loop-one.invariant.at _ c.loop-one-test.true c.in-Err.failure c.in-Err.ensures.refused

pub returns-then-room-eq0-clause-answered : goal.returns-then-room-eq0-clause-answered
returns-then-room-eq0-clause-answered g c =
    at_last g.R.Meaning.Meaning.functions c.args.self.now.most (Some ANSWER_BYTES) (round_in c.args.round.now c.args.world.now.0) c.args.self.now.asked.now c.loop-one.one-index (round_in c.loop-one.round c.loop-one.world.0) (Some c.loop-one.room)
    c.loop-one.invariant.at _ c.loop-one-test.true (round_in c.answer_one.new.round c.answer_one.new.world.0) c.in-Ok.ensures.answered c.last_length.result (Some c.saturating_sub-room.result)
    c.last_length.ensures (ap Some c.saturating_sub-room.ensures) (search rules)

pub returns-then-room-eq0-clause-kept : goal.returns-then-room-eq0-clause-kept
returns-then-room-eq0-clause-kept g c =
    kept_last g.R.Meaning.Meaning.functions c.args.self.now.most (Some ANSWER_BYTES) (round_in c.args.round.now c.args.world.now.0) c.args.self.now.asked.now c.loop-one.one-index (round_in c.loop-one.round c.loop-one.world.0) (Some c.loop-one.room)
    c.loop-one.invariant.at _ c.loop-one-test.true (round_in c.answer_one.new.round c.answer_one.new.world.0) c.in-Ok.ensures.answered c.last_length.result (Some c.saturating_sub-room.result)
    c.last_length.ensures (ap Some c.saturating_sub-room.ensures) c.in-Ok.ensures.kept (search rules)

pub returns-clause-answered : goal.returns-clause-answered
returns-clause-answered g c =
    let over = c.loop-one-test.false in
    at_none_left g.R.Meaning.Meaning.functions c.args.self.now.most (Some ANSWER_BYTES) (round_in c.args.round.now c.args.world.now.0) c.args.self.now.asked.now c.loop-one.one-index (round_in c.loop-one.round c.loop-one.world.0) (Some c.loop-one.room)
    c.loop-one.invariant.at (omega (arith, over))

pub returns-clause-kept : goal.returns-clause-kept
returns-clause-kept g c =
    let over = c.loop-one-test.false in
    kept_none_left g.R.Meaning.Meaning.functions c.args.self.now.most (Some ANSWER_BYTES) (round_in c.args.round.now c.args.world.now.0) c.args.self.now.asked.now c.loop-one.one-index (round_in c.loop-one.round c.loop-one.world.0) (Some c.loop-one.room)
    c.loop-one.invariant.at (omega (arith, over))
