use Rattle.std.proofs.Common.{◌<◌, length, arith}
use Rattle.plist_state.proofs.EmptyRows.{within, alike_same, alike_both, alike_push, alike_still, alike_remade, within_remade}
use Rattle.plist_state.proofs.rows.add_row.Goals as goal

pub loop-rows-init : goal.loop-rows-init
loop-rows-init c = alike_same c.args.rows.now.items

pub loop-rows-preserved : goal.loop-rows-preserved
loop-rows-preserved c =
    alike_both c.args.rows.now.items c.loop-rows.rows.items c.push.new.self.items c.loop-rows.invariant
    (alike_push c.loop-rows.rows.items c.push.new.self.items c.new.result c.in_ok-push.ensures.items c.new.ensures)

pub returns-in_err-push-clause-same : goal.returns-in_err-push-clause-same
returns-in_err-push-clause-same c = (alike_still c.args.rows.now.items c.loop-rows.rows.items c.push.new.self.items c.loop-rows.invariant c.in_err-push.ensures.items).lists

pub returns-in_err-push-clause-wider : goal.returns-in_err-push-clause-wider
returns-in_err-push-clause-wider c = (alike_still c.args.rows.now.items c.loop-rows.rows.items c.push.new.self.items c.loop-rows.invariant c.in_err-push.ensures.items).wider

pub returns-in_err-push-clause-indexed : goal.returns-in_err-push-clause-indexed
returns-in_err-push-clause-indexed c = (alike_still c.args.rows.now.items c.loop-rows.rows.items c.push.new.self.items c.loop-rows.invariant c.in_err-push.ensures.items).indexed

pub returns-then-has_memory-clause-there : goal.returns-then-has_memory-clause-there
returns-then-has_memory-clause-there c =
    within c.loop-rows.rows.items c.args.number (omega (arith, c.loop-rows-test.false, c.len.ensures, c.loop-rows.rows.ok.0))

pub returns-clause-there : goal.returns-clause-there
returns-clause-there c =
    within_remade c.loop-rows.rows.items c.args.number c.in_ok-row.row (omega (arith, c.loop-rows-test.false, c.len.ensures, c.loop-rows.rows.ok.0))

pub returns-clause-same : goal.returns-clause-same
returns-clause-same c =
    let less : c.args.number < length c.loop-rows.rows.items = omega (arith, c.loop-rows-test.false, c.len.ensures, c.loop-rows.rows.ok.0) in
    (alike_remade c.args.rows.now.items c.loop-rows.rows.items c.args.number c.index.result.now c.in_ok-row.row c.loop-rows.invariant less c.index.ensures (c.has_memory.ensures c.if-has_memory.false) c.in_ok-row.ensures).lists

pub returns-clause-wider : goal.returns-clause-wider
returns-clause-wider c =
    let less : c.args.number < length c.loop-rows.rows.items = omega (arith, c.loop-rows-test.false, c.len.ensures, c.loop-rows.rows.ok.0) in
    (alike_remade c.args.rows.now.items c.loop-rows.rows.items c.args.number c.index.result.now c.in_ok-row.row c.loop-rows.invariant less c.index.ensures (c.has_memory.ensures c.if-has_memory.false) c.in_ok-row.ensures).wider

pub returns-clause-indexed : goal.returns-clause-indexed
returns-clause-indexed c =
    let less : c.args.number < length c.loop-rows.rows.items = omega (arith, c.loop-rows-test.false, c.len.ensures, c.loop-rows.rows.ok.0) in
    (alike_remade c.args.rows.now.items c.loop-rows.rows.items c.args.number c.index.result.now c.in_ok-row.row c.loop-rows.invariant less c.index.ensures (c.has_memory.ensures c.if-has_memory.false) c.in_ok-row.ensures).indexed
