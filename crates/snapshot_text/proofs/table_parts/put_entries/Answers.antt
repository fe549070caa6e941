use Rattle.std.proofs.Common.{◌≡◌, rules, arith}
use Rattle.world_text.specs.Snapshot.{entry_objects}
use Rattle.snapshot_lines.specs.declared.error.BuildError.TheVariants.{OutOfMemory}
use Rattle.snapshot_text.proofs.ReadtableParts.{first_making, entry_row_at, last_making}
use Rattle.snapshot_text.proofs.table_parts.put_entries.Goals as goal

pub loop-entry-init : goal.loop-entry-init
loop-entry-init c = λ proper t object named w.
    let read = c.in_ok-entry-items.ensures.read proper (entry_objects t) object in
    first_making c.args.world.now.0 c.args.name.now t c.in_ok-entry-items.entry-items.now named w read.1 read.0

pub returns-in_err-put_entry : goal.returns-in_err-put_entry
returns-in_err-put_entry c = λ proper t object named w.
    let row = entry_row_at c.args.world.now.0 c.args.name.now t c.in_ok-entry-items.entry-items.now c.loop-entry.entry-index c.loop-entry.world.0 c.entry-item.result
    named w (c.loop-entry.invariant proper t object named w) c.loop-entry-test.true c.entry-item.is in
    let out : c.in_err-put_entry.field-0.0 ≡ OutOfMemory = c.in_err-put_entry.ensures row.proper row.table row.character row.entry row.object row.small row.named row.writable in
    search rules

pub loop-entry-preserved : goal.loop-entry-preserved
loop-entry-preserved c = λ proper t object named w.
    let row = entry_row_at c.args.world.now.0 c.args.name.now t c.in_ok-entry-items.entry-items.now c.loop-entry.entry-index c.loop-entry.world.0 c.entry-item.result
    named w (c.loop-entry.invariant proper t object named w) c.loop-entry-test.true c.entry-item.is in
    row.later c.put_entry.new.world.0 (c.in_ok-put_entry.ensures row.proper row.table row.character row.entry row.object row.small row.named row.writable)

pub returns : goal.returns
returns c = λ proper t object named w.
    last_making c.args.world.now.0 c.args.name.now t c.in_ok-entry-items.entry-items.now c.loop-entry.entry-index c.loop-entry.world.0
    (c.loop-entry.invariant proper t object named w) (omega (arith, c.loop-entry-test.false))
