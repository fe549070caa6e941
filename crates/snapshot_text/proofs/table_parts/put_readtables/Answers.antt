use Rattle.std.proofs.Common.{◌≡◌, rules, map, arith}
use Rattle.world_text.specs.Snapshot.{snapshot_readtable}
use Rattle.snapshot_lines.specs.declared.error.BuildError.TheVariants.{OutOfMemory}
use Rattle.snapshot_text.proofs.NamedTables.{names, row_of, first_naming, table_row_at, last_naming}
use Rattle.snapshot_text.proofs.table_parts.put_readtables.Goals as goal

pub loop-row-init : goal.loop-row-init
loop-row-init c = λ s sound proper object is.
    let read = c.in_ok-row-items.ensures.read proper (map (row_of s) (names s)) object in
    first_naming s sound c.in_ok-row-items.row-items.now c.args.world.now.0 is read.1 read.0

pub returns-in_err-put_readtable : goal.returns-in_err-put_readtable
returns-in_err-put_readtable c = λ s sound proper object is.
    let row = table_row_at s sound c.in_ok-row-items.row-items.now c.loop-row.row-index c.loop-row.world.0 c.row-item.result (c.loop-row.invariant s sound proper object is)
    c.loop-row-test.true c.row-item.is in
    let out : c.in_err-put_readtable.field-0.0 ≡ OutOfMemory =
    c.in_err-put_readtable.ensures row.proper row.name (snapshot_readtable s row.name) row.object row.named row.there row.can in
    search rules

pub loop-row-preserved : goal.loop-row-preserved
loop-row-preserved c = λ s sound proper object is.
    let row = table_row_at s sound c.in_ok-row-items.row-items.now c.loop-row.row-index c.loop-row.world.0 c.row-item.result (c.loop-row.invariant s sound proper object is)
    c.loop-row-test.true c.row-item.is in
    row.later c.put_readtable.new.world.0 (c.in_ok-put_readtable.ensures row.proper row.name (snapshot_readtable s row.name) row.object row.named row.there row.can)

pub returns : goal.returns
returns c = λ s sound proper object is.
    last_naming s c.in_ok-row-items.row-items.now c.loop-row.row-index c.loop-row.world.0 (c.loop-row.invariant s sound proper object is) (omega (arith, c.loop-row-test.false))
