use Rattle.std.proofs.Common.{◌≡◌, ◌<◌, ◌+◌, ◌∷◌, length, get_or, refl, rules, arith}
use Rattle.snapshot_text.proofs.Gave.{refused_same}
use Rattle.snapshot_text.proofs.PropertyLines.{after_row, end_there, last_at, later_at}
use Rattle.snapshot_text.proofs.PropertyParts.{at_first}
use Rattle.snapshot_text.proofs.property_lines.read_rows.Goals as goal

pub rows-init : goal.rows-init
rows-init g c = λ s rest sound fits some new e. record { done = 0; few = some; so_far = at_first s c.args.world.now.0 new; text = e }

pub returns-in_err-end : goal.returns-in_err-end
returns-in_err-end g c = λ s rest sound fits some new e.
    let row = c.rows.invariant s rest sound fits some new e in
    refused_same _ c.in_err-end.field-0.0 (c.in_err-end.ensures.row s row.done (10 ∷ rest) sound fits row.few row.so_far row.text) c.from_residual.result c.from_residual.ensures.1

pub returns-in_default : goal.returns-in_default
returns-in_default g c = λ s rest sound fits some new e.
    let row = c.rows.invariant s rest sound fits some new e in
    let read = c.in_ok-end.ensures.row s row.done (10 ∷ rest) sound fits row.few row.so_far row.text in
    let here = after_row s c.args.source.now.bytes.now rest c.in_ok-end.end c.read_row.new.world.0 (row.done + 1) fits read.0 (omega (arith, row.few)) read.1 in
    let there : c.in_ok-end.end < length c.args.source.now.bytes.now = end_there s c.args.source.now.bytes.now rest c.in_ok-end.end c.read_row.new.world.0 here in
    absurd (first_of (omega arith, search rules, grind arith))

pub returns-then-byte-eq41 : goal.returns-then-byte-eq41
returns-then-byte-eq41 g c = λ s rest sound fits some new e.
    let row = c.rows.invariant s rest sound fits some new e in
    let read = c.in_ok-end.ensures.row s row.done (10 ∷ rest) sound fits row.few row.so_far row.text in
    let here = after_row s c.args.source.now.bytes.now rest c.in_ok-end.end c.read_row.new.world.0 (row.done + 1) fits read.0 (omega (arith, row.few)) read.1 in
    let byte : get_or c.args.source.now.bytes.now c.in_ok-end.end 0 ≡ 41 = first_of (cc, search rules, grind arith) in
    let last = last_at s c.args.source.now.bytes.now rest c.in_ok-end.end c.read_row.new.world.0 here byte in
    (last.world, last.text c.saturating_add.result c.saturating_add.ensures)

pub rows-preserved : goal.rows-preserved
rows-preserved g c = λ s rest sound fits some new e.
    let row = c.rows.invariant s rest sound fits some new e in
    let read = c.in_ok-end.ensures.row s row.done (10 ∷ rest) sound fits row.few row.so_far row.text in
    let here = after_row s c.args.source.now.bytes.now rest c.in_ok-end.end c.read_row.new.world.0 (row.done + 1) fits read.0 (omega (arith, row.few)) read.1 in
    (later_at s c.args.source.now.bytes.now rest c.in_ok-end.end c.read_row.new.world.0 here (λ is. c.if-byte-eq41.false (first_of (cc, search rules, grind arith)))).row (c.in_ok-end.end + 1) refl
