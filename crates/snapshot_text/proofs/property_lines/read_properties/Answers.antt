use Rattle.std.proofs.Common.{◌≡◌, get_or, rules, arith}
use Rattle.snapshot_text.proofs.PropertyLines.{line_begins, rows_at, nil_at}
use Rattle.snapshot_text.proofs.PropertyParts.{at_first, at_last}
use Rattle.snapshot_text.proofs.property_lines.read_properties.Goals as goal

pub returns-then-byte-eq40 : goal.returns-then-byte-eq40
returns-then-byte-eq40 g c = λ s rest sound fits at old.
    let byte : get_or c.args.source.now.bytes.now c.args.at 0 ≡ 40 = first_of (cc, search rules, grind arith) in
    let line = rows_at s c.args.source.now.bytes.now rest c.args.at (line_begins s sound c.args.source.now.bytes.now rest c.args.at fits at) byte in
    c.read_rows.ensures s rest sound fits line.some old (line.text c.saturating_add.result c.saturating_add.ensures)

pub returns-else-byte-eq40 : goal.returns-else-byte-eq40
returns-else-byte-eq40 g c = λ s rest sound fits at old.
    let line = nil_at s c.args.source.now.bytes.now rest c.args.at (line_begins s sound c.args.source.now.bytes.now rest c.args.at fits at)
    (λ is. c.if-byte-eq40.false (first_of (cc, search rules, grind arith))) in (
      at_last s 0 c.args.world.now.0 (at_first s c.args.world.now.0 old) line.none,
      line.text c.saturating_add-else-byte-eq40.result c.saturating_add-else-byte-eq40.ensures,
    )
