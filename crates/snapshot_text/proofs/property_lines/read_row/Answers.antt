use Rattle.std.proofs.Common.{◌+◌, ◌++◌}
use Rattle.plist_state.specs.Changes.{plist}
use Rattle.world_text.specs.ObjectTexts.{row_of}
use Rattle.snapshot_text.specs.Rows.{row_symbol_at, row_text, text_after}
use Rattle.snapshot_text.proofs.Gave.{refused_same}
use Rattle.snapshot_lines.proofs.NextLine.{text_fits}
use Rattle.snapshot_text.proofs.PropertyLines.{more_after, row_read}
use Rattle.snapshot_text.proofs.PropertyParts.{row_at, next_up_to}
use Rattle.snapshot_text.proofs.property_lines.read_row.Goals as goal

pub returns-in_err-row-clause-row : goal.returns-in_err-row-clause-row
returns-in_err-row-clause-row g c = λ s n rest sound fits few so_far e.
    let x = row_symbol_at s n in
    let short = text_fits c.args.source.now.bytes.now (row_text s n) (text_after s (n + 1) ++ rest) c.args.at fits e in
    refused_same _ c.in_err-row.field-0.0
    (c.in_err-row.ensures.read (row_of s x) (row_text s n) (text_after s (n + 1) ++ rest) _ fits e (more_after s (n + 1) rest) (row_read _ s sound n c.args.world.now.0 so_far few short rest))
    c.from_residual.result c.from_residual.ensures.1

pub returns-in_err-put_row-clause-row : goal.returns-in_err-put_row-clause-row
returns-in_err-put_row-clause-row g c = λ s n rest sound fits few so_far e.
    let x = row_symbol_at s n in
    let short = text_fits c.args.source.now.bytes.now (row_text s n) (text_after s (n + 1) ++ rest) c.args.at fits e in
    let read = c.in_ok-row.ensures.read (row_of s x) (row_text s n) (text_after s (n + 1) ++ rest) _ fits e (more_after s (n + 1) rest) (row_read _ s sound n c.args.world.now.0 so_far few short rest) in
    let row = row_at s sound n c.args.world.now.0 so_far few in
    refused_same _ c.in_err-put_row.field-0.0 (c.in_err-put_row.ensures read.1 x (plist s x) read.0 row.there row.may_be row.absent)
    c.from_residual-in_err-put_row.result c.from_residual-in_err-put_row.ensures.1

pub returns-clause-row : goal.returns-clause-row
returns-clause-row g c = λ s n rest sound fits few so_far e.
    let x = row_symbol_at s n in
    let short = text_fits c.args.source.now.bytes.now (row_text s n) (text_after s (n + 1) ++ rest) c.args.at fits e in
    let read = c.in_ok-row.ensures.read (row_of s x) (row_text s n) (text_after s (n + 1) ++ rest) _ fits e (more_after s (n + 1) rest) (row_read _ s sound n c.args.world.now.0 so_far few short rest) in
    let row = row_at s sound n c.args.world.now.0 so_far few in
    (next_up_to s sound n c.args.world.now.0 c.put_row.new.world.0 so_far few (c.in_ok-put_row.ensures read.1 x (plist s x) read.0 row.there row.may_be row.absent), read.2)
