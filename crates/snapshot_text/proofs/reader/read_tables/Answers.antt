use Rattle.package_table.specs.Table.{common_lisp_user}
use Rattle.canon_printer.specs.Printed.{printed}
use Rattle.std.proofs.Common.{Some, sym, ap, ◌∙◌}
use Rattle.snapshot_text.proofs.Gave.{refused_same}
use Rattle.snapshot_text.proofs.LaterLines.{third_line}
use Rattle.snapshot_lines.proofs.NextLine.{line_fits}
use Rattle.snapshot_text.proofs.reader.read_tables.Goals as goal

pub returns-in_err-tables : goal.returns-in_err-tables
returns-in_err-tables g c = λ s third rest sound fits is at old.
    let short = line_fits c.args.source.now.bytes.now (printed s.packages common_lisp_user third) rest c.args.at fits at in
    refused_same _ c.in_err-tables.field-0.0
    (c.in_err-tables.ensures s.packages third rest fits at (third_line _ s sound c.args.world.now.0 c.args.version third is old short rest))
    c.from_residual.result c.from_residual.ensures.1

pub returns-in_err-put_tables : goal.returns-in_err-put_tables
returns-in_err-put_tables g c = λ s third rest sound fits is at old.
    let short = line_fits c.args.source.now.bytes.now (printed s.packages common_lisp_user third) rest c.args.at fits at in
    let read = c.in_ok-tables.ensures s.packages third rest fits at (third_line _ s sound c.args.world.now.0 c.args.version third is old short rest) in
    refused_same _ c.in_err-put_tables.field-0.0 (c.in_err-put_tables.ensures s sound read.1 (is ∙ ap (λ x. Some x) (sym read.0)) old)
    c.from_residual-in_err-put_tables.result c.from_residual-in_err-put_tables.ensures.1

pub returns : goal.returns
returns g c = λ s third rest sound fits is at old.
    let short = line_fits c.args.source.now.bytes.now (printed s.packages common_lisp_user third) rest c.args.at fits at in
    let read = c.in_ok-tables.ensures s.packages third rest fits at (third_line _ s sound c.args.world.now.0 c.args.version third is old short rest) in
    c.in_ok-put_tables.ensures s sound read.1 (is ∙ ap (λ x. Some x) (sym read.0)) old
