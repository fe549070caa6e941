use Rattle.std.proofs.Common.{◌∷◌, [], append_assoc, sym, ap, ◌∙◌, arith}
use Rattle.package_table.specs.Table.{common_lisp_user}
use Rattle.canon_printer.specs.Printed.{printed}
use Rattle.lisp_reading.specs.Reading.{reads}
use Rattle.snapshot_lines.proofs.NextLine.{after_byte, next_refused}
use Rattle.snapshot_lines.proofs.lines.next_object.Goals as goal

pub returns-in_err-datum : goal.returns-in_err-datum
returns-in_err-datum g c = λ packages x rest fits at read.
    let text = printed packages common_lisp_user x in
    let apart = append_assoc text (10 ∷ []) rest in
    next_refused x c.args.source.now.bytes.now rest c.in_err-datum.field-0.0 (c.in_err-datum.ensures.read x text (10 ∷ rest) read.0 fits (at ∙ apart) (omega arith) (ap (reads _) (sym apart) ∙ read.1)) c.from_residual.result c.from_residual.ensures.1

pub returns : goal.returns
returns g c = λ packages x rest fits at read.
    let text = printed packages common_lisp_user x in
    let apart = append_assoc text (10 ∷ []) rest in
    let first = c.in_ok-datum.ensures.read x text (10 ∷ rest) read.0 fits (at ∙ apart) (omega arith) (ap (reads _) (sym apart) ∙ read.1) in (
      first.0,
      first.1,
      after_byte c.args.source.now.bytes.now rest c.in_ok-datum.end 10 c.saturating_add.result fits first.2 c.saturating_add.ensures,
    )
