use Rattle.std.proofs.Common.{◌≡◌, ◌<◌, ◌++◌, length, rules, arith, ap, ◌∙◌}
use Rattle.lisp_reading.specs.Reading.{reads}
use Rattle.snapshot_lines.proofs.NextLine.{rest_is, text_within, after_text, next_refused}
use Rattle.snapshot_lines.proofs.lines.object_at.Goals as goal

pub returns-in_err-datum-clause-read : goal.returns-in_err-datum-clause-read
returns-in_err-datum-clause-read g c = λ x text rest next fits at more read.
    let found : c.in-Some.rest.now ≡ text ++ rest = c.in-Some.ensures.lookup.0.2 ∙ rest_is c.args.source.now.bytes.now c.args.at c.in-Some.ensures.lookup.0.0 ∙ at in
    next_refused x c.args.source.now.bytes.now rest c.in_err-datum.field-0.0 (c.in_err-datum.ensures x (length text) next (ap (reads _) found ∙ read)) c.from_residual.result c.from_residual.ensures.1

pub returns-clause-read : goal.returns-clause-read
returns-clause-read g c = λ x text rest next fits at more read.
    let found : c.in-Some.rest.now ≡ text ++ rest = c.in-Some.ensures.lookup.0.2 ∙ rest_is c.args.source.now.bytes.now c.args.at c.in-Some.ensures.lookup.0.0 ∙ at in
    let first = c.in_ok-datum.ensures x (length text) next (ap (reads _) found ∙ read) in (
      first.0,
      first.1,
      after_text c.args.source.now.bytes.now text rest c.args.at c.saturating_add.result c.in-Some.ensures.lookup.0.0 fits at (rw (first.2) at c.saturating_add.ensures),
    )

pub returns-in_default-clause-read : goal.returns-in_default-clause-read
returns-in_default-clause-read g c = λ x text rest next fits at more read.
    let within : c.args.at < length c.args.source.now.bytes.now = text_within c.args.source.now.bytes.now text rest c.args.at at more in
    absurd (first_of (omega arith, search rules, grind arith))
