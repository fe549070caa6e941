use Rattle.std.proofs.Common.{sym, ap, ◌∙◌, inl, inr}
use Rattle.token_scan.specs.Spelling.{ends_tokens}
use Rattle.plain_reader.proofs.Runs.{parts_more, run_here}
use Rattle.plain_reader.proofs.tokens.token_length.Goals as goal

pub returns-in-Whitespace-clause-run : goal.returns-in-Whitespace-clause-run
returns-in-Whitespace-clause-run c =
    run_here c.args.readtable.now c.args.text.now c.loop-i.i c.loop-i-test.true c.loop-i.invariant
    (elim c.in-Whitespace.is [
      | inl e ↦ ap ends_tokens (sym c.kind.ensures ∙ e)
      | inr e ↦ ap ends_tokens (sym c.kind.ensures ∙ e)
    ])

pub loop-i-preserved : goal.loop-i-preserved
loop-i-preserved c =
    parts_more c.args.readtable.now c.args.text.now c.loop-i.i c.loop-i-test.true c.loop-i.invariant (sym c.in-Constituent.ensures)
    (sym c.if-is_invalid.ensures)
