use Rattle.std.proofs.Common.{◌≡◌, ◌∷◌, [], ◌++◌, append_assoc, ap, ◌∙◌}
use Rattle.canon_printer.specs.Names.{with_backslashes}
use Rattle.canon_printer.specs.Written.{is_escaped_in_text}
use Rattle.snapshot_lines.proofs.Quoted.{escape_goes, backslash_goes, other_goes, quote_ends, quote_there, rest_whole, text_before}
use Rattle.snapshot_lines.proofs.texts.written_text.Goals as goal
use Rattle.snapshot_lines.proofs.texts.written_text.Goals.{then-escaped, else-escaped+then-c-eq92, else-escaped+else-c-eq92+else-c-eq34}

pub returns-then-c-eq34-clause-text : goal.returns-then-c-eq34-clause-text
returns-then-c-eq34-clause-text c = λ name after e.
    let text = c.in_ok-text.text.now in
    let i = c.loop-i.i in
    let is : text ≡ with_backslashes is_escaped_in_text name ++ 34 ∷ after =
    c.in_ok-text.ensures.after (with_backslashes is_escaped_in_text name ++ 34 ∷ after) (e ∙ ap (λ xs. 34 ∷ xs) (append_assoc (with_backslashes is_escaped_in_text name) (34 ∷ []) after)) in
    let left = c.loop-i.invariant name after e in (
      text_before text name after i is c.loop-i-test.true (quote_there text after i c.loop-i-test.true c.loop-i.escaped c.if-escaped.false c.if-c-eq34.true left),
      rest_whole text after i c.loop-i-test.true ∙ quote_ends text after i c.loop-i-test.true c.loop-i.escaped c.if-escaped.false c.if-c-eq34.true left,
    )

pub loop-i-preserved : goal.loop-i-preserved
loop-i-preserved c = λ name after e.
    let text = c.in_ok-text.text.now in
    let i = c.loop-i.i in
    let left = c.loop-i.invariant name after e in
    elim c.if-escaped.branch [
      | then-escaped w ↦ escape_goes text after i c.loop-i-test.true c.loop-i.escaped c.if-escaped.escaped w.if-escaped.true w.escaped-is left
      | else-escaped+then-c-eq92 w ↦ backslash_goes text after i c.loop-i-test.true c.loop-i.escaped c.if-escaped.escaped w.if-escaped.false w.if-c-eq92.true w.escaped-is left
      | else-escaped+else-c-eq92+else-c-eq34 w ↦
          other_goes text after i c.loop-i-test.true c.loop-i.escaped c.if-escaped.escaped w.if-escaped.false w.if-c-eq92.false w.if-c-eq34.false w.escaped-is left
    ]
