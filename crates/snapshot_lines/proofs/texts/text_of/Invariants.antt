use Rattle.std.proofs.Common.{◌≡◌, ◌++◌, drop}
use Rattle.snapshot_lines.specs.QuotedTexts.{unescaped, unescaped_after}
use Rattle.snapshot_lines.proofs.texts.text_of.Given as goal

-- what the text so far and the rest are
abbrev pub invariant-loop-c : goal.invariant-loop-c
invariant-loop-c l = l.text.items ++ unescaped_after l.escaped (drop l.c-index l.written) ≡ unescaped l.written
