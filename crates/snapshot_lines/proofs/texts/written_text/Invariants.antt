use Rattle.std.proofs.Common.{◌≡◌, List, ℕ, ◌++◌, drop}
use Rattle.canon_printer.specs.Written.{printed_text}
use Rattle.snapshot_lines.proofs.Quoted.{Left}
use Rattle.snapshot_lines.proofs.texts.written_text.Given as goal

-- what is left of the text and of what stands after it
abbrev pub invariant-loop-i : goal.invariant-loop-i
invariant-loop-i l = (name after : List ℕ) → l.bytes ≡ printed_text name ++ after → Left l.escaped (drop l.i l.text) after
