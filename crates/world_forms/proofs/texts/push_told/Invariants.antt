use Rattle.std.proofs.Common.{◌≡◌, ◌++◌, take}
use Rattle.world_forms.specs.NameTokens.{told_text}
use Rattle.world_forms.proofs.texts.push_told.Given as goal

-- the characters so far
abbrev pub invariant-loop-byte : goal.invariant-loop-byte
invariant-loop-byte l = l.text.items ≡ l.fn.text.items ++ told_text (take l.byte-index l.bytes)
