use Rattle.std.proofs.Common.{◌≡◌, drop, map}
use Rattle.command_words.specs.Ways.{has_option}
use Rattle.command_words.proofs.way.has_option.Given as goal

-- what is left decides
abbrev pub invariant-loop-word : goal.invariant-loop-word
invariant-loop-word g l = has_option l.option (map g.S.AsStr.text (drop l.word-index l.words)) ≡ has_option l.option (map g.S.AsStr.text l.words)
