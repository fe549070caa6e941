use Rattle.std.proofs.Common.{sym, ap, ◌∙◌}
use Rattle.token_scan.specs.Marks.{characters}
use Rattle.std_macros.proofs.MarkNames.{with_character, without_character}
use Rattle.std_macros.proofs.characters.first.Goals as goal

pub returns-in-Some-character_of_mark : goal.returns-in-Some-character_of_mark
returns-in-Some-character_of_mark c =
    sym c.loop-mark.invariant ∙ ap characters c.in-Some.ensures.cases.0
    ∙ with_character c.in-Some.mark.now c.in-Some-character_of_mark.c c.in-Some.others.now (sym c.character_of_mark.ensures ∙ c.in-Some-character_of_mark.is)

pub loop-mark-preserved : goal.loop-mark-preserved
loop-mark-preserved c =
    sym (without_character c.in-Some.mark.now c.in-Some.others.now (sym c.character_of_mark.ensures ∙ c.in_default-character_of_mark.is))
    ∙ ap characters (sym c.in-Some.ensures.cases.0) ∙ c.loop-mark.invariant
