use Rattle.std.proofs.Common.{ap, sym, subst}
use Rattle.store_commands.specs.Status.{IsOfWords}
use Rattle.store_looks.proofs.CheckedTexts.{check_of_words, check_told, check_untold}
use Rattle.store_looks.proofs.checking.check.Goals as goal

pub returns-in-Ok-check_asked-clause-checks : goal.returns-in-Ok-check_asked-clause-checks
returns-in-Ok-check_asked-clause-checks g c =
    check_told _ _ _ _ _ _ _ c.in-Ok.asked c.in-Ok.ensures c.in-Ok-check_asked.status c.end_with.result c.end_with.ensures.status c.in-Ok-check_asked.ensures.tells

pub returns-in-Err-check_asked-clause-checks : goal.returns-in-Err-check_asked-clause-checks
returns-in-Err-check_asked-clause-checks g c =
    check_untold _ _ _ _ _ _ _ c.in-Ok.asked c.in-Ok.ensures c.in-Err-check_asked.unlooked c.end_unlooked.result c.end_unlooked.ensures.status (ap g.O.Write.contents c.in-Err-check_asked.ensures.refused)

pub returns-in-Err-clause-checks : goal.returns-in-Err-clause-checks
returns-in-Err-clause-checks g c = check_of_words _ _ _ _ _ _ _ c.end_with-in-Err.result (subst IsOfWords (sym c.end_with-in-Err.ensures.status) c.answer_words-status.ensures.of_words)
