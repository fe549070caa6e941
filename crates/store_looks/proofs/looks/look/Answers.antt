use Rattle.std.proofs.Common.{Ok, Err, map, sym, subst}
use Rattle.command_words.specs.LookLine.{AsksToLook}
use Rattle.store_commands.specs.Status.{IsOfWords}
use Rattle.store_commands.specs.declared.status.Status.{Status}
use Rattle.store_looks.specs.Looks.{PrintsText}
use Rattle.store_looks.proofs.Looking.{look_ended, look_of_words, look_prints}
use Rattle.store_looks.proofs.Printing.{text_told}
use Rattle.store_looks.proofs.looks.look.Goals as goal

pub returns-in-Ok-look_at-clause-prints : goal.returns-in-Ok-look_at-clause-prints
returns-in-Ok-look_at-clause-prints g c =
    text_told g.O.Write.contents _ _ c.end_with.result
    (subst (λ (s : Status). PrintsText (g.O.Write.contents c.args.output.now) (g.O.Write.contents c.look_at.new.output) s) (sym c.end_with.ensures.status)
    (look_prints _ _ _ _ _ c.in-Ok.looked.folder.now _ _ _ c.in-Ok.looked.look c.in-Ok-look_at.status c.in-Ok-look_at.ensures.looks))

pub returns-in-Ok-look_at-clause-looks : goal.returns-in-Ok-look_at-clause-looks
returns-in-Ok-look_at-clause-looks g c =
    look_ended _ _ _ _ _ _ _ _ _ c.in-Ok.looked.folder.now c.in-Ok.looked.look c.in-Ok.ensures (Ok c.in-Ok-look_at.status) c.end_with.result c.end_with.ensures.status c.in-Ok-look_at.ensures.looks

pub returns-in-Err-look_at-clause-looks : goal.returns-in-Err-look_at-clause-looks
returns-in-Err-look_at-clause-looks g c =
    look_ended _ _ _ _ _ _ _ _ _ c.in-Ok.looked.folder.now c.in-Ok.looked.look c.in-Ok.ensures (Err c.in-Err-look_at.unlooked) c.end_unlooked.result c.end_unlooked.ensures.status c.in-Err-look_at.ensures.looks

pub returns-in-Err-clause-looks : goal.returns-in-Err-clause-looks
returns-in-Err-clause-looks g c = look_of_words _ _ _ _ _ _ _ _ _ c.end_with-in-Err.result (subst IsOfWords (sym c.end_with-in-Err.ensures.status) c.answer_words-status.ensures.of_words)

pub look_at-requires-clause-may : goal.look_at-requires-clause-may
look_at-requires-clause-may g c = λ to is. c.requires.may c.in-Ok.looked.folder.now to (subst (AsksToLook (map g.S.AsStr.text c.args.words.now) c.in-Ok.looked.folder.now) is c.in-Ok.ensures)
