use Rattle.lisp_reading.specs.Gathering.{text_turn, line_turn, block_turn, number_turn}
use Rattle.lisp_reading.specs.Reading.{next_item_turn, items_turn, attempt}
use Rattle.lisp_reading.proofs.Forms.{reads_is}
use Rattle.lisp_reading.proofs.Turns.{attempt_ends, loop_is, text_guarded, line_guarded, block_guarded, number_guarded, next_item_guarded, items_guarded}
use Rattle.lisp_reading.proofs.laws.reading_goes_on.Goals as goal

pub returns-clause-form : goal.returns-clause-form
returns-clause-form c = reads_is

pub returns-clause-next_item : goal.returns-clause-next_item
returns-clause-next_item c setting room close at cs h =
    loop_is setting.table setting.limits (next_item_turn setting.table close (attempt setting room))
    (next_item_guarded setting.table setting.limits close (attempt setting room) (attempt_ends setting _ _)) tt at cs h

pub returns-clause-items : goal.returns-clause-items
returns-clause-items c setting room close xs at cs h =
    loop_is setting.table setting.limits (items_turn setting close (attempt setting room))
    (items_guarded setting close (attempt setting room) (attempt_ends setting _ _)) xs at cs h

pub returns-clause-text : goal.returns-clause-text
returns-clause-text c setting terminator text at cs h =
    loop_is setting.table setting.limits (text_turn setting.table terminator) (text_guarded setting.table setting.limits terminator) text at cs h

pub returns-clause-line : goal.returns-clause-line
returns-clause-line c setting keep text at cs h =
    loop_is setting.table setting.limits (line_turn keep) (line_guarded setting.table setting.limits keep) text at cs h

pub returns-clause-block : goal.returns-clause-block
returns-clause-block c setting levels at cs h = loop_is setting.table setting.limits block_turn (block_guarded setting.table setting.limits) levels at cs h

pub returns-clause-number : goal.returns-clause-number
returns-clause-number c setting number at cs h = loop_is setting.table setting.limits number_turn (number_guarded setting.table setting.limits) number at cs h
