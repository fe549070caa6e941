use Rattle.std.proofs.Common.{sym, ap, ◌∙◌}
use Rattle.std.specs.FinMap as finite
use Rattle.plist_state.specs.Views.{readtables_of}
use Rattle.plist_state.proofs.ByName.{put_there, before_some, before_none}
use Rattle.plist_state.proofs.tables.take_back.Goals as goal

pub returns-in-Some : goal.returns-in-Some
returns-in-Some c =
    let tables = c.args.tables.now.entries in
    put_there tables _ c.args.name.now c.in-Some.table.now c.revert.new.table c.in-Some.ensures.value (c.get_mut.follows.holds c.revert.new.table).0
    ∙ ap (finite.insert (readtables_of c.args.tables.now) c.args.name.now) c.revert.ensures
    ∙ sym (before_some tables c.args.name.now c.args.change c.in-Some.table.now c.in-Some.ensures.value)

pub returns-in_default : goal.returns-in_default
returns-in_default c =
    ap readtables_of c.get_mut.follows.holds-at-none ∙ sym (before_none c.args.tables.now.entries c.args.name.now c.args.change c.in_default.ensures.value)
