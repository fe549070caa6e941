use Rattle.std.proofs.Common.{refl}
use Rattle.plist_state.proofs.tables.entry_note.Goals as goal

pub returns-clause-note : goal.returns-clause-note
returns-clause-note c = record {
  name = c.in_ok-noted.noted;
  entry = c.in_ok-entry.entry;
  named = c.in_ok-noted.ensures.name;
  noted = refl;
  was = c.in_ok-entry.ensures;
}
