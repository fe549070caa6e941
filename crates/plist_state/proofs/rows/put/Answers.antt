use Rattle.plist_state.proofs.rows.put.Goals as goal

pub returns-in_err-add_row-clause-indexed : goal.returns-in_err-add_row-clause-indexed
returns-in_err-add_row-clause-indexed c = c.add_row.ensures.indexed c.args.indexes.now.entries c.requires.indexed

pub write_at-requires-clause-indexed : goal.write_at-requires-clause-indexed
write_at-requires-clause-indexed c = c.add_row.ensures.indexed c.args.indexes.now.entries c.requires.indexed
