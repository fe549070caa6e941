use Rattle.plist_state.proofs.stored.tidy_unmarked.Goals as goal

pub returns-then-is_empty-clause-indexed : goal.returns-then-is_empty-clause-indexed
returns-then-is_empty-clause-indexed c = c.tidy.ensures.indexed c.args.stored.now.indexes.entries c.requires
