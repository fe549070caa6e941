use Rattle.law_tests.proofs.round_trip.has_nil.Goals as goal

pub returns : goal.returns
returns c = c.is_symbol.ensures.present.1 (c.printed_symbols_are_found.ensures.nil c.args.packages.now.0 c.soundness.ensures)
