use Rattle.canon_printer.proofs.Resolved.{accessible_resolved, keyword_resolved, external_resolved, internal_resolved, nil_present}
use Rattle.canon_printer.proofs.laws.printed_symbols_are_found.Goals as goal

pub returns-clause-bare : goal.returns-clause-bare
returns-clause-bare c = accessible_resolved

pub returns-clause-in_keyword : goal.returns-clause-in_keyword
returns-clause-in_keyword c = keyword_resolved

pub returns-clause-after_one : goal.returns-clause-after_one
returns-clause-after_one c = external_resolved

pub returns-clause-after_two : goal.returns-clause-after_two
returns-clause-after_two c = internal_resolved

pub returns-clause-nil : goal.returns-clause-nil
returns-clause-nil c = nil_present
