use Rattle.std.proofs.Common.{sym, ◌∙◌}
use Rattle.plain_reader.proofs.Names.{same_name}
use Rattle.plain_reader.proofs.words.upcased.Goals as goal

pub returns-else-has_lower : goal.returns-else-has_lower
returns-else-has_lower c =
    same_name c.args.bytes.now c.from_slice.result (sym c.has_lower.ensures ∙ c.if-has_lower.false) c.from_slice.ensures
