use Rattle.lisp_object.proofs.Restored.{from_symbol}
use Rattle.snapshot_text.proofs.property_parts.symbol_in.Goals as goal

pub returns-in_default : goal.returns-in_default
returns-in_default c = λ proper x e. absurd (c.in_default.not-Symbol x.0 x.1 (from_symbol c.args.datum.now x.0 x.1 proper e))
