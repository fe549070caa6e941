use Rattle.lisp_reading.proofs.Homes.{in_ascii, inside_ascii, at_ascii}
use Rattle.lisp_reading.proofs.token_resolution.named.Goals as goal

pub symbol_in-requires-clause-home : goal.symbol_in-requires-clause-home
symbol_in-requires-clause-home c =
    in_ascii c.args.packages.now.0 c.args.current.now _ c.resolve-resolved.result c.soundness.ensures c.requires.current c.resolve-resolved.ensures

pub symbol_at-requires-clause-home : goal.symbol_at-requires-clause-home
symbol_at-requires-clause-home c =
    at_ascii c.args.packages.now.0 c.as_slice-in-External.result.now c.as_slice-in-External-2.result.now c.resolve_external-home.result c.soundness.ensures c.resolve_external-home.ensures

pub symbol_in-requires-in-Internal-clause-home : goal.symbol_in-requires-in-Internal-clause-home
symbol_in-requires-in-Internal-clause-home c =
    inside_ascii c.args.packages.now.0 c.as_slice-in-Internal.result.now c.as_slice-in-Internal-2.result.now c.resolve_internal-resolved.result c.soundness.ensures c.resolve_internal-resolved.ensures
