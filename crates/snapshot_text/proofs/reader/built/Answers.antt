use Rattle.std.proofs.Common.{List, ap}
use Rattle.plist_state.specs.State.{WorldState}
use Rattle.snapshot_text.proofs.Gave.{refused_same}
use Rattle.snapshot_text.proofs.reader.built.Goals as goal

pub returns-in_err-fill : goal.returns-in_err-fill
returns-in_err-fill g c = λ s sound fits e.
    refused_same _ c.in_err-fill.field-0.0
    (c.in_err-fill.ensures s sound fits e (ap (λ (w : WorldState × List WorldState). w.0) c.in_ok-world.ensures))
    c.from_residual-in_err-fill.result c.from_residual-in_err-fill.ensures.1

pub returns : goal.returns
returns g c = λ s sound fits e.
    c.in_ok-fill.ensures s sound fits e (ap (λ (w : WorldState × List WorldState). w.0) c.in_ok-world.ensures)
