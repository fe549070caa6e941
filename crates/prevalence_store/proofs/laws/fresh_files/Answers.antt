use Rattle.std.proofs.Common.{◌∙◌, None, ap, arith, length, refl}
use Rattle.disk_trait.specs.Disk.{Image}
use Rattle.prevalence_store.proofs.laws.fresh_files.Goals as goal

pub returns : goal.returns
returns g c = λ functions disk fresh image may.
    let same = fresh.durable image may in
    let a = ap (λ (i : Image). length i.a) same ∙ ap length fresh.a in
    let b = ap (λ (i : Image). length i.b) same ∙ ap length fresh.b in
    (None, (λ is_open. absurd (omega (arith, is_open.0, a)), λ is_open. absurd (omega (arith, is_open.0, b))), refl)
