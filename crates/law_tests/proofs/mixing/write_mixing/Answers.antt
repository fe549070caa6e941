use Rattle.std.proofs.Common.{arith, inl, inr}
use Rattle.law_tests.proofs.Bytes.{each_byte}
use Rattle.law_tests.proofs.mixing.write_mixing.Goals as goal

pub returns-clause-torn : goal.returns-clause-torn
returns-clause-torn g c = λ image honest mixes left.
    let state = g.D.Disk.state c.args.disk.now in
    let bytes = c.args.bytes.now in
    let from = (c.write_at.ensures.mixes honest mixes).crash image left in
    let sound = g.met.D.Disk.sound c.args.disk.now honest in
    let held = sound.bytes state.moment from.0 (sound.counts_now state.moment from.0 (omega arith) from.1) in (
      from.0,
      from.1,
      elim from.2 [
        | inl same ↦ inl same
        | inr step ↦
            let changed = c.mixed_is_torn.ensures c.args.at bytes from.0.a image.a (each_byte bytes (λ i. (c.type_inv.bytes i).fits)) held.0 step.changed in
            inr (record { changed = changed; other = step.other })
      ],
    )
