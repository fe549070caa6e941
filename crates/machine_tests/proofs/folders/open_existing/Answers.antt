use Rattle.std.proofs.Common.{inl, inr}
use Rattle.machine_tests.proofs.folders.open_existing.Goals as goal

pub returns : goal.returns
returns g c = λ honest.
    elim c.in_ok-disk.ensures.opens [
      | inl none ↦ (let wrong = none.1 in absurd cc)
      | inr some ↦ c.existing_stores_are_open.ensures c.args.rt.now c.args.folder.now c.in_ok-disk.disk some.1 honest
    ]
