use Rattle.std.proofs.Common.{◌∙◌, IsTrue, Some, ap, subst, sym}
use Rattle.prevalence_store.specs.Theorem.{MeansAsBefore, MeansSome}
use Rattle.disk_trait.specs.Moments.{weaker}
use Rattle.prevalence_store.proofs.Joining.{headline_holds, run_survives}
use Rattle.prevalence_store.proofs.Surviving.{forms_before, forms_none, no_forms, some_as_before}
use Rattle.prevalence_store.proofs.laws.recoveries.Goals as goal

pub returns-clause-begun : goal.returns-clause-begun
returns-clause-begun g c = λ functions start world calls honest keeps run.
    (run_survives functions g.D.Disk.state g.met.D.Disk.sound start world calls honest keeps run).in_the_end

pub returns-clause-stopped : goal.returns-clause-stopped
returns-clause-stopped g c = λ functions start stopped world earlier later honest keeps run between.
    let all = headline_holds functions g.D.Disk.state g.met.D.Disk.sound start world earlier later honest keeps run in
    λ image may. all.any_moment image (between image may)

pub returns-clause-opened : goal.returns-clause-opened
returns-clause-opened g c = λ functions start opened world now forms least honest some again.
    let state = g.D.Disk.state in
    let first = some (state start).reads (g.met.D.Disk.sound start honest).reads_stay in (
      record {
        count = first.count;
        enough = first.enough;
        among = first.among;
        after_those = first.after_those ∙ ap (λ v. Some v) (again.only first.left first.meant);
      },
      weaker (state start) (state opened) (MeansAsBefore functions (state start)) (MeansSome functions world forms least)
          again.any_moment (some_as_before functions (state start) world forms least some),
    )

pub returns-clause-refused : goal.returns-clause-refused
returns-clause-refused g c = λ functions start back whole world forms least limit number honest some refused.
    let state = g.D.Disk.state in
    let still = subst IsTrue (sym refused.honest) honest in
    let sound = g.met.D.Disk.sound back still in
    let first = some (state start).reads (g.met.D.Disk.sound start honest).reads_stay in
    let run = weaker (state start) (state back) (MeansAsBefore functions (state start)) (MeansSome functions world forms least)
    (refused.any_moment honest) (some_as_before functions (state start) world forms least some) in (
      still,
      (λ image may. run.each image (sound.counts_now _ image run.later may)),
      run,
      refused.meant first.left honest first.meant,
    )

pub returns-clause-interrupted : goal.returns-clause-interrupted
returns-clause-interrupted g c = λ functions start now stopped world forms least run between image may. run.each image (between image may)

pub returns-clause-further : goal.returns-clause-further
returns-clause-further g c = λ functions disk world now forms more least fewer given some image may.
    forms_before functions world now forms more least fewer given image (some image may)

pub returns-clause-no_forms : goal.returns-clause-no_forms
returns-clause-no_forms g c = λ functions disk world.
    (no_forms functions (g.D.Disk.state disk) world, forms_none functions (g.D.Disk.state disk) world)
