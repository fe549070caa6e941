use Rattle.std.proofs.Common.{sym, subst}
use Rattle.disk_trait.specs.Disk.{Image}
use Rattle.prevalence_store.specs.meaning.Files.{MeansWorld}
use Rattle.prevalence_store.specs.calls.Open.{IsNoWord, limit_at_open}
use Rattle.prevalence_store.proofs.Joining.{headline_holds}
use Rattle.prevalence_store.proofs.laws.headline.Goals as goal

pub returns-clause-holds : goal.returns-clause-holds
returns-clause-holds g c = λ functions start world earlier later honest keeps run. headline_holds functions g.D.Disk.state g.met.D.Disk.sound start world earlier later honest keeps run

pub returns-clause-refused : goal.returns-clause-refused
returns-clause-refused g c = λ functions start world earlier later image crashed back limit number honest keeps run might reads still refused.
    let all = headline_holds functions g.D.Disk.state g.met.D.Disk.sound start world earlier later honest keeps run in
    let some = all.any_moment image might in
    subst (λ (i : Image). IsNoWord (g.D.Disk.state crashed).mixes (limit_at_open limit) i refused.fault) reads
    (refused.meant some.left still (subst (λ (i : Image). MeansWorld functions i some.left) (sym reads) some.meant))
