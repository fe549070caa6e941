use Rattle.std.proofs.Common.{List, ℕ, drop, sym, subst}
use Rattle.batched_half.specs.PlaceReading.{StandsWithin}
use Rattle.law_tests.proofs.halves.record_behind.Goals as goal

pub returns-clause-record : goal.returns-clause-record
returns-clause-record g c = λ h given left entry honest shows holds mark is at.
    let file = (g.D.Disk.state c.args.disk.now).reads.a in
    c.record_at.ensures.record entry honest shows
    (subst (λ (m : ℕ). StandsWithin m entry (drop c.args.at file)) (sym mark) (c.records_stand.ensures.there h file given left entry c.args.at holds is at))
