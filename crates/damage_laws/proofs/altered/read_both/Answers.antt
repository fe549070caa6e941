use Rattle.batched_half.specs.Layout.{contents_of}
use Rattle.damage_laws.proofs.altered.read_both.Goals as goal

pub returns : goal.returns
returns g c = λ honest honest_altered differ.
    let file = (g.D.Disk.state c.args.disk.now).reads.a in
    let other = (g.D.Disk.state c.args.altered.now).reads.a in
    let first = c.in_ok-first.ensures.holds honest in
    let second = c.in_ok-second.ensures.holds honest_altered in (
      contents_of first.0,
      contents_of second.0,
      c.damage.ensures.agree (contents_of first.0) (contents_of second.0) file other
          (c.halves_hold_contents.ensures.contents first.0 file first.1) (c.halves_hold_contents.ensures.contents second.0 other second.1) differ,
      first.2.generation,
      second.2.generation,
      first.2.records,
      second.2.records,
    )
