use Rattle.std.proofs.Common.{◌≡◌, ◌∙◌, Ok, sym, ap}
use Rattle.gate_log.specs.HalfInUse.{half_of}
use Rattle.law_tests.proofs.in_use.have_same_half.Goals as goal

pub returns : goal.returns
returns g c = λ image one other.
    let both = c.one_answer.ensures (Ok c.args.one.now.used) (Ok c.args.other.now.used) image one other in
    let same : c.args.one.now.used ≡ c.args.other.now.used = cc in
    c.is_same.ensures (c.half.ensures.value ∙ (ap half_of same ∙ sym c.half-2.ensures.value))
