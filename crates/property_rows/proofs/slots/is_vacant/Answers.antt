use Rattle.std.proofs.Common.{◌≡◌, ◌<◌, ◌-◌, ◌%◌, ◌==◌, length, get_or, sym, ap, ◌∙◌, arith}
use Rattle.std.proofs.lemmas.Bool.Decides.{nat_tests}
use Rattle.property_rows.specs.declared.slot.Slot.{Slot}
use Rattle.property_rows.specs.Slots.{blank}
use Rattle.property_rows.proofs.Counted.{gone_under}
use Rattle.property_rows.proofs.Holding.{got_same}
use Rattle.property_rows.proofs.slots.is_vacant.Goals as goal

pub overflow_sub-result : goal.overflow_sub-result
overflow_sub-result c =
    let under = gone_under c.args.slots.now c.args.at (omega (arith, c.if-at-slots.false)) in
    omega (arith, under, c.gone_before.ensures)

pub returns : goal.returns
returns c = λ is.
    let less : c.args.at < length c.args.slots.now = omega (arith, c.if-at-slots.false) in
    let under = gone_under c.args.slots.now c.args.at (omega (arith, less)) in
    let count : c.args.at - c.gone_before.result ≡ c.args.index = grind (arith, nat_tests, is) in
    let s : Slot = get_or c.args.slots.now c.args.at c.index-slots-at.result in
    let read = got_same c.args.slots.now c.args.at s less (ap (get_or c.args.slots.now c.args.at) c.index-slots-at.is) in
    let odd : (get_or c.args.slots.now c.args.at blank).gone % 2 ≡ 1 = ap (λ (t : Slot). t.gone % 2) (sym read) ∙ c.if-slots-at-ne1.false in
    record {
      place = less;
      gone = ap (λ n. n == 1) odd;
      before = omega (arith, under, count, c.gone_before.ensures);
    }
