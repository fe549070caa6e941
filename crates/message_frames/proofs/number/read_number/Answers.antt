use Rattle.std.proofs.Common.{◌+◌, arith, get_or, drop}
use Rattle.message_frames.specs.Numbers.{digits_of}
use Rattle.message_frames.proofs.Numerals.{all_digits, at_byte, begins_none, is_part, one_more}
use Rattle.message_frames.proofs.number.read_number.Goals as goal

pub returns-in-Other : goal.returns-in-Other
returns-in-Other c =
    let bytes = c.args.bytes.now in
    let i = c.loop-i.i in
    begins_none c.loop-i.number (get_or bytes i 0) c.args.end c.args.most bytes (drop (i + 1) bytes) (omega arith) c.requires c.loop-i.invariant.within
    c.in-Other.ensures.1 c.in-Other.ensures.0 (at_byte bytes i (digits_of c.loop-i.number) c.loop-i-test.true c.loop-i.invariant.so_far)

pub loop-i-preserved : goal.loop-i-preserved
loop-i-preserved c = record {
  so_far = one_more c.loop-i.number c.args.bytes.now c.loop-i.i c.args.most c.in-Digit.more (omega arith) c.loop-i-test.true c.loop-i.invariant.so_far c.in-Digit.ensures;
  within = c.in-Digit.ensures.within;
}

pub returns : goal.returns
returns c =
    is_part c.loop-i.number c.args.end c.args.most c.args.bytes.now c.loop-i.invariant.within
    (all_digits c.args.bytes.now c.loop-i.i (digits_of c.loop-i.number) (omega arith) c.loop-i.invariant.so_far)
