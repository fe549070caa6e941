use Rattle.std.proofs.Common.{◌≤◌, ◌∙◌, sym, length, arith}
use Rattle.readtable_core.proofs.NameBytes.{filled_length, filled_again, filled_ascii}
use Rattle.readtable_core.proofs.names.FnName.new.Goals as goal

pub invariant_of-result : goal.invariant_of-result
invariant_of-result c =
    let fits : length c.args.bytes.now ≤ 32 = omega arith in
    rw c.copy_from_slice.ensures.after (fits, filled_length c.args.bytes.now fits, filled_again c.args.bytes.now, filled_ascii c.args.bytes.now (sym c.are_ascii.ensures ∙ c.if-not-are_ascii.false))
