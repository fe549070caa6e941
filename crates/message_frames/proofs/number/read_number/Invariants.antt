use Rattle.std.proofs.Common.{◌≡◌, ◌≤◌, take}
use Rattle.std.specs.Prelude.{IfSome}
use Rattle.message_frames.specs.Numbers.{digits_of}
use Rattle.message_frames.proofs.number.read_number.Given as goal

abbrev pub invariant-loop-i : goal.invariant-loop-i
invariant-loop-i l = record {
  so_far : take l.i l.bytes ≡ digits_of l.number;
  within : IfSome l.number (λ n. n ≤ l.most);
}
