use Rattle.std.proofs.Common.{◌-◌, ◌^◌, length}
use Rattle.log_look.specs.Live.{IsHonestWatch, IsRead, Later, file_at}
use Rattle.log_look.proofs.whole.read_whole.Given as goal

abbrev pub invariant-pieces : goal.invariant-pieces
invariant-pieces g l = record {
  later : Later (g.F.LiveFiles.watch l.fn.files) (g.F.LiveFiles.watch l.files);
  read : IsHonestWatch (g.F.LiveFiles.watch l.fn.files)
      → IsRead (file_at l.fn.half (g.F.LiveFiles.watch l.fn.files)) 0 l.bytes.items (g.F.LiveFiles.watch l.fn.files).now (g.F.LiveFiles.watch l.files).now;
}

abbrev pub decreases-pieces : goal.decreases-pieces
decreases-pieces g l = 2 ^ 64 - length l.bytes.items
