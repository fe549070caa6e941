use Rattle.std.proofs.Common.{ℕ, length, take, refl, ap}
use Rattle.disk_trait.specs.Disk.{Image, file_of}
use Rattle.log_look.specs.Moments.{image_at}
use Rattle.log_look.proofs.AtOnce.{head_at_once}
use Rattle.log_look.proofs.moments.MomentFilesLiveFiles.head.Goals as goal

pub returns : goal.returns
returns c = record {
  later = record {
    honest = refl;
    files = ap (λ ms. let files : ℕ → Image = λ t. image_at ms.items t in files) c.read_now.ensures.later.moments;
    later = c.read_now.ensures.later.later;
  };
  within = c.read_now.ensures.within;
  head = λ honest. head_at_once (λ t. file_of c.args.half (image_at c.args.self.now.moments.items t)) c.args.self.now.next c.read_now.new.self.next (length c.args.buffer.now) (take c.read_now.result c.read_now.new.buffer) c.read_now.ensures.later.later c.read_now.ensures.bytes;
}
