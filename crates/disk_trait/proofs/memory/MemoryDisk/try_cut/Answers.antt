use Rattle.disk_trait.specs.Disk.{TornCut}
use Rattle.disk_trait.specs.declared.call.What.TheVariants.{Shortened}
use Rattle.disk_trait.proofs.Files.{partly}
use Rattle.disk_trait.proofs.memory.MemoryDisk.try_cut.Goals as goal

pub returns-clause-recorded : goal.returns-clause-recorded
returns-clause-recorded c = record {
  allows = λ d i left step.
      c.in_ok-put.ensures.ok.allows d i left (partly c.args.half (TornCut c.args.len) (Shortened c.args.len) d i (λ old new part. part) step) tt;
  undone = tt;
  noted = c.in_ok-put.ensures.noted;
  mixes = c.put.ensures.mixes;
}
