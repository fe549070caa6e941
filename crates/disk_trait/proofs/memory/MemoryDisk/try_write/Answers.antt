use Rattle.std.proofs.Common.{subst}
use Rattle.disk_trait.specs.Disk.{AreBytes}
use Rattle.disk_trait.specs.Memory.{state_of}
use Rattle.disk_trait.specs.ReplayBytes.{bytes_tested}
use Rattle.disk_trait.proofs.Files.{takes_mixing, takes_tearing, allows_mixing, allows_tearing}
use Rattle.disk_trait.proofs.memory.MemoryDisk.try_write.Goals as goal

pub returns-then-self-clause-ok : goal.returns-then-self-clause-ok
returns-then-self-clause-ok c =
    takes_mixing c.args.half c.args.at c.args.bytes.now c.in_ok-bytes.bytes (state_of c.args.self.now) (state_of c.put.new.self) c.in_ok-bytes.ensures.items
    c.if-self.true c.in_ok-put.ensures.ok

pub returns-then-self-clause-recorded : goal.returns-then-self-clause-recorded
returns-then-self-clause-recorded c = record {
  allows =
      allows_mixing c.args.half c.args.at c.args.bytes.now c.in_ok-bytes.bytes (state_of c.args.self.now) (state_of c.put.new.self) c.in_ok-bytes.ensures.items
      c.if-self.true c.in_ok-put.ensures.ok;
  undone = tt;
  noted = c.in_ok-put.ensures.noted;
  mixes = c.put.ensures.mixes;
}

pub returns-clause-ok : goal.returns-clause-ok
returns-clause-ok c =
    takes_tearing c.args.half c.args.at c.args.bytes.now c.in_ok-bytes.bytes (state_of c.args.self.now) (state_of c.put-2.new.self) c.in_ok-bytes.ensures.items
    (subst AreBytes c.in_ok-bytes.ensures.items (bytes_tested c.in_ok-bytes.bytes.items c.in_ok-bytes.ensures.bytes))
    c.if-self.false c.in_ok-put-2.ensures.ok

pub returns-clause-recorded : goal.returns-clause-recorded
returns-clause-recorded c = record {
  allows =
      allows_tearing c.args.half c.args.at c.args.bytes.now c.in_ok-bytes.bytes (state_of c.args.self.now) (state_of c.put-2.new.self) c.in_ok-bytes.ensures.items
      c.if-self.false c.in_ok-put-2.ensures.ok;
  undone = tt;
  noted = c.in_ok-put-2.ensures.noted;
  mixes = c.put-2.ensures.mixes;
}
