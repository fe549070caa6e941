use Rattle.std.proofs.Common.{◌∙◌, is_ok}
use Rattle.disk_trait.specs.Disk.{Image}
use Rattle.disk_trait.specs.declared.half.Half.TheVariants.{A, B}
use Rattle.disk_trait.proofs.Next.{next_is}
use Rattle.disk_trait.proofs.Files.{kept_either, wrote_either}
use Rattle.disk_trait.proofs.memory.MemoryDisk.note.Goals as goal

pub invariant_of-self : goal.invariant_of-self
invariant_of-self c =
    let m = c.args.self.now in
    let start : Image = record { a = m.start_a.items; b = m.start_b.items } in
    record {
      a_replayed = kept_either m.mixes (is_ok c.push.result) c.args.half A c.args.what start m.calls.items c.push.new.self.items m.failures c.requires.keeps c.push.ensures.items ∙ m.a_replayed;
      b_replayed = kept_either m.mixes (is_ok c.push.result) c.args.half B c.args.what start m.calls.items c.push.new.self.items m.failures c.requires.keeps c.push.ensures.items ∙ m.b_replayed;
      began = m.began;
      wrote = wrote_either (is_ok c.push.result) m.calls.items c.push.new.self.items c.args.half c.args.what m.wrote c.requires.bytes c.push.ensures.items;
    }

pub returns-clause-ok : goal.returns-clause-ok
returns-clause-ok c =
    let m = c.args.self.now in
    next_is m.mixes (record { a = m.start_a.items; b = m.start_b.items }) m.calls.items c.push.new.self.items c.args.half c.args.what m.failures m.failures c.in_ok-push.ensures.items
