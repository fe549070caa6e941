use Rattle.std.proofs.Common.{◌∙◌}
use Rattle.disk_trait.specs.Disk.{Image}
use Rattle.disk_trait.specs.declared.half.Half.TheVariants.{A, B}
use Rattle.disk_trait.specs.Memory.{state_of}
use Rattle.disk_trait.specs.Replay.{FollowsOneCall, state_after_calls}
use Rattle.disk_trait.proofs.Next.{next_is}
use Rattle.disk_trait.proofs.Files.{put_in, kept_beside, wrote_push}
use Rattle.disk_trait.proofs.memory.MemoryDisk.put.Goals as goal

pub invariant_of-self-in-A : goal.invariant_of-self-in-A
invariant_of-self-in-A c =
    let m = c.args.self.now in
    let start : Image = record { a = m.start_a.items; b = m.start_b.items } in
    let new = state_after_calls m.mixes start c.push.new.self.items m.failures in
    let follows : FollowsOneCall c.args.half c.args.what (state_of m) new = next_is m.mixes start m.calls.items c.push.new.self.items c.args.half c.args.what m.failures m.failures c.in_ok-push.ensures.items in
    record {
      a_replayed = put_in c.args.half A c.args.what (state_of m) new follows c.args.next.items c.in-A.is c.requires.next;
      b_replayed = kept_beside c.args.half A c.args.what (state_of m) new follows c.in-A.is ∙ m.b_replayed;
      began = m.began;
      wrote = wrote_push m.calls.items c.push.new.self.items c.args.half c.args.what m.wrote c.requires.bytes c.in_ok-push.ensures.items;
    }

pub invariant_of-self-in-B : goal.invariant_of-self-in-B
invariant_of-self-in-B c =
    let m = c.args.self.now in
    let start : Image = record { a = m.start_a.items; b = m.start_b.items } in
    let new = state_after_calls m.mixes start c.push.new.self.items m.failures in
    let follows : FollowsOneCall c.args.half c.args.what (state_of m) new = next_is m.mixes start m.calls.items c.push.new.self.items c.args.half c.args.what m.failures m.failures c.in_ok-push.ensures.items in
    record {
      a_replayed = kept_beside c.args.half B c.args.what (state_of m) new follows c.in-B.is ∙ m.a_replayed;
      b_replayed = put_in c.args.half B c.args.what (state_of m) new follows c.args.next.items c.in-B.is c.requires.next;
      began = m.began;
      wrote = wrote_push m.calls.items c.push.new.self.items c.args.half c.args.what m.wrote c.requires.bytes c.in_ok-push.ensures.items;
    }

pub returns-in-A-clause-ok : goal.returns-in-A-clause-ok
returns-in-A-clause-ok c =
    let m = c.args.self.now in
    next_is m.mixes (record { a = m.start_a.items; b = m.start_b.items }) m.calls.items c.push.new.self.items c.args.half c.args.what m.failures m.failures c.in_ok-push.ensures.items

pub returns-in-B-clause-ok : goal.returns-in-B-clause-ok
returns-in-B-clause-ok c =
    let m = c.args.self.now in
    next_is m.mixes (record { a = m.start_a.items; b = m.start_b.items }) m.calls.items c.push.new.self.items c.args.half c.args.what m.failures m.failures c.in_ok-push.ensures.items
