use Rattle.std.proofs.Common.{refl, ◌∙◌}
use Rattle.prevalence_store.proofs.calls.Executing.{known_world}
use Rattle.sessions.proofs.Handing.{hands_lines, none_handed, none_standing_all, refusal_stored}
use Rattle.sessions.proofs.answer.answer_fault.Goals as goal

pub write_lines-requires : goal.write_lines-requires
write_lines-requires g c = record {
  stored = λ kept is.
      let here = known_world c.args.store.now.world c.requires.is_open in
      let s = c.requires.stands here.0 here.1 in
      refusal_stored g.R.Meaning.Meaning.functions g.D.Disk.state g.met.D.Disk.sound kept c.args.store.now c.args.store.now here.0 c.args.mode s.0 _ (s.3 kept is) here.1
      c.args.number s.1 s.2 (c.as_slice.ensures.value ∙ c.in-Ok.ensures) refl;
}

pub returns-in_default-clause-under_way : goal.returns-in_default-clause-under_way
returns-in_default-clause-under_way g c =
    let here = known_world c.args.store.now.world c.requires.is_open in
    let s = c.requires.stands here.0 here.1 in
    none_standing_all g.R.Meaning.Meaning.functions g.D.Disk.state g.met.D.Disk.sound (g.W.Recipient.account c.args.writer.now) c.args.store.now here.0 c.args.mode s.0 here.1 s.3

pub returns-in-Ok-write_lines-clause-under_way : goal.returns-in-Ok-write_lines-clause-under_way
returns-in-Ok-write_lines-clause-under_way g c =
    let here = known_world c.args.store.now.world c.requires.is_open in
    none_handed g.R.Meaning.Meaning.functions g.D.Disk.state g.met.D.Disk.sound 0 0 (g.W.Recipient.account c.args.writer.now) (g.W.Recipient.account c.write_lines.new.self) c.args.store.now here.0 here.1
    (hands_lines g.R.Meaning.Meaning.functions g.D.Disk.state g.met.D.Disk.sound 0 0 0 (g.W.Recipient.account c.args.writer.now) (g.W.Recipient.account c.write_lines.new.self) c.args.store.now
    c.write_lines.ensures.kept refl c.keeps_its_world.ensures)

pub returns-clause-under_way : goal.returns-clause-under_way
returns-clause-under_way g c =
    let here = known_world c.args.store.now.world c.requires.is_open in
    none_handed g.R.Meaning.Meaning.functions g.D.Disk.state g.met.D.Disk.sound 0 0 (g.W.Recipient.account c.args.writer.now) (g.W.Recipient.account c.write_lines.new.self) c.args.store.now here.0 here.1
    (hands_lines g.R.Meaning.Meaning.functions g.D.Disk.state g.met.D.Disk.sound 0 0 0 (g.W.Recipient.account c.args.writer.now) (g.W.Recipient.account c.write_lines.new.self) c.args.store.now
    c.write_lines.ensures.kept refl c.keeps_its_world.ensures)
