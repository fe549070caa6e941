use Rattle.std.proofs.Common.{refl}
use Rattle.lisp_object.specs.declared.datum.Datum
use Rattle.lisp_object.specs.Datum.{object_of}
use Rattle.std.specs.Prelude.{None}
use Rattle.std_macros.proofs.Headed.{headed_object, headed_proper}
use Rattle.std_macros.proofs.SoundData.{headed_sound}
use Rattle.std_macros.proofs.values.headed_list.Goals as goal

pub returns-clause-object : goal.returns-clause-object
returns-clause-object c =
    headed_object c.args.name.now c.args.x c.push-2.new.self
    (rw (c.in_ok-push-2.ensures.ok, c.in_ok-push.ensures.ok, c.from_vec-items.ensures, c.in_ok-room.ensures.items, c.in_ok-symbol.ensures) refl)

pub returns-clause-proper : goal.returns-clause-proper
returns-clause-proper c sound = (
  headed_proper c.args.name.now c.args.x c.push-2.new.self
      (rw (c.in_ok-push-2.ensures.ok, c.in_ok-push.ensures.ok, c.from_vec-items.ensures, c.in_ok-room.ensures.items, c.in_ok-symbol.ensures) refl) c.requires.name sound.0,
  headed_sound c.args.name.now (object_of c.args.x) (Datum.List c.push-2.new.self None)
      (headed_object c.args.name.now c.args.x c.push-2.new.self
      (rw (c.in_ok-push-2.ensures.ok, c.in_ok-push.ensures.ok, c.from_vec-items.ensures, c.in_ok-room.ensures.items, c.in_ok-symbol.ensures) refl)) c.requires.name sound.1,
)
